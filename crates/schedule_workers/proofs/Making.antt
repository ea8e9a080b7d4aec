-- Room that is made for a frame, and a worker's piece of what is lent.
use Rattle.std.proofs.Common.{◌≡◌, ℕ, zero, suc, ◌+◌, ◌-◌, ◌*◌, ◌/◌, ◌<◌, ◌≤◌, min, max, ◌++◌, ◌⊎◌, length, length-append, replicate, Option, Some, None, sym, ap, ◌∙◌, arith, pos}
use Rattle.std.specs.Prelude.{SomeIff, slice_get}
use Rattle.std.specs.Option.{unwrap_or}
use Rattle.std.specs.Vec.{vec_len}
use Rattle.std.proofs.lemmas.List.{append-nil, length-replicate}
use Rattle.frame_engine.specs.declared.flat.Flat.{Flat}
use Rattle.schedule_workers.specs.declared.run.Block.{Block}
use Rattle.schedule_workers.specs.declared.run.Run.{Run}
use Rattle.schedule_workers.specs.Lent.{piece_of}
use Rattle.schedule_workers.specs.Pieces.{HoldsUsable, IsUsable}
use Rattle.schedule_workers.specs.Rooms.{IsRoom, IsRoomier, empty_at}

-- ---- room

module _ (old reached : Run) (cells : Flat) (only : reached ≡ record old { blocks = reached.blocks }) (kept : (n : ℕ) × (reached.blocks.items ≡ old.blocks.items ++ replicate n (empty_at old.end))) where
  pub roomier : (n : ℕ) → cells.cells.items ≡ reached.cells.cells.items ++ replicate n (pos 0) → IsRoomier old (record reached { cells = cells })
  roomier n grown = record {
    only = ap (λ (x : Run). record x { cells = cells }) only;
    cells = (n, grown ∙ ap (λ (x : Run). x.cells.cells.items ++ replicate n (pos 0)) only);
    blocks = kept;
  }

  pub roomier_still : cells.cells.items ≡ reached.cells.cells.items → IsRoomier old (record reached { cells = cells })
  roomier_still same = roomier 0 (same ∙ sym (append-nil reached.cells.cells.items))

module _ (k : Run) (cells : Flat) (b : Block) (end most long missing : ℕ) (ends : end ≡ b.start + b.cells) (most_is : most ≡ max end k.end) (long_is : long ≡ vec_len k.cells.cells) (missing_is : missing ≡ most - long) (grown : cells.cells.items ≡ k.cells.cells.items ++ replicate missing (pos 0)) where
  reaches : most ≤ length cells.cells.items
  reaches =
      let count = ap (λ xs. length xs) grown in
      let both = length-append k.cells.cells.items (replicate missing (pos 0)) in
      let more = length-replicate missing (pos 0) in
      let had = k.cells.cells.ok.0 in
      omega (arith, count, both, more, had, long_is, missing_is)

  pub has_room : (slot wanted : ℕ) → slot < length k.blocks.items → wanted ≤ b.cells → (slice_get k.blocks.items slot ≡ Some b) ⊎ (b.start ≡ k.end) → IsRoom (record k { cells = cells }) slot wanted b
  has_room slot wanted there enough is = record {
    there = there;
    room = enough;
    is = is;
    end = let r = reaches in omega (arith, most_is, r);
    within = let r = reaches in omega (arith, most_is, ends, r);
  }

-- ---- a worker's piece

pub share_is : (r : Option ℕ) (cells hands : ℕ) → SomeIff r (0 < hands) (cells / hands) → unwrap_or r 0 ≡ cells / hands
share_is None cells zero none = omega arith
share_is None cells (suc n) none = absurd (none (omega arith))
share_is (Some x) cells hands is = is.1

module _ (lent_start lent_cells share product row before start lent sum low limit cells : ℕ)
    (before_is : before ≡ min product 18446744073709551615)
    (start_is : start ≡ min (lent_start + before) 18446744073709551615)
    (lent_is : lent ≡ min (lent_start + lent_cells) 18446744073709551615)
    (sum_is : sum ≡ min (start + share) 18446744073709551615)
    (low_is : low ≡ min sum lent)
    (limit_is : limit ≡ min low row)
    (cells_is : cells ≡ limit - start)
    (small : row < 9223372036854775808) where
  record Lies : Type 0 where
    pub at : start ≡ lent_start + product
    pub in_piece : start + cells ≤ lent_start + product + share
    pub lended : start + cells ≤ lent_start + lent_cells
    pub rowed : start + cells ≤ row

  lies : 0 < cells → Lies
  lies some =
      let ends : start + cells ≡ limit = omega (arith, cells_is, some) in
      let rows : limit ≤ row = omega (arith, limit_is) in
      let under : limit ≤ low = omega (arith, limit_is) in
      let summed : low ≤ sum = omega (arith, low_is) in
      let lended : low ≤ lent = omega (arith, low_is) in
      let in_sum : sum ≤ start + share = omega (arith, sum_is) in
      let in_lent : lent ≤ lent_start + lent_cells = omega (arith, lent_is) in
      let begins : start ≡ lent_start + before = omega (arith, start_is, ends, rows, small, some) in
      let whole : before ≡ product = omega (arith, before_is, begins, ends, rows, small, some) in
      record {
        at = omega (arith, begins, whole);
        in_piece = omega (arith, begins, whole, ends, under, summed, in_sum);
        lended = omega (arith, ends, under, lended, in_lent);
        rowed = omega (arith, ends, rows);
      }

  holds : (from end : ℕ) → lent_start + product ≤ from → end ≤ lent_start + product + share → end ≤ lent_start + lent_cells → end ≤ row → from ≤ end → (start ≤ from) × (end ≤ start + cells)
  holds from end after within lended rowed ordered =
      let whole : before ≡ product = omega (arith, before_is, after, ordered, rowed, small) in
      let begins : start ≡ lent_start + product = omega (arith, start_is, whole, after, ordered, rowed, small) in
      let in_sum : end ≤ sum = omega (arith, sum_is, begins, within, rowed, small) in
      let in_lent : end ≤ lent = omega (arith, lent_is, lended, rowed, small) in
      let in_low : end ≤ low = omega (arith, low_is, in_sum, in_lent) in
      let in_limit : end ≤ limit = omega (arith, limit_is, in_low, rowed) in
      (omega (arith, begins, after), omega (arith, cells_is, in_limit, begins, after, ordered))

  module _ (k : Run) (worker : ℕ) (starts : k.lent.start ≡ lent_start) (many : k.lent.cells ≡ lent_cells) (shared : share ≡ (piece_of k worker).cells) (multiple : product ≡ (piece_of k worker).cells * worker) (long : row ≡ length k.cells.cells.items) (ended : k.end ≤ row) where
    at_piece : lent_start + product ≡ (piece_of k worker).start
    at_piece = omega (arith, starts, multiple)

    pub usable : 0 < cells → IsUsable k worker (record { start = start; cells = cells })
    usable some =
        let l = lies some in
        let at = l.at in
        let piece = l.in_piece in
        let lended = l.lended in
        let rowed = l.rowed in
        let here = at_piece in
        record {
          start = at ∙ here;
          piece = (omega (arith, at, here), omega (arith, piece, here, shared));
          lent = (omega (arith, at, starts), omega (arith, lended, starts, many));
          row = omega (arith, rowed, long);
          end = omega (arith, ended, long);
        }

    pub holds_usable : HoldsUsable k worker (record { start = start; cells = cells })
    holds_usable other some piece lies_in rowed end =
        let here = at_piece in
        let after : lent_start + product ≤ other.start = let p = piece.0 in omega (arith, here, p) in
        let within : other.start + other.cells ≤ lent_start + product + share = let p = piece.1 in omega (arith, here, p, shared) in
        let lended : other.start + other.cells ≤ lent_start + lent_cells = let p = lies_in.1 in omega (arith, p, starts, many) in
        holds other.start (other.start + other.cells) after within lended (omega (arith, rowed, long)) (omega arith)
