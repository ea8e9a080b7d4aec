-- Cells that are lent to workers: lending shows what was shown, and no living cell lies in a part that is free.
use Rattle.std.proofs.Common.{◌≡◌, ◌≢◌, ℕ, ◌+◌, ◌<◌, ◌++◌, replicate, Some, inl, inr, refl, sym, ap, ◌∙◌, arith, pos}
use Rattle.std.proofs.lemmas.List.{append-nil}
use Rattle.semantics.specs.Cells.{Cell}
use Rattle.semantics.specs.Events.{Machine}
use Rattle.program.specs.declared.function.Program.{Program}
use Rattle.cactus.specs.declared.node.Node.{Node}
use Rattle.cactus.specs.Frames.{node_at}
use Rattle.frame_engine.specs.declared.activation.Places.{Places}
use Rattle.frame_engine.specs.declared.flat.Flat.{Flat}
use Rattle.frame_engine.specs.Shows.{IsIn, Layout, address}
use Rattle.schedule_workers.specs.declared.activation.Activation.{Activation}
use Rattle.schedule_workers.specs.declared.run.Block.{Block}
use Rattle.schedule_workers.specs.declared.run.Run.{Run}
use Rattle.schedule_workers.specs.Going.{TextFits}
use Rattle.schedule_workers.specs.Layouts.{layout_of}
use Rattle.schedule_workers.specs.Left.{LeavesAsShown}
use Rattle.schedule_workers.specs.Rooms.{IsRoomier}
use Rattle.schedule_workers.specs.Lent.{IsFree, IsVacant, place_at}
use Rattle.schedule_workers.specs.RunShown.{HasBlock, IsShown}
use Rattle.schedule_workers.proofs.Lying.{InBlock, InGlobals, lies}
use Rattle.schedule_workers.proofs.Roomy.{room_shown, vec_small}
use Rattle.schedule_workers.proofs.Stepping.{roomier_leaves, same_room}
use Rattle.schedule_workers.proofs.Uses.{same_uses}

-- ---- lending

-- the cells behind the end are lent, where none were
abbrev pub lending : Run → ℕ → Run
lending k cells = record k { lent = record { start = k.end; cells = cells }; end = k.end + cells }

module _ (prog : Program) (places : Places) (m : Machine) (k : Run) (cells : ℕ) (none : k.lent.cells ≡ 0) (shown : IsShown prog places m k) where
  owned_on : (slot : ℕ) (node : Node Activation) → node_at k.cactus slot ≡ Some node → HasBlock prog k.blocks.items (lending k cells).lent slot node.frame.frame
  owned_on slot node stands body some =
      let own = shown.agrees.blocks.owned slot node stands body some in
      let room = own.2.room in
      elim own.1 [
        | inl e ↦ (own.0, inl e, own.2)
        | inr w ↦ let from = w.0 in let to = w.1 in absurd (omega (arith, none, some, room, from, to))
      ]

  pub lent_shown : IsShown prog places m (lending k cells)
  lent_shown =
      let s = shown.shows in
      let a = shown.agrees in
      let b = a.blocks in
      record {
        shows = record { frames = s.frames; cells = s.cells; done = s.done; peak = s.peak; result = s.result; hands = s.hands; trapped = s.trapped };
        agrees = record {
          tree = a.tree;
          held = a.held;
          runners = a.runners;
          nodes = a.nodes;
          counts = a.counts;
          made = a.made;
          blocks = record {
            owned = owned_on;
            below = λ slot x is. let low = b.below slot x is in omega (arith, low);
            globals = (let low = b.globals in omega (arith, low));
            after = b.after;
            beside = b.beside;
            lent_after = b.globals;
            lent_below = omega arith;
            lent_beside = λ slot x is. inl (b.below slot x is);
          };
        };
      }

-- with a row that has grown, or not
more_cells : (old : Run) (row : Flat) (n : ℕ) → row.cells.items ≡ old.cells.cells.items ++ replicate n (pos 0) → IsRoomier old (record old { cells = row })
more_cells old row n grown = record { only = refl; cells = (n, grown); blocks = (0, sym (append-nil old.blocks.items)) }

module _ (prog : Program) (places : Places) (old : Run) where
  pub lends_nothing : LeavesAsShown prog places old old
  lends_nothing = roomier_leaves prog places old old (same_room old)

  pub lends_no_more : (row : Flat) → row.cells.items ≡ old.cells.cells.items → LeavesAsShown prog places old (record old { cells = row })
  lends_no_more row same = roomier_leaves prog places old (record old { cells = row }) (more_cells old row 0 (same ∙ sym (append-nil old.cells.cells.items)))

  pub lends : (row : Flat) (n cells : ℕ) → row.cells.items ≡ old.cells.cells.items ++ replicate n (pos 0) → old.lent.cells ≡ 0 → LeavesAsShown prog places old (lending (record old { cells = row }) cells)
  lends row n cells grown none = record {
    shown = λ m shown safe. lent_shown prog places m (record old { cells = row }) cells none (room_shown prog places old (record old { cells = row }) (more_cells old row n grown) m shown);
    hands = refl;
    uses = same_uses old.cactus;
    stalls = λ last agree. agree;
  }

-- ---- a part that is free

module _ (prog : Program) (places : Places) (moves : ℕ) (text : TextFits prog places moves) (k : Run) (m : Machine) (shown : IsShown prog places m k) (part : Block) (free : IsFree prog k part) where
  abbrev l : Layout
  l = layout_of prog places k.cactus m.core

  pub free_small : part.start + part.cells < 9223372036854775808
  free_small = let low = free.row in let small = vec_small k.cells.cells in omega (arith, low, small)

  module _ (vacant : IsVacant prog k part) (c : Cell) (n : ℕ) (within : n < part.cells) (at : address l c ≡ pos (part.start + n)) where
    end_small : k.end < 9223372036854775808
    end_small = let low = vacant.row in let small = vec_small k.cells.cells in omega (arith, low, small)

    same : (place : ℕ) → address l c ≡ pos place → place ≡ part.start + n
    same place is = ap place_at (sym is ∙ at)

    no_global : InGlobals prog places moves text k m shown end_small c → ⊥
    no_global g =
        let here = same g.place g.is in
        let low = g.below in
        let after = shown.agrees.blocks.lent_after in
        let from = vacant.within.0 in omega (arith, here, low, after, from)

    no_alloca : InBlock prog places moves text k m shown end_small c → ⊥
    no_alloca b =
        let here = same b.place b.is in
        let home : place_at b.node.frame.frame.home ≡ b.block.start = ap place_at b.home in
        let from = b.from in
        let own = b.own in
        elim (vacant.apart b.slot b.node b.stands b.body (omega (arith, from, own))) [
          | inl below ↦ omega (arith, here, home, from, own, below, within)
          | inr above ↦ omega (arith, here, home, from, own, above, within)
        ]

    no_cell : IsIn l c → ⊥
    no_cell h = elim (lies prog places moves text k m shown end_small c h) [ inl g ↦ no_global g | inr b ↦ no_alloca b ]

  -- no living cell has an address of the part's
  pub free_outside : (c : Cell) → IsIn l c → (n : ℕ) → n < part.cells → address l c ≢ pos (part.start + n)
  free_outside c h n within at = no_cell (free.vacant (omega (arith, within))) c n within at h
