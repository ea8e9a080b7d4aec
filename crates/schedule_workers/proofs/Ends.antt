-- What is free at the ends of a worker's piece of what is lent.
use Rattle.std.proofs.Common.{◌≡◌, ◌⊎◌, ℕ, ◌+◌, ◌-◌, ◌<◌, ◌≤◌, Some, length, inl, inr, sym, ◌∙◌, arith}
use Rattle.std.specs.Prelude.{slice_get}
use Rattle.std.proofs.lemmas.Bool.Decides.{leb_tells}
use Rattle.program.specs.declared.function.Program.{Program}
use Rattle.frame.specs.declared.frame.Role.TheVariants.{Body}
use Rattle.cactus.specs.declared.node.Node.{Node}
use Rattle.cactus.specs.Frames.{node_at}
use Rattle.frame_engine.specs.declared.activation.Frame.{Frame}
use Rattle.schedule_workers.specs.declared.activation.Activation.{Activation}
use Rattle.schedule_workers.specs.declared.pieces.Taken.{Taken}
use Rattle.schedule_workers.specs.declared.run.Block.{Block}
use Rattle.schedule_workers.specs.declared.run.Run.{Run}
use Rattle.schedule_workers.specs.Lent.{IsAtEnd, IsFree, IsPartFor, IsVacant, own_block, piece_of}
use Rattle.schedule_workers.specs.Pieces.{Covers, HasFrame, HoldsUsable, IsTaken, IsUsable, IsWithFrame, Touches, own_end}
use Rattle.schedule_workers.specs.RunShown.{AreBeside, LiesWithin}

no_more : (a b : ℕ) → (0 < a → a ≤ b) → a ≤ b
no_more a b more = elim (leb_tells a 0) [ inl z ↦ (let low = z.1 in omega (arith, low)) | inr s ↦ more s.1 ]

-- what is there of a piece that has no usable cell
module _ (prog : Program) (k : Run) (worker : ℕ) (piece : Block) (none : piece.cells ≡ 0) (whole : HoldsUsable k worker piece) where
  no_other : (other : Block) → LiesWithin (piece_of k worker) other → IsFree prog k other → 0 < other.cells → other.cells ≤ 0
  no_other other within free some =
      let v = free.vacant some in
      let inside = whole other some within v.within free.row v.row in
      let from = inside.0 in
      let to = inside.1 in
      omega (arith, none, from, to)

  pub no_part : IsPartFor prog k worker (record { start = 0; cells = 0 })
  no_part = record {
    free = record { row = omega arith; vacant = λ some. absurd (omega (arith, some)) };
    within = λ some. absurd (omega (arith, some));
    most = λ other within free end. no_more other.cells 0 (no_other other within free);
  }

-- a frame that has allocas has some between the start and the limit, or beside
touches : (prog : Program) (start limit : ℕ) (f : Frame) → f.role ≡ Body → 0 < (own_block prog f).cells → Touches prog start limit f ⊎ ((limit ≤ (own_block prog f).start) ⊎ (own_end prog f ≤ start))
touches prog start limit f body some =
    elim (leb_tells limit (own_block prog f).start) [
      | inl above ↦ inr (inl above.1)
      | inr low ↦ elim (leb_tells (own_end prog f) start) [
        | inl below ↦ inr (inr below.1)
        | inr high ↦ inl (record { body = body; some = some; before = low.1; behind = high.1 })
      ]
    ]

module _ (prog : Program) (k : Run) (worker : ℕ) (piece : Block) (usable : IsUsable k worker piece) (whole : HoldsUsable k worker piece) (t : Taken) (taken : IsTaken prog k piece.start (piece.start + piece.cells) t) where
  abbrev piece_end : ℕ
  piece_end = piece.start + piece.cells

  -- ---- the part before, and the part behind

  module _ (part : Block) (start : part.start ≡ piece.start) (cells : part.cells ≡ t.from - piece.start) where
    front_beside : (f : Frame) → Covers prog piece.start piece_end f t → f.role ≡ Body → 0 < (own_block prog f).cells → 0 < part.cells → AreBeside (own_block prog f) part
    front_beside f covers body own some =
        let low = taken.low in
        elim (touches prog piece.start piece_end f body own) [
          | inl touch ↦ (let from = (covers touch).0 in inr (omega (arith, start, cells, some, from)))
          | inr apart ↦ elim apart [
            | inl above ↦ inr (omega (arith, start, cells, some, above, low))
            | inr below ↦ inl (omega (arith, start, below))
          ]
        ]

    front_row : part.start + part.cells ≤ length k.cells.cells.items
    front_row = let low = taken.low in let row = usable.row in omega (arith, start, cells, low, row)

    front_in : (outer : Block) → LiesWithin outer piece → 0 < part.cells → LiesWithin outer part
    front_in outer within some =
        let low = taken.low in
        let from = within.0 in
        let to = within.1 in (
          omega (arith, start, from),
          omega (arith, start, cells, some, low, to),
        )

    pub front_free : IsFree prog k part
    front_free = record {
      row = front_row;
      vacant = λ some. record {
        within = front_in k.lent usable.lent some;
        row = usable.end;
        apart = λ slot node stands body own. front_beside node.frame.frame (taken.covers slot node stands) body own some;
      };
    }

    pub front_within : 0 < part.cells → LiesWithin (piece_of k worker) part
    front_within some = front_in (piece_of k worker) usable.piece some

  module _ (part : Block) (end : part.start + part.cells ≡ piece_end) (cells : part.cells ≡ piece_end - t.to) where
    back_beside : (f : Frame) → Covers prog piece.start piece_end f t → f.role ≡ Body → 0 < (own_block prog f).cells → 0 < part.cells → AreBeside (own_block prog f) part
    back_beside f covers body own some =
        let high = taken.high in
        elim (touches prog piece.start piece_end f body own) [
          | inl touch ↦ elim (covers touch).1 [
            | inl to ↦ inl (omega (arith, end, cells, some, to))
            | inr all ↦ absurd (omega (arith, cells, some, all))
          ]
          | inr apart ↦ elim apart [
            | inl above ↦ inr (omega (arith, end, above))
            | inr below ↦ inl (omega (arith, end, cells, some, below, high))
          ]
        ]

    back_row : part.start + part.cells ≤ length k.cells.cells.items
    back_row = let row = usable.row in omega (arith, end, row)

    back_in : (outer : Block) → LiesWithin outer piece → 0 < part.cells → LiesWithin outer part
    back_in outer within some =
        let high = taken.high in
        let from = within.0 in
        let to = within.1 in (
          omega (arith, end, cells, some, from, high),
          omega (arith, end, to),
        )

    pub back_free : IsFree prog k part
    back_free = record {
      row = back_row;
      vacant = λ some. record {
        within = back_in k.lent usable.lent some;
        row = usable.end;
        apart = λ slot node stands body own. back_beside node.frame.frame (taken.covers slot node stands) body own some;
      };
    }

    pub back_within : 0 < part.cells → LiesWithin (piece_of k worker) part
    back_within some = back_in (piece_of k worker) usable.piece some

  -- ---- none at an end is larger

  module _ (other : Block) (some : 0 < other.cells) (within : LiesWithin (piece_of k worker) other) (vacant : IsVacant prog k other) (inside : LiesWithin piece other) where
    front_most : other.start ≡ (piece_of k worker).start → other.cells ≤ t.from - piece.start
    front_most at =
        let here : other.start ≡ piece.start = at ∙ sym usable.start in
        let to = inside.1 in
        elim taken.from [
          | inl all ↦ omega (arith, here, to, all)
          | inr found ↦
              let (slot, node, stands, has) = found in
              let touch = has.0 in
              let is = has.1 in
              let behind = touch.behind in
              elim (vacant.apart slot node stands touch.body touch.some) [
                | inl below ↦ absurd (omega (arith, here, behind, below))
                | inr above ↦ omega (arith, here, is, above)
              ]
        ]

    back_most : other.start + other.cells ≡ (piece_of k worker).start + (piece_of k worker).cells → other.cells ≤ piece_end - t.to
    back_most at =
        let outer = usable.piece.1 in
        let to = inside.1 in
        let from = inside.0 in
        let here : other.start + other.cells ≡ piece_end = omega (arith, at, outer, to) in
        elim taken.to [
          | inl all ↦ omega (arith, here, from, all)
          | inr found ↦
              let (slot, node, stands, has) = found in
              let touch = has.0 in
              let is = has.1 in
              let before = touch.before in
              elim (vacant.apart slot node stands touch.body touch.some) [
                | inl below ↦ omega (arith, here, is, below)
                | inr above ↦ absurd (omega (arith, here, before, above))
              ]
        ]

  module _ (part : Block) (front : t.from - piece.start ≤ part.cells) (back : piece_end - t.to ≤ part.cells) where
    most_of : (other : Block) → LiesWithin (piece_of k worker) other → IsFree prog k other → IsAtEnd (piece_of k worker) other → 0 < other.cells → other.cells ≤ part.cells
    most_of other within free end some =
        let v = free.vacant some in
        let inside = whole other some within v.within free.row v.row in
        elim end [
          | inl at ↦ (let low = front_most other some within v inside at in omega (arith, low, front))
          | inr at ↦ (let low = back_most other some within v inside at in omega (arith, low, back))
        ]

    pub part_for : ((part.start ≡ piece.start) × (part.cells ≡ t.from - piece.start)) ⊎ ((part.start + part.cells ≡ piece_end) × (part.cells ≡ piece_end - t.to)) → IsPartFor prog k worker part
    part_for (inl is) = record { free = front_free part is.0 is.1; within = front_within part is.0 is.1; most = λ other within free end. no_more other.cells part.cells (most_of other within free end) }
    part_for (inr is) = record { free = back_free part is.0 is.1; within = back_within part is.0 is.1; most = λ other within free end. no_more other.cells part.cells (most_of other within free end) }

-- ---- frame by frame

covers_more : (prog : Program) (start limit : ℕ) (f : Frame) (old new : Taken) → new.from ≤ old.from → old.to ≤ new.to → Covers prog start limit f old → Covers prog start limit f new
covers_more prog start limit f old new down up covers touch =
    let c = covers touch in
    let from = c.0 in (
      omega (arith, from, down),
      elim c.1 [ inl to ↦ inl (omega (arith, to, up)) | inr all ↦ inr (omega (arith, all, up)) ],
    )

pub covers_next : (prog : Program) (start limit : ℕ) (f g : Frame) (old new : Taken) → IsWithFrame prog start limit g old new → Covers prog start limit f old → Covers prog start limit f new
covers_next prog start limit f g old new w covers = covers_more prog start limit f old new w.from_down w.to_up covers

pub from_next : (prog : Program) (k : Run) (start limit slot : ℕ) (node : Node Activation) (old new : Taken) → node_at k.cactus slot ≡ Some node → IsWithFrame prog start limit node.frame.frame old new →
    (old.from ≡ limit) ⊎ HasFrame k (λ f. Touches prog start limit f × (old.from ≡ (own_block prog f).start)) →
    (new.from ≡ limit) ⊎ HasFrame k (λ f. Touches prog start limit f × (new.from ≡ (own_block prog f).start))
from_next prog k start limit slot node old new stands w was =
    elim w.from [
      | inr now ↦ inr (slot, node, stands, now)
      | inl same ↦ elim was [
        | inl all ↦ inl (same ∙ all)
        | inr found ↦ (let (s, n, is, has) = found in inr (s, n, is, (has.0, same ∙ has.1)))
      ]
    ]

pub to_next : (prog : Program) (k : Run) (start limit slot : ℕ) (node : Node Activation) (old new : Taken) → node_at k.cactus slot ≡ Some node → IsWithFrame prog start limit node.frame.frame old new →
    (old.to ≡ start) ⊎ HasFrame k (λ f. Touches prog start limit f × (old.to ≤ own_end prog f)) →
    (new.to ≡ start) ⊎ HasFrame k (λ f. Touches prog start limit f × (new.to ≤ own_end prog f))
to_next prog k start limit slot node old new stands w was =
    elim w.to [
      | inr now ↦ inr (slot, node, stands, now)
      | inl same ↦ elim was [
        | inl all ↦ inl (same ∙ all)
        | inr found ↦ (let (s, n, is, has) = found in let low = has.1 in inr (s, n, is, (has.0, omega (arith, same, low))))
      ]
    ]
