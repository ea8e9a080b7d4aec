-- What a cactus ends as, where a `&mut` to a frame is lent.
use Rattle.std.specs.Prelude.{ℕ, Option, Some, None, slice_set}
use Rattle.std.specs.Borrow.{LendsIf, Fml, RattleType, MutBor}
use Rattle.cactus.specs.declared.node.Node.{Node}
use Rattle.cactus.specs.Frames.{Frames, node_at}
use Rattle.cactus.specs.contracts.cactus.Cactus.{the_row}

module _ {F : Type 0} where
  abbrev pub written : Frames F → ℕ → Option (Node F) → F → Frames F
  written frames slot None frame = frames
  written frames slot (Some node) frame =
      record frames { nodes = slice_set frames.nodes slot (Some (record node { frame = frame })) }

  -- the frames, with another frame in a slot that is not free
  abbrev pub with_frame : Frames F → ℕ → F → Frames F
  with_frame frames slot frame = written frames slot (node_at frames slot) frame

-- once the borrow ends, the slot's frame is the last value written through it
abbrev pub lends_frame : (F : RattleType) → MutBor (Frames F.Denot) → ℕ → Option (MutBor F.Denot) → Fml
lends_frame F s slot r = LendsIf (the_row F) F s r (with_frame s.now slot) s.now
