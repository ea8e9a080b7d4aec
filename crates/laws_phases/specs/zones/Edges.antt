-- The law: what is pending goes on along each edge.
use Rattle.std.specs.Prelude.{◌≡◌, true, List, Some, Any, Contains, slice_get}
use Rattle.linear_shown.specs.Shown.{AllHold}
use Rattle.linear.specs.declared.form.RegisterId.{RegisterId}
use Rattle.syntax.specs.declared.operator.Mode.{Mode}
use Rattle.semantics.specs.Cells.{Cell}
use Rattle.semantics.specs.Frames.{Frame, object_at}
use Rattle.program.specs.declared.annotation.Pending.{Pending}
use Rattle.program.specs.declared.annotation.Zone.{Zone}
use Rattle.program.specs.declared.identifier.BlockId.{BlockId}
use Rattle.program.specs.declared.identifier.ObjectName.{ObjectName}
use Rattle.program.specs.declared.instruction.Ending.{Ending}
use Rattle.program.specs.declared.instruction.Terminator.TheVariants.{Detach}
use Rattle.program.specs.declared.function.Block.{Block}
use Rattle.program.specs.declared.function.Function.{Function}
use Rattle.program.specs.declared.function.Program.{Program}
use Rattle.cfg.specs.declared.structure.Move.{Move}
use Rattle.cfg.specs.declared.structure.Way.TheVariants.{Continued}
use Rattle.region_match.specs.declared.tables.Regions.{Regions}
use Rattle.ranges.specs.declared.table.EdgeFacts.{EdgeFacts}
use Rattle.ranges.specs.ranges_owed.Inequalities.{operand_for}
use Rattle.ranges.specs.Places.{edges_known}
use Rattle.ranges.specs.Truth.{operand_value}
use Rattle.footprints.specs.Zones.{mode_covers}
use Rattle.footprints.specs.Footprints.{foot_of, hands_on, pending_of}
use Rattle.laws_conditions.specs.rules.Costs.{numbers}
use Rattle.laws_phases.specs.zones.Uses.{StandsIn, IsUsed, HoldsCell}
use Rattle.footprints.specs.Rules.{AreZonesRightBy}

-- g is f behind an edge: its registers are those of f with the moves made, and what its function names stands for the
-- same objects
pub record GoesAlong (prog : Program) (f g : Frame) (moves : List Move) : Type 0 where
  pub numbers_are : (x : RegisterId) →
      numbers g.registers x.0 ≡ operand_value (numbers f.registers) (operand_for moves x)
  pub objects : (name : ObjectName) → IsUsed prog.functions f.function name → object_at g name ≡ object_at f name

-- a zone that is pending of the region has the cell for such a use
abbrev pub IsPendingFor : Frame → List Pending → RegisterId → Mode → Cell → Type 0
IsPendingFor g pending region mode c = Any (λ q. (q.region.0 ≡ region.0) ×
    (HoldsCell g q.zone c × (mode_covers q.zone.mode mode ≡ true))) pending

-- a cell of what is pending is pending behind each edge that hands its region on
abbrev pub PendingGoesOn : Type 0
PendingGoesOn =
    (prog : Program) (regions : Regions) → AreZonesRightBy prog regions →
    (f g : Frame) (function : Function) (block : Block) (ending : Ending) → StandsIn prog f function block →
    block.ending ≡ Some ending →
    (edge : EdgeFacts) → Contains (edges_known prog.functions function f.block block (Some ending)) edge →
    AllHold (numbers f.registers) edge.facts →
    GoesAlong prog f g edge.moves →
    (q : Pending) → Contains block.pending q → hands_on edge.way q.region ≡ true → (c : Cell) → HoldsCell f q.zone c →
    IsPendingFor g (pending_of (slice_get function.blocks edge.to.0)) q.region q.zone.mode c

-- and a cell of a new child's foot is pending behind the edge to the continuation
abbrev pub FeetGoOn : Type 0
FeetGoOn =
    (prog : Program) (regions : Regions) → AreZonesRightBy prog regions →
    (f g : Frame) (function : Function) (block : Block) (ending : Ending) → StandsIn prog f function block →
    block.ending ≡ Some ending →
    (edge : EdgeFacts) → Contains (edges_known prog.functions function f.block block (Some ending)) edge →
    AllHold (numbers f.registers) edge.facts →
    GoesAlong prog f g edge.moves →
    (region : RegisterId) (body continuation : BlockId) → ending.terminator ≡ Detach region body continuation →
    edge.way ≡ Continued →
    (z : Zone) → Contains (foot_of (slice_get function.blocks body.0)) z → (c : Cell) → HoldsCell f z c →
    IsPendingFor g (pending_of (slice_get function.blocks edge.to.0)) region z.mode c
