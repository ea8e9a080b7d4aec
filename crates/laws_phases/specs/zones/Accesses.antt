-- The law: each cell that an instruction uses lies in a zone that covers its place, clear of what is pending there.
use Rattle.std.specs.Prelude.{◌≡◌}
use Rattle.syntax.specs.declared.operator.Mode.{Mode}
use Rattle.semantics.specs.Paths.{Path}
use Rattle.semantics.specs.Cells.{Cell, Memory}
use Rattle.semantics.specs.Frames.{Frame}
use Rattle.semantics.specs.Effect.{Effect, Plain, action_of}
use Rattle.program.specs.declared.function.Block.{Block}
use Rattle.program.specs.declared.function.Function.{Function}
use Rattle.program.specs.declared.function.Program.{Program}
use Rattle.region_match.specs.declared.tables.Regions.{Regions}
use Rattle.footprints.specs.Rules.{AreZonesRightBy}
use Rattle.laws_phases.specs.zones.Uses.{Uses, StandsIn, KnownHolds, NamesApart, ElementsHold, MayUse}

abbrev pub AccessesAreLet : Type 0
AccessesAreLet =
    (prog : Program) (regions : Regions) → AreZonesRightBy prog regions →
    (p : Path) (f : Frame) (m : Memory) (function : Function) (block : Block) → StandsIn prog f function block →
    KnownHolds prog f function block →
    NamesApart prog f → ElementsHold f block →
    (e : Effect) → action_of prog p f m ≡ Plain e → (mode : Mode) (c : Cell) → Uses e mode c →
    MayUse regions f function block mode c
