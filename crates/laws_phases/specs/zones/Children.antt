-- The law: what a new child may touch, its parent may touch at the detach, clear of what is pending there.
use Rattle.std.specs.Prelude.{◌≡◌, ℕ, Contains, slice_get}
use Rattle.semantics.specs.Paths.{Path}
use Rattle.semantics.specs.Cells.{Cell, Memory}
use Rattle.semantics.specs.Frames.{Frame}
use Rattle.semantics.specs.Effect.{Detach, action_of}
use Rattle.semantics.specs.State.{detached}
use Rattle.program.specs.declared.annotation.Zone.{Zone}
use Rattle.program.specs.declared.function.Block.{Block}
use Rattle.program.specs.declared.function.Function.{Function}
use Rattle.program.specs.declared.function.Program.{Program}
use Rattle.region_match.specs.declared.tables.Regions.{Regions}
use Rattle.footprints.specs.Footprints.{foot_of}
use Rattle.laws_phases.specs.zones.Uses.{StandsIn, KnownHolds, NamesApart, HoldsCell, MayUse}
use Rattle.footprints.specs.Rules.{AreZonesRightBy}

abbrev pub FeetAreLet : Type 0
FeetAreLet =
    (prog : Program) (regions : Regions) → AreZonesRightBy prog regions →
    (p : Path) (f : Frame) (m : Memory) (function : Function) (block : Block) → StandsIn prog f function block →
    KnownHolds prog f function block →
    NamesApart prog f →
    (region body continuation : ℕ) → action_of prog p f m ≡ Detach region body continuation →
    (z : Zone) → Contains (foot_of (slice_get function.blocks body)) z → (c : Cell) →
    HoldsCell (detached f region body continuation) z c →
    MayUse regions f function block z.mode c
