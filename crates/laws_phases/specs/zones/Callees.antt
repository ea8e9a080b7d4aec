-- The law: what a callee may touch, its caller may touch at the call, clear of what is pending there.
use Rattle.std.specs.Prelude.{◌≡◌, ◌<◌, ℕ, List, length, Option, Some, All, Contains, slice_get}
use Rattle.linear.specs.declared.form.RegisterId.{RegisterId}
use Rattle.semantics.specs.Paths.{Path}
use Rattle.semantics.specs.Cells.{Cell, Memory}
use Rattle.semantics.specs.Frames.{Value, Frame}
use Rattle.semantics.specs.Effect.{Call, action_of}
use Rattle.semantics.specs.State.{called}
use Rattle.program.specs.declared.annotation.Zone.{Zone}
use Rattle.program.specs.declared.function.Block.{Block}
use Rattle.program.specs.declared.function.Function.{Function}
use Rattle.program.specs.declared.function.Program.{Program}
use Rattle.region_match.specs.declared.tables.Regions.{Regions}
use Rattle.laws_phases.specs.zones.Uses.{StandsIn, KnownHolds, NamesApart, HoldsCell, MayUse}
use Rattle.footprints.specs.Rules.{AreZonesRightBy}

-- the ends of the zone name parameters alone, of which there are n
pub record IsOverParameters (n : ℕ) (z : Zone) : Type 0 where
  pub low : All (λ t. t.register.0 < n) z.low.terms
  pub high : All (λ t. t.register.0 < n) z.high.terms

abbrev pub CalleesAreLet : Type 0
CalleesAreLet =
    (prog : Program) (regions : Regions) → AreZonesRightBy prog regions →
    (p : Path) (f : Frame) (m : Memory) (function : Function) (block : Block) → StandsIn prog f function block →
    KnownHolds prog f function block →
    NamesApart prog f →
    (d : Option RegisterId) (callee : ℕ) (values : List Value) → action_of prog p f m ≡ Call d callee values →
    (called_function : Function) → slice_get prog.functions callee ≡ Some called_function → (z : Zone) →
    Contains called_function.zones z →
    IsOverParameters (length values) z →
    (c : Cell) → HoldsCell (called p f callee values) z c → MayUse regions f function block z.mode c
