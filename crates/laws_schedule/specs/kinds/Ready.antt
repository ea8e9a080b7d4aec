-- Where registers hold values of their kinds, all that an instruction reads is there.
use Rattle.semantics.specs.Paths.{Path}
use Rattle.semantics.specs.Cells.{Memory}
use Rattle.semantics.specs.Frames.{Frame}
use Rattle.program.specs.declared.function.Program.{Program}
use Rattle.laws_phases.specs.cfg.Rules.{IsGraphRight}
use Rattle.laws_phases.specs.region_match.Matched.{AreRegionsRight}
use Rattle.laws_conditions.specs.rules.Registers.{Registered}
use Rattle.laws_phases.specs.defined.Defined.{AreUsesDefined, IsAlways}
use Rattle.laws_phases.specs.defined.Placed.{IsPlaced}
use Rattle.laws_phases.specs.defined.Regions.{UsesOwnRegions}
use Rattle.laws_phases.specs.defined.Values.{ReadsValues}
use Rattle.laws_phases.specs.facts.Traps.{IsReady}
use Rattle.laws_schedule.specs.typing.Kinds.{HasKinds}
use Rattle.laws_schedule.specs.kinds.Holding.{HasKindedRegisters}
use Rattle.laws_schedule.specs.kinds.Uses.{HasKindedUses}

-- what the rules on the graph, regions, definedness and kinds say of a program
pub record IsReadByRules (prog : Program) : Type 0 where
  pub graph : IsGraphRight prog
  pub regions : AreRegionsRight prog
  pub defined : AreUsesDefined prog
  pub kinds : HasKinds prog
  pub uses : HasKindedUses prog

-- what is kept of a frame: its place, values in the registers that are defined there, of their kinds, values in the
-- cells that it reads, and regions of its own
pub record HoldsAll (prog : Program) (p : Path) (f : Frame) (m : Memory) : Type 0 where
  pub placed : IsPlaced prog f
  pub registers : Registered (IsAlways prog) p f m
  pub kinded : HasKindedRegisters prog f
  pub values : ReadsValues prog f m
  pub regions : UsesOwnRegions prog p f

abbrev pub FramesAreReady : Type 0
FramesAreReady = (prog : Program) → IsReadByRules prog → (p : Path) (f : Frame) (m : Memory) → HoldsAll prog p f m →
    IsReady prog p f m
