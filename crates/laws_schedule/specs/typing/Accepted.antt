-- What the laws on runs ask of names and types, of each program that the verifier takes.
use Rattle.std.specs.Prelude.{◌≡◌, ℕ, List, true, is_some}
use Rattle.semantics.specs.Frames.{block_at}
use Rattle.program.specs.declared.function.Program.{Program}
use Rattle.laws_conditions.specs.rules.Registers.{returns_number}
use Rattle.laws_phases.specs.costs.Depths.{CallsUpward}
use Rattle.laws_phases.specs.defined.Defined.{AreUsesDefined}
use Rattle.laws_phases.specs.defined.Known.{NamesParameters}
use Rattle.laws_phases.specs.defined.Names.{IsNamed}
use Rattle.laws_phases.specs.defined.Values.{NamesObjects}
use Rattle.laws_phases.specs.facts.Owing.{IsTyped, AreFactsStable}
use Rattle.laws_phases.specs.facts.Stable.{ArePhisApart}
use Rattle.verifier.specs.Accepted.{IsProgramOf}
use Rattle.laws_schedule.specs.typing.Kinds.{HasKinds}

-- `main` is there, and gives a number
pub record HasMain (program : Program) : Type 0 where
  pub there : is_some (block_at program program.main.0 0) ≡ true
  pub gives : returns_number program program.main.0 ≡ true

-- what the laws ask of names, types and kinds, and what they give at once of the registers that a place knows
pub record HasNamesAndTypes (program : Program) : Type 0 where
  pub named : IsNamed program
  pub phis_apart : ArePhisApart program
  pub typed : IsTyped program
  pub parameters : NamesParameters program
  pub objects : NamesObjects program
  pub upward : CallsUpward program
  pub kinds : HasKinds program
  pub stable : AreFactsStable program
  pub uses : AreUsesDefined program
  pub main : HasMain program

abbrev pub AcceptedProgramsAreTyped : Type 0
AcceptedProgramsAreTyped = (text : List ℕ) (program : Program) → IsProgramOf text program → HasNamesAndTypes program
