-- What a program has that the verifier takes.
use Rattle.std.proofs.Common.{◌≡◌, ℕ, ◌<◌, List, length, Some, true, is_some, arith, Ok}
use Rattle.std.specs.Prelude.{slice_get}
use Rattle.std.specs.List.{All}
use Rattle.program.specs.declared.function.Function.{Function}
use Rattle.program.specs.declared.function.Program.{Program}
use Rattle.syntax.specs.declared.module.Module.{Module}
use Rattle.ir_reader.specs.Kept.{IsKeptModule}
use Rattle.ir_reader.proofs.Keeping.{answers_kept}
use Rattle.types.specs.Apart.{CallsApart}
use Rattle.types.specs.Definitions.{KeepsParameters}
use Rattle.types.specs.Meaning.{Means}
use Rattle.types.proofs.Programs.{program_apart, program_kept}
use Rattle.verifier.specs.Accepted.{IsRight, IsProgramOf, AreTasksOf}
use Rattle.laws_phases.specs.region_match.declared.tables.Regions.{Regions}
use Rattle.laws_phases.proofs.defined.Stable.{stable_by_rules}
use Rattle.laws_schedule.proofs.pointers.Anew.{read_anew}
use Rattle.laws_phases.specs.costs.Ends.{AreRulesRight}
use Rattle.laws_phases.specs.costs.Shown.{IsMeasured}
use Rattle.laws_schedule.specs.typing.Accepted.{HasNamesAndTypes}
use Rattle.laws_schedule.proofs.typing.Accepted.{accepted_programs_are_typed}
use Rattle.laws_schedule.proofs.typing.Laws.{measures_name_parameters}
use Rattle.laws_schedule.proofs.typing.Lists.{there}
use Rattle.laws_schedule.proofs.typing.Parts.{function_from}
use Rattle.verifier.proofs.Lists.{all_count}
use Rattle.laws_schedule.proofs.typing.Registers.{kept_function}
use Rattle.laws_schedule.specs.zones.ByPhases.{NamesZones, IsJudged}
use Rattle.laws_schedule.proofs.zones.ByRules.{judged_by_rules}

pub record IsTaken (program : Program) : Type 0 where
  pub names : HasNamesAndTypes program
  pub right : IsRight program
  pub measured : IsMeasured program
  pub apart : CallsApart program.functions
  pub parameters : KeepsParameters program.functions

module _ (whole : Module) (kept : IsKeptModule whole) (program : Program) (m : Means whole (Ok program)) where
  entry_there : (g : ℕ) (function : Function) → slice_get program.functions g ≡ Some function →
      is_some (slice_get function.blocks 0) ≡ true
  entry_there g function at =
      let from = function_from whole program m g function at in
      let l : 0 < length from.text.blocks = (kept_function whole kept g from.text from.at_text).some in
      let n : length function.blocks ≡ length from.text.blocks = all_count _ from.text.blocks function.blocks from.is.blocks_are in
      there function.blocks 0 (omega arith)

  measure_named : (g : ℕ) (function : Function) → slice_get program.functions g ≡ Some function →
      All (λ t. t.register.0 < length function.parameters) function.measure.form.terms
  measure_named g function at = let named = measures_name_parameters whole program m g in rw at at named

  pub taken : HasNamesAndTypes program → IsRight program → IsTaken program
  taken names right = record {
    names = names;
    right = right;
    measured = record { parameters = measure_named; entry = entry_there; upward = names.upward };
    apart = program_apart whole program m;
    parameters = program_kept whole program m (read_anew whole kept);
  }

pub is_taken : (text : List ℕ) (program : Program) → IsProgramOf text program → IsTaken program
is_taken text program accepted =
    taken accepted.0 (answers_kept text accepted.0 accepted.1) program accepted.2
    (accepted_programs_are_typed text program accepted) accepted.3

module _ (program : Program) (t : IsTaken program) where
  -- by any table of the blocks' tasks
  pub rules_right : (regions : Regions) → AreTasksOf program regions → AreRulesRight program regions
  rules_right regions table = record {
    named = t.names.named;
    readable = record {
      graph = t.right.graph;
      typed = t.names.typed;
      stable = t.names.stable;
      leaves = stable_by_rules program t.names.named t.right.graph t.right.regions t.names.uses;
      measured = t.measured;
    };
    tasks = t.right.regions;
    table = table;
    ranges = t.right.ranges;
    costs = t.right.costs;
  }

  -- the table by which the rules on zones are judged
  abbrev pub regions_of : Regions
  regions_of = t.right.zones.0

  pub judged : NamesZones program → IsJudged program regions_of
  judged zones = judged_by_rules program regions_of (record {
    tasks = t.right.zones.1;
    zones = t.right.zones.2;
    ranges = t.right.ranges;
    graph = t.right.graph;
    matched = t.right.regions;
    uses = t.names.uses;
    typed = t.names.typed;
    named = t.names.named;
    phis = t.names.phis_apart;
    apart = t.apart;
    parameters = t.parameters;
    names = zones;
  })
