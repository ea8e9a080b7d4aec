-- The first frame keeps to the zones of its function.
use Rattle.std.proofs.Common.{◌≡◌, ◌∙◌, inr, List, [], Some, true, ℤ, refl, sym, ap, subst, arith, slice_get}
use Rattle.std.specs.List.{Contains}
use Rattle.semantics.specs.Paths.{Path}
use Rattle.semantics.specs.Below.{itself}
use Rattle.semantics.specs.Frames.{Frame}
use Rattle.semantics.specs.State.{root_frame}
use Rattle.program.specs.declared.function.Block.{Block}
use Rattle.program.specs.declared.function.Function.{Function}
use Rattle.program.specs.declared.function.Program.{Program}
use Rattle.laws_phases.specs.region_match.declared.tables.Regions.{Regions}
use Rattle.laws_phases.specs.footprints.Rules.{covering_of}
use Rattle.laws_phases.specs.defined.Leads.{IsBlock}
use Rattle.laws_phases.specs.facts.Known.{KnownHold}
use Rattle.laws_schedule.proofs.pointers.Runs.{root_known}
use Rattle.laws_phases.specs.zones.Uses.{task_of}
use Rattle.laws_schedule.specs.zones.Keeping.{Keeping, OfTask, Fits}
use Rattle.laws_schedule.specs.zones.ByPhases.{IsJudged}
use Rattle.laws_schedule.specs.zones.Conditions.{ZonesAtStart}
use Rattle.laws_schedule.proofs.zones.Clear.{lets_zones}
use Rattle.laws_schedule.proofs.zones.Tasks.{task_is}
use Rattle.laws_schedule.proofs.Waits.{free_never}

module _ (prog : Program) (regions : Regions) (judged : IsJudged prog regions) (arguments : List ℤ) (function : Function) (block : Block) (is : IsBlock prog prog.main.0 0 function block) where
  abbrev root : Frame
  root = root_frame prog arguments

  abbrev keeping : Keeping
  keeping = OfTask root function.zones []

  covering_is : (g : Function) → slice_get prog.functions prog.main.0 ≡ Some g → covering_of g (task_of regions root) ≡ function.zones
  covering_is g at =
      let same : g ≡ function = (let both : Some g ≡ Some function = sym at ∙ is.at_function in cc) in
      ap (λ t. covering_of g t) (task_is prog regions judged.tasks prog.main.0 0 function block is [] ([], refl, refl)) ∙ ap (λ (x : Function). x.zones) same

  pub root_fits : (base : Path → Frame → Type 0) → base [] root → KnownHold prog root → Fits prog regions base [] root keeping
  root_fits base based known = record {
    placed = record { function = function; block = block; is = is; within = omega arith; task = []; has_task = ([], refl, refl); suits = tt };
    based = based;
    knows = λ g. known;
    elements = λ j r name index c less there cell. absurd (omega (arith, less));
    names = root_known prog judged.apart judged.parameters arguments;
    at_home = itself;
    own = λ h. refl;
    covers = λ g at y within c holds.
        let within2 : Contains function.zones y = subst (λ ys. Contains ys y) (covering_is g at) within in
        lets_zones prog root function.zones [] y within2 c holds;
    owns = λ c below. (inr below, inr below);
    returns = λ v h role. h;
    awaits = λ k e w. absurd (free_never k e w);
  }

pub zones_at_start : ZonesAtStart
zones_at_start prog regions base judged arguments function block is based known = root_fits prog regions judged arguments function block is (λ p f. base p f ≡ true) based known
