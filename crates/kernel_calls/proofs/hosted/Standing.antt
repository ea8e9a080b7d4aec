-- What a board's machine stands as, and what is told of it.
use Rattle.std.proofs.Common.{◌≡◌, ◌∙◌, Bool, List, ℕ, ap, is_some, sym, subst}
use Rattle.frame.specs.declared.event.Event.{Event}
use Rattle.semantics.specs.Events.{Machine}
use Rattle.schedule_core.specs.Stages.{IsState}
use Rattle.schedule_core.specs.declared.stage.Stage.{Stage}
use Rattle.shared_run.specs.Story.{IsLegal, Origin, reached}
use Rattle.kernel_calls.specs.hosted.Hosted.{IsProgress, IsProgressBy, IsTold, IsToldBy}
use Rattle.kernel_calls.specs.declared.hosted.met.Met.{Met}
use Rattle.kernel_calls.specs.declared.hosted.met.Progress.{Progress}

pub stands : (start o : Origin) (before events : List Event) (kept stage : Stage) → IsLegal start before kept → start ≡ o → events ≡ before → stage ≡ kept → IsState stage (reached o events)
stands start o before events kept stage legal is same at =
    subst (λ (x : Stage). IsState x (reached o events)) (sym at)
    (subst (λ (l : List Event). IsState kept (reached o l)) (sym same) (subst (λ (x : Origin). IsState kept (reached x before)) is legal.replays.state))

pub ended_here : (start o : Origin) (before events : List Event) (ended : Bool) → ended ≡ is_some (reached start before).core.result → start ≡ o → events ≡ before →
    ended ≡ is_some (reached o events).core.result
ended_here start o before events ended is from same =
    is ∙ ap (λ (x : Origin). is_some (reached x before).core.result) from ∙ ap (λ (l : List Event). is_some (reached o l).core.result) (sym same)

pub told_here : (ended : Bool) (done fuel : ℕ) (met : Met) (m : Machine) → IsToldBy ended done fuel met → ended ≡ is_some m.core.result → done ≡ m.core.done → IsTold m fuel met
told_here ended done fuel met m told e d = subst (λ (b : Bool). IsToldBy b m.core.done fuel met) e (subst (λ (n : ℕ). IsToldBy ended n fuel met) d told)

pub progress_here : (ended : Bool) (done peak : ℕ) (progress : Progress) (m : Machine) → IsProgressBy ended done peak progress → ended ≡ is_some m.core.result → done ≡ m.core.done → peak ≡ m.core.peak →
    IsProgress m progress
progress_here ended done peak progress m has e d p = record { instructions = has.instructions ∙ d; peak = has.peak_is ∙ p; ended = has.ended_is ∙ e }
