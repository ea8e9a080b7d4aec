-- What each step keeps of each frame is so of all frames, in each state that a schedule leads to.
use Rattle.std.proofs.Common.{◌≡◌, List, [], None, true, sym, subst, ℤ}
use Rattle.semantics.specs.Paths.{Path}
use Rattle.semantics.specs.Cells.{Memory}
use Rattle.semantics.specs.Frames.{Frame}
use Rattle.semantics.specs.State.{State, Change, apply, root_frame, start_state}
use Rattle.semantics.proofs.Starting.{at_start}
use Rattle.semantics.proofs.Steps.{Does}
use Rattle.program.specs.declared.function.Program.{Program}
use Rattle.laws_schedule.specs.zones.ByPhases.{IsKeptBySteps}
use Rattle.laws_schedule.specs.safe.Kept.{OfAll, KeepsEverywhere, KeptIsEverywhere}
use Rattle.laws_schedule.proofs.safe.Made.{PassesOn, all_after}
use Rattle.laws_schedule.proofs.safe.Replayed.{replay_good}

module _ (prog : Program) (holds : Path → Frame → Type 0) (kept : IsKeptBySteps prog holds) where
  passes : (s : State) (p : Path) → PassesOn prog s p holds holds
  passes s p = record {
    stays = λ x g is h. h;
    plain = λ f e is h going at fine. kept.plain p f s.memory e h going at fine;
    child = λ f r b n is h going at. kept.child p f s.memory r b n h going at;
    continues = λ f r b n is h going at. kept.continues p f s.memory r b n h going at;
    syncs = λ f r b rs is h going at. kept.syncs p f s.memory r b rs h going at;
    callee = λ f d g vs is h going at. kept.callee p f s.memory d g vs h going at;
    waits = λ f d g vs is h going at. kept.waits p f s.memory d g vs h going at;
    resumes = λ x g k d result is h waits. kept.resumes x g k d result h waits;
  }

  pub step_keeps : (s : State) (p : Path) (c : Change) → Does prog s p c → c.trap ≡ None → OfAll s holds → OfAll (apply c s) holds
  step_keeps s p c does fine all = all_after prog s p holds holds (passes s p) all c does fine

pub everywhere : (prog : Program) (holds : Path → Frame → Type 0) → KeepsEverywhere prog holds
everywhere prog holds kept workers m never all events = replay_good prog workers (λ s. OfAll s holds) (step_keeps prog holds kept) events m never all

pub kept_is_everywhere : KeptIsEverywhere
kept_is_everywhere prog test = everywhere prog (λ p f. test p f ≡ true)

-- at the start it is enough that it is so of the first frame
pub of_first : (prog : Program) (arguments : List ℤ) (memory : Memory) (holds : Path → Frame → Type 0) → holds [] (root_frame prog arguments) → OfAll (start_state prog arguments memory) holds
of_first prog arguments memory holds h p f is =
    let at = at_start prog arguments memory p f is in
    subst (λ (x : Path). holds x f) (sym at.0) (subst (λ (g : Frame). holds [] g) (sym at.1) h)
