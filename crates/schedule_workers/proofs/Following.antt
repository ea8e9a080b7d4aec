-- What a steal leaves of the slots: frames in their uses, and stalled where they were.
use Rattle.std.proofs.Common.{◌≡◌, ℕ, Option, Some, None, Bool, true, false, refl, sym, subst}
use Rattle.std.specs.Prelude.{IsTrue}
use Rattle.cactus.specs.Frames.{Frames, frame_at}
use Rattle.schedule_workers.specs.declared.activation.Activation.{Activation}
use Rattle.schedule_workers.specs.declared.run.Run.{Run}
use Rattle.schedule_workers.specs.Follows.{Follows}
use Rattle.schedule_workers.specs.Stalls.{KeepsStalls}
use Rattle.schedule_workers.specs.Tasks.{run_at, run_by, Takes}
use Rattle.schedule_workers.proofs.Noted.{run_free, written_keeps}
use Rattle.schedule_workers.proofs.Uses.{follows_same, keeps_follows, written_uses}

module _ (frames : Frames Activation) (slot worker : ℕ) where
  taken_follows : (o : Option Activation) → Follows frames (run_at frames slot worker o)
  taken_follows None = follows_same frames
  taken_follows (Some a) = keeps_follows frames (run_at frames slot worker (Some a)) (written_uses frames slot (run_by worker a))

  taken_stalls : (o : Option Activation) → KeepsStalls frames (run_at frames slot worker o)
  taken_stalls None = λ last agree. agree
  taken_stalls (Some a) = written_keeps frames slot (run_by worker a) (λ n here last h. run_free (run_by worker a) worker refl last)

-- the worker takes the task, or nothing changes
module _ (k new : Run) (worker top : ℕ) (did : Bool) (left : ¬ IsTrue did → new ≡ k) (takes : IsTrue did → Takes k new worker top) where
  pub steal_follows : Follows k.cactus new.cactus
  steal_follows = from did left takes
    where
      from : (b : Bool) → (¬ IsTrue b → new ≡ k) → (IsTrue b → Takes k new worker top) → Follows k.cactus new.cactus
      from true same becomes = subst (λ (n : Run). Follows k.cactus n.cactus) (sym (becomes refl).is) (taken_follows k.cactus top worker (frame_at k.cactus top))
      from false same becomes = subst (λ (n : Run). Follows k.cactus n.cactus) (sym (same (λ e. cc))) (follows_same k.cactus)

  pub steal_stalls : KeepsStalls k.cactus new.cactus
  steal_stalls = from did left takes
    where
      from : (b : Bool) → (¬ IsTrue b → new ≡ k) → (IsTrue b → Takes k new worker top) → KeepsStalls k.cactus new.cactus
      from true same becomes = subst (λ (n : Run). KeepsStalls k.cactus n.cactus) (sym (becomes refl).is) (taken_stalls k.cactus top worker (frame_at k.cactus top))
      from false same becomes = subst (λ (n : Run). KeepsStalls k.cactus n.cactus) (sym (same (λ e. cc))) (λ last agree. agree)
