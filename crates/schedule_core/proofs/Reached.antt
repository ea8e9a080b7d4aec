-- What holds of every state that a schedule leads to where no step has trapped.
use Rattle.std.proofs.Common.{◌≡◌, ℕ, ◌≤◌, List, [], ◌∷◌, ◌++◌, Some, None, refl, ap, ◌∙◌, subst}
use Rattle.semantics.specs.Events.{Machine, Event, event, start}
use Rattle.semantics.specs.Replay.{replay, or_unchanged}
use Rattle.semantics.proofs.Workers.{Manned}
use Rattle.semantics.proofs.Starting.{start_manned}
use Rattle.laws_strands.proofs.stacks.Reached.{after_replay}
use Rattle.program.specs.declared.function.Program.{Program}
use Rattle.schedule_core.specs.Stages.{IsReached}

module _ (prog : Program) (workers : ℕ) where
  pub reached_manned : (c : Machine) → 1 ≤ workers → IsReached prog workers c → c.trapped ≡ None → Manned workers c.core c.hands
  reached_manned c some r fine =
      subst (λ (x : Machine). Manned workers x.core x.hands) r.after
      (after_replay prog workers r.events (start prog r.arguments r.memory) (start_manned prog r.arguments r.memory workers some) (ap (λ (x : Machine). x.trapped) r.after ∙ fine))

  pub replay_more : (events : List Event) (e : Event) (m : Machine) → replay prog workers (events ++ e ∷ []) m ≡ or_unchanged (event prog workers e (replay prog workers events m)) (replay prog workers events m)
  replay_more [] e m = refl
  replay_more (d ∷ events) e m = replay_more events e (or_unchanged (event prog workers d m) m)

  -- one event more
  pub reached_next : (c next : Machine) (e : Event) → IsReached prog workers c → event prog workers e c ≡ Some next → IsReached prog workers next
  reached_next c next e r is =
      record {
        arguments = r.arguments;
        memory = r.memory;
        events = r.events ++ e ∷ [];
        after = replay_more r.events e (start prog r.arguments r.memory) ∙ (ap (λ x. or_unchanged (event prog workers e x) x) r.after ∙ ap (λ o. or_unchanged o c) is);
      }
