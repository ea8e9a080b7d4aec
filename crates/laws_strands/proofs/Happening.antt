-- Lists of events that happen, and machines that never trap.
use Rattle.std.proofs.Common.{sym, ◌≡◌, ℕ, zero, suc, List, [], ◌∷◌, ◌++◌, Some, None, refl, ap, ◌∙◌, subst}
use Rattle.semantics.specs.Events.{Machine, Event, Step, event}
use Rattle.semantics.specs.Replay.{replay, or_unchanged}
use Rattle.semantics.specs.Sound.{NeverTraps}
use Rattle.laws_strands.specs.Law.{steps_by, Happen, ReachedNeverTraps}
use Rattle.semantics.specs.program.declared.function.Program.{Program}

pub steps_more : (w n : ℕ) → steps_by w n ++ Step w ∷ [] ≡ steps_by w (suc n)
steps_more w zero = refl
steps_more w (suc n) = ap (λ es. Step w ∷ es) (steps_more w n)

module _ (prog : Program) (workers : ℕ) where
  pub happen_more : (events : List Event) (e : Event) (m mid after : Machine) → Happen prog workers events m mid → event prog workers e mid ≡ Some after → Happen prog workers (events ++ e ∷ []) m after
  happen_more [] e m mid after same is = (after, ap (λ x. event prog workers e x) same ∙ is, refl)
  happen_more (d ∷ events) e m mid after (next, first, rest) is = (next, first, happen_more events e next mid after rest is)

  never_next : (e : Event) (m next : Machine) → event prog workers e m ≡ Some next → NeverTraps prog workers m → NeverTraps prog workers next
  never_next e m next is never events = subst (λ o. (replay prog workers events (or_unchanged o m)).trapped ≡ None) is (never (e ∷ events))

  pub never_later : (events : List Event) (m later : Machine) → Happen prog workers events m later → NeverTraps prog workers m → NeverTraps prog workers later
  never_later [] m later same never = subst (λ x. NeverTraps prog workers x) same never
  never_later (e ∷ events) m later (next, is, rest) never = never_later events next later rest (never_next e m next is never)

  pub sound_next : (e : Event) (m next : Machine) → event prog workers e m ≡ Some next → NeverTraps prog workers m → next.trapped ≡ None
  sound_next e m next is never = never_next e m next is never []

  replay_behind : (events more : List Event) (m : Machine) → replay prog workers (events ++ more) m ≡ replay prog workers more (replay prog workers events m)
  replay_behind [] more m = refl
  replay_behind (e ∷ events) more m = replay_behind events more (or_unchanged (event prog workers e m) m)

  pub never_behind : (first : Machine) (events : List Event) → NeverTraps prog workers first → NeverTraps prog workers (replay prog workers events first)
  never_behind first events never more = sym (ap (λ (x : Machine). x.trapped) (replay_behind events more first)) ∙ never (events ++ more)

pub reached_never_traps : ReachedNeverTraps
reached_never_traps prog workers first events never = never_behind prog workers first events never
