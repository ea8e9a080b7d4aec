-- How many events a legal history has: each steal makes an idle worker busy, and each step makes at most one idle.
use Rattle.std.proofs.Common.{◌≡◌, ℕ, zero, suc, ◌+◌, ◌*◌, ◌<◌, ◌≤◌, ◌^◌, List, [], ◌∷◌, length, map, Option, Some, None, Bool, true, false, cond, ◌&&◌, eqb, inl, inr, refl, ap, ◌∙◌, subst, arith}
use Rattle.std.specs.Prelude.{IsSome, ltb, is_none}
use Rattle.std.proofs.lemmas.Bool.{ltb-true, and_parts}
use Rattle.std.proofs.lemmas.Bool.Decides.{eqb_tells}
use Rattle.std.proofs.lemmas.List.{length-map}
use Rattle.semantics.specs.Paths.{Path}
use Rattle.semantics.specs.Arithmetic.{Trap}
use Rattle.semantics.specs.Frames.{Frame}
use Rattle.semantics.specs.State.{Change, apply, change_of}
use Rattle.semantics.specs.Effect.{action_of}
use Rattle.semantics.specs.Events as running
use Rattle.semantics.specs.Events.{Machine, Step, Steal, Status, Running, Ready, Stalled, event, sound_event, unless_trapped, by_hand, by_frame, by_change, if_ready, stolen, status_of, with_hand, start}
use Rattle.semantics.specs.Replay.{or_unchanged, replay}
use Rattle.semantics.proofs.Machines.{is_none_true}
use Rattle.program.specs.declared.function.Program.{Program}
use Rattle.schedule_core.specs.verifier.Accepted.{IsAccepted}
use Rattle.schedule_core.specs.verifier.Budgets.{budget_of}
use Rattle.schedule_core.proofs.laws_schedule.Bounds.{budget_bounded}
use Rattle.frame.specs.declared.event.Event.{Event}
use Rattle.schedule_core.specs.declared.stage.Stage.{Stage}
use Rattle.schedule_core.specs.Replaying.{AreEnabled, event_of, KeepsItsSchedule}
use Rattle.shared_run.specs.Story.{Origin, IsLegal, first_of, reached}
use Rattle.shared_run.proofs.Stories.{keeps}

one_if : Option Path → ℕ
one_if None = 0
one_if (Some p) = 1

one_at_most : (o : Option Path) → one_if o ≤ 1
unfolding one_if
one_at_most None = omega arith
one_at_most (Some p) = omega arith

-- the workers below n that run a task
busy : (ℕ → Option Path) → ℕ → ℕ
busy hands zero = 0
busy hands (suc n) = one_if (hands n) + busy hands n

busy_at_most : (hands : ℕ → Option Path) (n : ℕ) → busy hands n ≤ n
unfolding busy
busy_at_most hands zero = omega arith
busy_at_most hands (suc n) = let a = one_at_most (hands n) in let b = busy_at_most hands n in omega arith

module _ (hands : ℕ → Option Path) (w : ℕ) (next : Option Path) where
  hand_here : (v : ℕ) → eqb w v ≡ true → with_hand hands w next v ≡ next
  hand_here v e = ap (λ b. cond b next (hands v)) e

  hand_there : (v : ℕ) → eqb w v ≡ false → with_hand hands w next v ≡ hands v
  hand_there v e = ap (λ b. cond b next (hands v)) e

  busy_below : (n : ℕ) → n ≤ w → busy (with_hand hands w next) n ≡ busy hands n
  unfolding busy
  busy_below zero lt = refl
  busy_below (suc n) lt =
      elim (eqb_tells w n) [
        | inl h ↦ let same = h.1 in absurd (omega arith)
        | inr h ↦ let a = ap one_if (hand_there n h.0) in let b = busy_below n (omega arith) in omega arith
      ]

  -- at most one is idle that was not
  busy_least : (n : ℕ) → busy hands n ≤ busy (with_hand hands w next) n + 1
  unfolding busy
  busy_least zero = omega arith
  busy_least (suc n) =
      elim (eqb_tells w n) [
        | inl h ↦ let same = h.1 in let a = one_at_most (hands n) in let b = busy_below n (omega arith) in omega arith
        | inr h ↦ let a = ap one_if (hand_there n h.0) in let b = busy_least n in omega arith
      ]

  -- one more is busy
  busy_more : (p : Path) → next ≡ Some p → hands w ≡ None → (n : ℕ) → w < n → busy (with_hand hands w next) n ≡ busy hands n + 1
  unfolding busy one_if
  busy_more p is idle zero lt = absurd (omega arith)
  busy_more p is idle (suc n) lt =
      elim (eqb_tells w n) [
        | inl h ↦
            let same = h.1 in
            let now : one_if (with_hand hands w next n) ≡ 1 = ap one_if (hand_here n h.0 ∙ is) in
            let was : one_if (hands n) ≡ 0 = ap one_if (subst (λ v. hands v ≡ None) same idle) in
            let b = busy_below n (omega arith) in
            omega arith
        | inr h ↦ let differ = h.1 in let a = ap one_if (hand_there n h.0) in let b = busy_more p is idle n (omega arith) in omega arith
      ]

busy_some : (hands : ℕ → Option Path) (w : ℕ) (p : Path) → hands w ≡ Some p → (n : ℕ) → w < n → 1 ≤ busy hands n
unfolding busy one_if
busy_some hands w p has zero lt = absurd (omega arith)
busy_some hands w p has (suc n) lt =
    elim (eqb_tells w n) [
      | inl h ↦ let here : one_if (hands n) ≡ 1 = ap one_if (subst (λ v. hands v ≡ Some p) h.1 has) in omega arith
      | inr h ↦ let differ = h.1 in let b = busy_some hands w p has n (omega arith) in omega arith
    ]

-- ---- an event

module _ (prog : Program) (workers : ℕ) where
  abbrev Counts : Machine → Machine → Type 0
  Counts m next = 1 + busy m.hands workers + 2 * m.core.done ≤ busy next.hands workers + 2 * next.core.done

  by_the_change : (m : Machine) (w : ℕ) (p : Path) (f : Frame) (o : Option Change) → Counts m (by_change prog workers m w p f o)
  by_the_change m w p f None = let b = busy_least m.hands w (Some p) workers in omega arith
  by_the_change m w p f (Some c) = let b = busy_least m.hands w (running.next_hand workers m (apply c m.core) p f (action_of prog p f m.core.memory)) workers in omega arith

  by_the_frame : (m next : Machine) (w : ℕ) (p : Path) (o : Option Frame) → by_frame prog workers m w p o ≡ Some next → Counts m next
  by_the_frame m next w p None e = absurd (cc)
  by_the_frame m next w p (Some f) e =
      let is : by_change prog workers m w p f (change_of prog m.core p) ≡ next = (let s : Some (by_change prog workers m w p f (change_of prog m.core p)) ≡ Some next = e in cc) in
      subst (λ (x : Machine). Counts m x) is (by_the_change m w p f (change_of prog m.core p))

  by_the_hand : (m next : Machine) (w : ℕ) (o : Option Path) → by_hand prog workers m w o ≡ Some next → Counts m next
  by_the_hand m next w None e = absurd (cc)
  by_the_hand m next w (Some p) e = by_the_frame m next w p (m.core.frames p) e

  by_the_status : (m next : Machine) (w : ℕ) (t : Path) (o : Option Status) → w < workers → m.hands w ≡ None → if_ready (stolen m w t) o ≡ Some next → Counts m next
  by_the_status m next w t None lt idle e = absurd (cc)
  by_the_status m next w t (Some (Running v)) lt idle e = absurd (cc)
  by_the_status m next w t (Some (Stalled r)) lt idle e = absurd (cc)
  by_the_status m next w t (Some Ready) lt idle e =
      let is : stolen m w t ≡ next = (let s : Some (stolen m w t) ≡ Some next = e in cc) in
      let b = busy_more m.hands w (Some (running.top_of m.core t)) (running.top_of m.core t) refl idle workers lt in
      subst (λ (x : Machine). Counts m x) is (omega (arith, b))

  by_the_test : (m next : Machine) (w : ℕ) (t : Path) (b : Bool) → (ltb w workers && is_none (m.hands w)) ≡ b → cond b (if_ready (stolen m w t) (status_of workers m t)) None ≡ Some next → Counts m next
  by_the_test m next w t false test e = absurd (cc)
  by_the_test m next w t true test e =
      let both = and_parts (ltb w workers) (is_none (m.hands w)) test in
      by_the_status m next w t (status_of workers m t) (ltb-true w workers both.0) (is_none_true (m.hands w) both.1) e

  event_counts : (e : running.Event) (m next : Machine) → event prog workers e m ≡ Some next → Counts m next
  event_counts e m next is = from m.trapped is
    where
      sound : (d : running.Event) → sound_event prog workers d m ≡ Some next → Counts m next
      sound (Step w) at = by_the_hand m next w (m.hands w) at
      sound (Steal w t) at = by_the_test m next w t (ltb w workers && is_none (m.hands w)) refl at

      from : (o : Option Trap) → unless_trapped o (sound_event prog workers e m) ≡ Some next → Counts m next
      from None at = sound e at
      from (Some t) at = absurd (cc)

  all_count : (events : List running.Event) (m : Machine) → AreEnabled prog workers events m →
      length events + busy m.hands workers + 2 * m.core.done ≤ busy (replay prog workers events m).hands workers + 2 * (replay prog workers events m).core.done
  all_count [] m all = omega arith
  all_count (e ∷ events) m all = from (event prog workers e m) refl all.0 (λ next. all_count events next) all.1
    where
      from : (o : Option Machine) → event prog workers e m ≡ o → IsSome o →
          ((next : Machine) → AreEnabled prog workers events next → length events + busy next.hands workers + 2 * next.core.done ≤ busy (replay prog workers events next).hands workers + 2 * (replay prog workers events next).core.done) →
          AreEnabled prog workers events (or_unchanged o m) →
          length (e ∷ events) + busy m.hands workers + 2 * m.core.done ≤ busy (replay prog workers events (or_unchanged o m)).hands workers + 2 * (replay prog workers events (or_unchanged o m)).core.done
      from None is some rest more = absurd (cc)
      from (Some next) is some rest more = let a = event_counts e m next is in let b = rest next more in omega (arith, a, b)

-- ---- a history

-- an accepted module's budget is a million million at most
pub budget_small : (program : Program) → IsAccepted program → budget_of program < 2 ^ 62
budget_small program accepted = let b = budget_bounded program (accepted.means.3).costs in omega (arith, b)

module _ (o : Origin) (events : List Event) (stage : Stage) (legal : IsLegal o events stage) where
  pub few : length events ≤ 2 * budget_of o.program + 63
  few =
      let k : KeepsItsSchedule o.program o.arguments o.memory o.workers events = keeps o events stage legal in
      let all = all_count o.program o.workers (map event_of events) (first_of o) legal.enabled in
      let last : busy (reached o events).hands o.workers ≤ o.workers = busy_at_most (reached o events).hands o.workers in
      let first : 1 ≤ busy (first_of o).hands o.workers = busy_some (first_of o).hands 0 [] refl o.workers legal.manned.0 in
      let many : length (map event_of events) ≡ length events = length-map events event_of in
      let within : (reached o events).core.done ≤ k.serial.count = k.schedule.within_budget in
      let budget : k.serial.count ≤ budget_of o.program = k.within_budget in
      let crew : o.workers ≤ 64 = legal.manned.1 in
      omega (arith, all, last, first, many, within, budget, crew)

  -- so there is room for one more
  pub room : length events + 1 < 2 ^ 64
  room = let f = few in let b = budget_small o.program legal.accepted in omega (arith, f, b)
