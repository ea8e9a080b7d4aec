-- No frame stands deeper than the deepest of the serial run: each schedule can be gone on with to its end, where its peak is the serial depth.
use Rattle.std.proofs.Common.{◌≡◌, ◌∙◌, ℕ, zero, suc, ◌+◌, ◌<◌, ◌≤◌, List, [], ◌∷◌, length, Option, Some, None, Bool, true, false, refl, sym, ap, subst, arith, le_trans, ℤ}
use Rattle.semantics.specs.Paths.{Path}
use Rattle.semantics.specs.Cells.{Memory}
use Rattle.semantics.specs.Frames.{Frame}
use Rattle.semantics.specs.State.{State, Change, apply, change_of}
use Rattle.semantics.specs.Tree.{Tree}
use Rattle.semantics.specs.SerialMeaning.{Outcome}
use Rattle.semantics.specs.Events.{Machine, Event, Step, event, by_change, by_frame, by_hand, start}
use Rattle.semantics.specs.Replay.{has_ended, or_unchanged, replay}
use Rattle.semantics.specs.Sound.{NeverTraps}
use Rattle.semantics.proofs.Deep.{Deep, deep_kept}
use Rattle.semantics.proofs.Starting.{start_deep, start_tree}
use Rattle.semantics.proofs.Steps.{Does}
use Rattle.semantics.proofs.TreeKept.{step_keeps_tree}
use Rattle.program.specs.declared.function.Program.{Program}
use Rattle.serial_machine.specs.laws_conditions.theorem.Schedules.{KeepsSchedule}
use Rattle.serial_machine.proofs.laws_conditions.theorem.Theorem.{not_trapped}
use Rattle.serial_machine.proofs.laws_schedule.safe.Replayed.{from_later, replay_good}
use Rattle.schedule_core.specs.Replaying.{StaysLow}

-- ---- numbers

no_more : (count done : ℕ) → done ≤ count → count ≤ done + 0 → done ≡ count
no_more count done within left = omega (arith, within, left)

one_less : (count done next n : ℕ) → next ≡ suc done → count ≤ done + suc n → count ≤ next + n
one_less count done next n more left = omega (arith, more, left)

below : (depth peak most : ℕ) → depth + 1 ≤ peak → peak ≤ most → depth < most
below depth peak most deep high = omega (arith, deep, high)

equal_within : (a b : ℕ) → a ≡ b → a ≤ b
equal_within a b same = omega (arith, same)

module _ (prog : Program) (workers : ℕ) where
  -- ---- a step is one instruction more

  by_the_change : (m next : Machine) (w : ℕ) (p : Path) (f : Frame) (o : Option Change) → by_change prog workers m w p f o ≡ next → next.core.done ≡ suc m.core.done
  by_the_change m next w p f None e = sym (ap (λ (x : Machine). x.core.done) e)
  by_the_change m next w p f (Some c) e = sym (ap (λ (x : Machine). x.core.done) e)

  by_the_frame : (m next : Machine) (w : ℕ) (p : Path) (o : Option Frame) → by_frame prog workers m w p o ≡ Some next → next.core.done ≡ suc m.core.done
  by_the_frame m next w p None e = absurd (cc)
  by_the_frame m next w p (Some f) e =
      by_the_change m next w p f (change_of prog m.core p) (let s : Some (by_change prog workers m w p f (change_of prog m.core p)) ≡ Some next = e in cc)

  by_the_hand : (m next : Machine) (w : ℕ) (o : Option Path) → by_hand prog workers m w o ≡ Some next → next.core.done ≡ suc m.core.done
  by_the_hand m next w None e = absurd (cc)
  by_the_hand m next w (Some p) e = by_the_frame m next w p (m.core.frames p) e

  step_counts : (m next : Machine) (w : ℕ) → m.trapped ≡ None → event prog workers (Step w) m ≡ Some next → next.core.done ≡ suc m.core.done
  step_counts m next w fine is = by_the_hand m next w (m.hands w) (sym (not_trapped m.trapped _ fine) ∙ is)

  -- ---- the peak is never lower again

  peak_kept : (n : ℕ) (s : State) (p : Path) (c : Change) → Does prog s p c → c.trap ≡ None → n ≤ s.peak → n ≤ (apply c s).peak
  peak_kept n s p c does fine low = omega (arith, low)

  peak_grows : (m : Machine) → NeverTraps prog workers m → (events : List Event) → m.core.peak ≤ (replay prog workers events m).core.peak
  peak_grows m never events = replay_good prog workers (λ (s : State). m.core.peak ≤ s.peak) (peak_kept m.core.peak) events m never (omega arith)

  -- ---- to the end, an instruction at a time

  -- of a machine from which every schedule keeps the theorem
  module _ (o : Outcome) where
    abbrev Keeps : Machine → Type 0
    Keeps m = (events : List Event) → KeepsSchedule prog workers o (replay prog workers events m)

    ended : (m : Machine) → Keeps m → has_ended m ≡ true → m.core.peak ≤ o.depth
    ended m keeps over = equal_within m.core.peak o.depth ((keeps []).same_peak over)

    -- with an instruction more it is no lower, and in the end that of the serial run
    by_next : (m : Machine) → Keeps m → has_ended m ≡ false →
        ((next : Machine) → Keeps next → next.core.done ≡ suc m.core.done → next.core.peak ≤ o.depth) → m.core.peak ≤ o.depth
    by_next m keeps over rest =
        let (w, next, low, is) = (keeps []).goes_on over in
        let then : Keeps next = λ events. subst (λ (x : Option Machine). KeepsSchedule prog workers o (replay prog workers events (or_unchanged x m))) is (keeps (Step w ∷ events)) in
        let more : m.core.peak ≤ next.core.peak = subst (λ (x : Option Machine). m.core.peak ≤ (or_unchanged x m).core.peak) is (peak_grows m (λ events. (keeps events).no_trap.0) (Step w ∷ [])) in
        le_trans more (rest next then (step_counts m next w (keeps []).no_trap.0 is))

    peak_within : (n : ℕ) (m : Machine) → Keeps m → o.count ≤ m.core.done + n → m.core.peak ≤ o.depth
    peak_within zero m keeps left = ended m keeps ((keeps []).ends_in_time (no_more o.count m.core.done (keeps []).within_budget left))
    peak_within (suc n) m keeps left = by (has_ended m) refl (λ next then more. peak_within n next then (one_less o.count m.core.done next.core.done n more left))
      where
        by : (b : Bool) → has_ended m ≡ b → ((next : Machine) → Keeps next → next.core.done ≡ suc m.core.done → next.core.peak ≤ o.depth) → m.core.peak ≤ o.depth
        by true over rest = ended m keeps over
        by false over rest = by_next m keeps over rest

  -- ---- no frame is above the peak

  record Low (s : State) : Type 0 where
    tree : Tree s
    deep : Deep s

  low_kept : (s : State) (p : Path) (c : Change) → Does prog s p c → c.trap ≡ None → Low s → Low (apply c s)
  low_kept s p c does fine low = record { tree = step_keeps_tree low.tree does; deep = deep_kept s p c low.tree does low.deep }

  under_peak : (s : State) → Low s → (p : Path) (f : Frame) → s.frames p ≡ Some f → length p + 1 ≤ s.peak
  unfolding Deep
  under_peak s low p f is = low.deep p f is

  pub stays_low : (o : Outcome) (arguments : List ℤ) (memory : Memory) →
      ((events : List Event) → KeepsSchedule prog workers o (replay prog workers events (start prog arguments memory))) →
      (events : List Event) → StaysLow o (replay prog workers events (start prog arguments memory))
  stays_low o arguments memory keeps events p f is =
      let first = start prog arguments memory in
      let m = replay prog workers events first in
      let low : Low m.core =
      replay_good prog workers Low low_kept events first (λ more. (keeps more).no_trap.0) (record { tree = start_tree prog arguments memory; deep = start_deep prog arguments memory }) in
      let later : Keeps o m = from_later prog workers (λ (x : Machine). KeepsSchedule prog workers o x) events first keeps in
      below (length p) m.core.peak o.depth (under_peak m.core low p f is) (peak_within o o.count m later (omega arith))
