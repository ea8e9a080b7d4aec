use Rattle.std.proofs.Common.{rules, ◌≡◌, ◌+◌, ◌∙◌, ap, arith, max, refl, suc, sym, subst, ℕ, length, FitsSigned, Option, ℤ}
use Rattle.std.specs.Int.{w64}
use mir.Val.{to_z, of_z}
use Rattle.std.proofs.lemmas.Int.{to_z-of_z}
use Rattle.store.specs.declared.outcome.Finished.{Finished}
use Rattle.store.specs.Refilled.{refilled}
use Rattle.serial_stack.specs.StackShown.{Returns}
use Rattle.serial_machine.specs.SerialPromise.{EndsWithinBudget}
use Rattle.lone_run.proofs.OnWay.{done_before, fits, numbers, over, passed, stands, stays, went_on, within}
use Rattle.lone_run.proofs.Stopping.{got_on}
use Rattle.lone_run.proofs.run.LoneRun.strand.Goals as goal

pub advance-pause-requires-clause-stands : goal.advance-pause-requires-clause-stands
advance-pause-requires-clause-stands c = fits _ _ _ _ _ _ _ _ c.requires

pub advance-pause-requires-clause-safe : goal.advance-pause-requires-clause-safe
advance-pause-requires-clause-safe c = stays _ _ _ _ _ _ _ _ c.requires

pub returns-then-not-is_at_border-clause-goes : goal.returns-then-not-is_at_border-clause-goes
returns-then-not-is_at_border-clause-goes c = (refl, refl, refl, went_on _ _ _ _ _ _ _ _ c.requires _ _ c.advance-pause.ensures.moves c.advance-pause.ensures.led)

pub returns-then-not-is_at_border-clause-gets_on : goal.returns-then-not-is_at_border-clause-gets_on
returns-then-not-is_at_border-clause-gets_on c =
    let low = within _ _ _ _ _ _ _ _ c.requires in
    let few = c.requires.few in
    let limit = c.saturating_add-limit.ensures in (
      got_on c.advance-pause.result _ _ _ _ _ c.is_at_border.ensures.paused c.if-not-is_at_border.true c.advance-pause.ensures.limit (omega (arith, low, few, limit)) c.in_ok-begin.ensures c.advance-pause.ensures.gets_on,
      within _ _ _ _ _ _ _ _ (returns-then-not-is_at_border-clause-goes c).3,
    )

pub overflow_add-self : goal.overflow_add-self
overflow_add-self c =
    let low = within _ _ _ _ _ _ _ _ (went_on _ _ _ _ _ _ _ _ c.requires _ _ c.advance-pause.ensures.moves c.advance-pause.ensures.led) in
    let few = c.requires.few in
    record { fits = omega (arith, low, few) }

pub border-requires-clause-numbers : goal.border-requires-clause-numbers
border-requires-clause-numbers c = numbers _ _ _ _ _ _ _ _ (went_on _ _ _ _ _ _ _ _ c.requires _ _ c.advance-pause.ensures.moves c.advance-pause.ensures.led)

pub border-requires-clause-safe : goal.border-requires-clause-safe
border-requires-clause-safe c = stands _ _ _ _ _ _ _ _ (went_on _ _ _ _ _ _ _ _ c.requires _ _ c.advance-pause.ensures.moves c.advance-pause.ensures.led)

pub returns-in-None-clause-goes : goal.returns-in-None-clause-goes
returns-in-None-clause-goes c =
    let program = c.args.self.now.program.now in
    let places = c.args.self.now.places in
    let new = c.border.new.self in
    let a = c.len.ensures in
    let b = new.below.ok.0 in
    let long : c.len.result + 1 ≡ suc (length new.below.items) = omega (arith, a, b) in (
      refl,
      refl,
      refl,
      passed _ _ _ _ _ _ _ _ (went_on _ _ _ _ _ _ _ _ c.requires _ _ c.advance-pause.ensures.moves c.advance-pause.ensures.led) new _ _ c.in_ok-result.ensures.moves refl
          (c.max-self.ensures ∙ ap (λ (n : ℕ). max c.args.self.now.peak n) long)
          (subst (λ (r : Option ℤ). Returns program places c.advance-pause.new.stack new r) c.in-None.is c.in_ok-result.ensures.goes),
    )

pub returns-in-None-clause-gets_on : goal.returns-in-None-clause-gets_on
returns-in-None-clause-gets_on c =
    let before = done_before _ _ _ _ _ _ _ _ c.requires _ _ c.advance-pause.ensures.led in
    (omega (arith, before), within _ _ _ _ _ _ _ _ (returns-in-None-clause-goes c).3)

pub returns-in-Some-clause-ends : goal.returns-in-Some-clause-ends
returns-in-Some-clause-ends c =
    let program = c.args.self.now.program.now in
    let places = c.args.self.now.places in
    let m = c.args.self.now.memory in
    let new = c.border.new.self in
    let n = c.advance-pause.new.done + 1 in
    let peak = c.args.self.now.peak in
    let z = c.in-Some.result in
    let fit : FitsSigned w64 z = search rules in
    let number : to_z w64 (of_z w64 z) ≡ z = to_z-of_z w64 z fit in
    let kept : c.set_row.new.self ≡ refilled m new.cells.cells.items =
    c.set_row.ensures ∙ (λ i. refilled (c.take-memory.ensures.all i) (c.as_slice.ensures.value i)) in
    let same : ◌≡◌ {A = Finished} (record { result = z; memory = refilled m new.cells.cells.items; instructions = n; peak = peak })
    (record { result = to_z w64 (of_z w64 z); memory = c.set_row.new.self; instructions = n; peak = peak }) =
    λ i. record { result = sym number i; memory = sym kept i; instructions = n; peak = peak } in
    subst (λ (d : Finished). EndsWithinBudget program c.args.self.now.arguments.now m d) same
    (over _ _ _ _ _ _ _ _ (went_on _ _ _ _ _ _ _ _ c.requires _ _ c.advance-pause.ensures.moves c.advance-pause.ensures.led) new _ z refl
    (subst (λ (r : Option ℤ). Returns program places c.advance-pause.new.stack new r) c.in-Some.is c.in_ok-result.ensures.goes))
