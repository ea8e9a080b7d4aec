use Rattle.std.proofs.Common.{◌≡◌, ◌∙◌, ℕ, ◌+◌, ◌<◌, ◌≤◌, List, [], ◌∷◌, ◌++◌, Some, None, Vec, Global, length, get_or, drop, refl, sym, ap, append_assoc}
use Rattle.std.proofs.lemmas.List.{drop_more, drop_all, append-nil}
use Rattle.std.proofs.lemmas.Result.{IfOk-from_err}
use Rattle.program.specs.declared.instruction.Step.{Step}
use Rattle.footprints.specs.declared.access.Pointer.{Pointer}
use Rattle.footprints.specs.Pointers.{defined_pointer, with_pointer}
use Rattle.footprints.specs.Touched.{pointers_of}
use Rattle.footprints.proofs.access.pointers_of.Goals as goal
use Rattle.footprints.proofs.access.pointers_of.Goals.{in-Some+in_ok-push, in_default}

-- one more step that defines a pointer
one_more : (before now : List Pointer) (steps : List Step) (i : ℕ) (step : Step) (found : Pointer) → i < length steps → step ≡ get_or steps i step → Some found ≡ defined_pointer step.instruction → now ≡ before ++ found ∷ [] → before ++ pointers_of (drop i steps) ≡ pointers_of steps →
    now ++ pointers_of (drop (i + 1) steps) ≡ pointers_of steps
one_more before now steps i step found within is defines is_now old =
    let here : with_pointer (defined_pointer (get_or steps i step).instruction) (pointers_of (drop (i + 1) steps)) ≡ found ∷ pointers_of (drop (i + 1) steps) = rw (sym is, sym defines) refl in
    rw (is_now, append_assoc before (found ∷ []) (pointers_of (drop (i + 1) steps))) (rw (drop_more steps i step within, here) at old)

-- one more step that defines none
none_more : (before now : List Pointer) (steps : List Step) (i : ℕ) (step : Step) → i < length steps → step ≡ get_or steps i step → None ≡ defined_pointer step.instruction → now ≡ before → before ++ pointers_of (drop i steps) ≡ pointers_of steps →
    now ++ pointers_of (drop (i + 1) steps) ≡ pointers_of steps
none_more before now steps i step within is defines is_now old =
    let here : with_pointer (defined_pointer (get_or steps i step).instruction) (pointers_of (drop (i + 1) steps)) ≡ pointers_of (drop (i + 1) steps) = rw (sym is, sym defines) refl in
    rw is_now (rw (drop_more steps i step within, here) at old)

at_end : (now : List Pointer) (steps : List Step) (i : ℕ) → length steps ≤ i → now ++ pointers_of (drop i steps) ≡ pointers_of steps → now ≡ pointers_of steps
at_end now steps i past all = rw (drop_all i steps past, append-nil now) at all

pub loop-step-preserved : goal.loop-step-preserved
loop-step-preserved c =
    let before = c.loop-step.pointers.items in
    let now = c.match-defined_pointer.pointers.items in
    elim c.match-defined_pointer.branch [
      | in-Some+in_ok-push w ↦
          one_more before now c.args.steps.now c.loop-step.step-index c.step-item.result w.in-Some.pointer c.loop-step-test.true c.step-item.is w.in-Some.ensures (ap (λ (v : Vec Pointer Global). v.items) w.pointers-is ∙ w.in_ok-push.ensures.items)
          c.loop-step.invariant
      | in_default w ↦
          none_more before now c.args.steps.now c.loop-step.step-index c.step-item.result c.loop-step-test.true c.step-item.is w.in_default.ensures (ap (λ (v : Vec Pointer Global). v.items) w.pointers-is)
          c.loop-step.invariant
    ]

pub returns : goal.returns
returns c = at_end c.loop-step.pointers.items c.args.steps.now c.loop-step.step-index c.loop-step-test.false c.loop-step.invariant

pub returns-in_err-push : goal.returns-in_err-push
returns-in_err-push c = IfOk-from_err c.from_residual.result _ c.from_residual.ensures.0
