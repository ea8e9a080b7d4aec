use Rattle.std.proofs.Common.{ap, sym, subst, refl, inl, inr, rules, ◌≡◌, ◌∙◌, length, T, nat_abs}
use Rattle.std.specs.Prelude.{FitsSigned}
use Rattle.std.specs.Int.{w64}
use lib.Signed.{non_neg}
use mir.Val.{Fits, to_z, of_z}
use Rattle.std.proofs.Math.Logic.{∥∥₁_elim}
use Rattle.std.proofs.Props.{props}
use Rattle.frame_engine.specs.Names.{HasResult, sizes, taker_of}
use Rattle.serial_stack.specs.Layouts.{frames_of, layout_of}
use Rattle.serial_stack.specs.declared.stack.Stack.{Stack}
use Rattle.serial_stack.specs.StackShown.{unboxed}
use Rattle.serial_stack.proofs.Detaching.{unboxed_push}
use Rattle.serial_stack.proofs.Joining.{emptied}
use Rattle.serial_stack.proofs.Returning.{caller_takes, home_is, result_prop, return_names, return_shown, run_ends, home_again, whole_home}
use Rattle.frame_engine.specs.declared.activation.Frame.{Frame}
use Rattle.frame_engine.specs.Activation.{ShowsFrame}
use Rattle.frame.specs.declared.frame.Wait.TheVariants as wait
use Rattle.frame_engine.specs.Fits.{HasReturned}
use Rattle.serial_stack.proofs.stack.Stack.return_with.Goals as goal

pub returned-result-requires : goal.returned-result-requires
returned-result-requires c =
    subst (λ (f : Frame). HasReturned (sizes (length f.registers.items) 0 0) c.args.value) (sym c.deref.ensures)
    (return_names c.args.program.now c.args.places.now _ c.args.self.now.top.value c.args.value c.requires.text c.requires.stands c.requires.item)

pub resume-requires : goal.resume-requires
resume-requires c =
    let caller = c.in-Some.caller.value in
    subst (HasResult _) (sym (c.taker-register.ensures ∙ ap (λ (f : Frame). taker_of f.waits) c.deref-in-Some.ensures))
    (subst (λ (f : Frame). HasResult (length f.registers.items) (taker_of caller.waits)) (sym c.deref_mut.ensures.value) (∥∥₁_elim c.requires.safe (result_prop _ _) (λ w.
    caller_takes w.globals c.args.program.now c.args.places.now w.run c.args.self.now w.shown w.can c.args.value c.requires.item caller (unboxed c.pop.new.self.items) (unboxed_push _ _ _ c.in-Some.ensures.items))))

pub overflow_cast-self : goal.overflow_cast-self
overflow_cast-self c =
    let fit : FitsSigned w64 c.args.self.now.top.value.home = search rules in
    subst (λ (f : Frame). T (non_neg (to_z w64 (of_z w64 f.home))) × Fits w64 (nat_abs (to_z w64 (of_z w64 f.home)))) (sym c.deref-in-Some-2.ensures)
    (∥∥₁_elim c.requires.safe (hlevel props) (λ w. whole_home c.args.self.now.top.value.home _ fit (home_is w.globals c.args.program.now c.args.places.now w.run c.args.self.now w.shown w.can c.args.value c.requires.item c.in-Some.caller.value (unboxed c.pop.new.self.items) (unboxed_push _ _ _ c.in-Some.ensures.items))))

pub returns-in_ok-go_back_to-in-Some-clause-goes : goal.returns-in_ok-go_back_to-in-Some-clause-goes
returns-in_ok-go_back_to-in-Some-clause-goes c = λ globals s h can.
    let prog = c.args.program.now in
    let places = c.args.places.now in
    let k = c.args.self.now in
    let fit : FitsSigned w64 c.args.self.now.top.value.home = search rules in
    let only = c.in_ok-go_back_to-in-Some.ensures.only in
    let back = c.resume.new.self in
    let same = c.deref_mut.ensures.value in
    let home = home_is globals prog places s k h can c.args.value c.requires.item c.in-Some.caller.value (unboxed c.pop.new.self.items) (unboxed_push _ _ _ c.in-Some.ensures.items) in
    let t = return_shown globals prog places s k h can c.args.value c.requires.item c.in-Some.caller.value (unboxed c.pop.new.self.items) (unboxed_push _ _ _ c.in-Some.ensures.items)
    back c.returned-result.result c.taker-register.result c.go_back_to.new.self (c.taker-register.ensures ∙ ap (λ (f : Frame). taker_of f.waits) c.deref-in-Some.ensures)
    (subst (λ (f : Frame). back ≡ record f { registers = back.registers; waits = wait.Nothing }) same c.resume.ensures.only) (c.resume.ensures.registers ∙ ap (λ (f : Frame). length f.registers.items) same)
    (λ l at p g shown. c.resume.ensures.shown l at p g (subst (ShowsFrame l at p g) (sym same) shown))
    (λ v e. c.returned-result.ensures prog (layout_of globals prog (frames_of s)) places s.path s.frame v (subst (ShowsFrame _ places s.path s.frame) (sym c.deref.ensures) h.top.shown) e)
    (ap (λ (x : Stack). x.top.value) only) (ap (λ (x : Stack). unboxed x.below.items) only) (ap (λ (x : Stack). x.cells) only) (home_again k.top.value.home _ c.go_back_to.new.self.end fit home (ap (λ (x : Stack). x.end) only ∙ ap (λ (f : Frame). nat_abs (to_z w64 (of_z w64 f.home))) c.deref-in-Some-2.ensures)) in
    inl (t.0, t.1, t.2, refl)

pub returns-in-None-clause-goes : goal.returns-in-None-clause-goes
returns-in-None-clause-goes c = λ globals s h can.
    let prog = c.args.program.now in
    let places = c.args.places.now in
    let k = c.args.self.now in
    inr (
      run_ends globals prog places s k c.args.value c.returned-result.result h can c.requires.item (emptied k.below c.in-None.ensures.cases.0)
          (λ v e. c.returned-result.ensures prog (layout_of globals prog (frames_of s)) places s.path s.frame v (subst (ShowsFrame _ places s.path s.frame) (sym c.deref.ensures) h.top.shown) e),
      refl,
    )
