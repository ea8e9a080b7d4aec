use Rattle.std.proofs.Common.{◌≡◌, ◌∙◌, ◌++◌, take, ap}
use Rattle.std.proofs.lemmas.List.{take_all}
use Rattle.linear.specs.declared.form.Term.{Term}
use Rattle.definedness.specs.RegisterActs.{register_needs, form_needs}
use Rattle.definedness.proofs.Needs.{one_more}
use Rattle.definedness.proofs.registers.push_form.Goals as goal

pub loop-term-preserved : goal.loop-term-preserved
loop-term-preserved c = one_more (λ (t : Term). register_needs c.args.line t.register) _ _ _ c.args.acts.now.items _ _ c.loop-term-test.true c.loop-term.invariant c.in_ok-push_register.ensures

pub returns : goal.returns
returns c =
    let all : take c.loop-term.term-index c.as_slice-term-items.result.now ≡ c.as_slice-term-items.result.now = take_all c.loop-term.term-index c.as_slice-term-items.result.now c.loop-term-test.false in
    let read = rw (all, c.as_slice-term-items.ensures) at c.loop-term.invariant in
    read ∙ ap (λ f. c.args.acts.now.items ++ form_needs c.args.line f) c.form.view_is
