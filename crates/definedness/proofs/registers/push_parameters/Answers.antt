use Rattle.std.proofs.Common.{◌≡◌, ◌++◌, append_assoc, add-one, subst, arith}
use Rattle.definedness.specs.RegisterActs.{gives_below}
use Rattle.definedness.proofs.registers.push_parameters.Goals as goal

pub loop-number-preserved : goal.loop-number-preserved
loop-number-preserved c = rw (c.in_ok-push.ensures.items, add-one, c.loop-number.invariant, append_assoc)

pub returns : goal.returns
returns c =
    let last : c.loop-number.number ≡ c.args.count = omega (arith, c.loop-number-test.false, c.loop-number.auto.number-end) in
    subst (λ k. c.loop-number.acts.items ≡ c.args.acts.now.items ++ gives_below k) last c.loop-number.invariant
