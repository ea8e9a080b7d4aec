use Rattle.std.proofs.Common.{◌≡◌, ℕ, suc, ◌+◌, subst, arith}
use Rattle.linear_shown.specs.Index.{IsBegun}
use Rattle.linear_shown.proofs.index.enter_each.Goals as goal

pub loop-place-preserved : goal.loop-place-preserved
loop-place-preserved c =
    let next : suc c.in-Some.entry.place ≡ c.loop-place.place + 1 = omega (arith, c.in-Some.ensures.place) in
    subst (λ (n : ℕ). IsBegun c.args.facts.now n c.args.settled.now c.enter_next.new.recent.items c.in_ok-is_consistent-in-Some.is_consistent) next c.in_ok-is_consistent-in-Some.ensures
