use Rattle.std.proofs.Common.{◌≤◌, ◌-◌, length}
use Rattle.linear_shown.specs.Index.{AreLeft}
use Rattle.linear_shown.proofs.lookup.made_up_along.Given as goal

abbrev pub invariant-loop-at : goal.invariant-loop-at
invariant-loop-at l =
    (l.at ≤ length l.pass.firsts.now) × (l.upto ≤ length l.pass.seconds.now)
    × AreLeft l.search.facts.now l.search.form.now l.pass.firsts.now l.pass.seconds.now l.pass.a l.pass.b l.at l.upto

abbrev pub decreases-loop-at : goal.decreases-loop-at
decreases-loop-at l = length l.pass.firsts.now - l.at
