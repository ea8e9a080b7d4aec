use Rattle.program.specs.declared.annotation.Inequality.{Inequality}
use Rattle.ranges_owed.specs.Inequalities.{difference_of}
use Rattle.ranges_owed.specs.Owed.{must}
use Rattle.ranges_owed.proofs.Joined.{mapped_more}
use Rattle.ranges_owed.proofs.owe.inequalities_owed.Goals as goal

pub loop-inequality-preserved : goal.loop-inequality-preserved
loop-inequality-preserved c =
    rw (c.in_ok-push_must.ensures, c.in_ok-sum.ensures, c.inequality-item.is) (mapped_more (λ (q : Inequality). must c.args.number (difference_of c.args.moves.now q)) c.args.inequalities.now c.loop-inequality.inequality-index c.inequality-item.result
    c.loop-inequality.obligations.items c.loop-inequality-test.true c.loop-inequality.invariant)
