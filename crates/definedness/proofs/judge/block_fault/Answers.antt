use Rattle.definedness.specs.declared.act.Act.TheVariants.{Needs}
use Rattle.definedness.proofs.Judged.{judging_none, judging_next, BrokenAt}
use Rattle.refusal.proofs.Places.{same_read, below_all}
use Rattle.definedness.proofs.judge.block_fault.Goals as goal

pub loop-act-init : goal.loop-act-init
loop-act-init c = judging_none _ _ _ _ _ c.in_ok-here.ensures.size c.in_ok-here.ensures.none

pub loop-act-preserved : goal.loop-act-preserved
loop-act-preserved c = judging_next _ _ _ c.args.acts.now c.loop-act.act-index _ _ _ _ _ _ c.loop-act-test.true (same_read c.args.acts.now c.loop-act.act-index (Needs 0 0) c.loop-act-test.true) c.loop-act.invariant (rw c.deref.ensures.value at c.act_fault-broken.ensures) c.lower-named.ensures c.mark_given.ensures

pub returns : goal.returns
returns c = below_all (BrokenAt c.args.rows.now c.args.block c.args.rule c.args.acts.now) c.args.acts.now _ _ c.loop-act-test.false c.loop-act.invariant.broken
