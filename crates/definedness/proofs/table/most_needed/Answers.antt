use Rattle.std.proofs.Common.{suc, arith}
use Rattle.definedness.specs.declared.act.Act.TheVariants.{Needs}
use Rattle.refusal.proofs.Places.{same_read}
use Rattle.definedness.proofs.Tables.{needs_next}
use Rattle.definedness.proofs.table.most_needed.Goals as goal

pub loop-act-preserved : goal.loop-act-preserved
loop-act-preserved c = record {
  least = omega (arith, c.loop-act.invariant.least, c.needed-greatest.ensures.least);
  below = needs_next c.args.acts.now c.loop-act.act-index _ (suc c.loop-act.greatest) (suc c.needed-greatest.result) c.loop-act-test.true (same_read c.args.acts.now c.loop-act.act-index (Needs 0 0) c.loop-act-test.true) (omega (arith, c.needed-greatest.ensures.least)) c.loop-act.invariant.below c.needed-greatest.ensures.need;
}
