use Rattle.std.proofs.Common.{pos, to_z}
use Rattle.std.specs.Int.{w128}
use Rattle.linear.specs.declared.form.Term.{Term}
use Rattle.linear_shown.specs.Index.{weight}
use Rattle.linear_shown.proofs.Summed.{as_it_was, value_more, value_all}
use Rattle.linear_shown.proofs.weight.weigh.Goals as goal

abbrev none : Term
none = record { register = record { 0 = 0 }; coefficient = pos 0 }

pub added-requires-clause-small : goal.added-requires-clause-small
added-requires-clause-small c = c.requires c.loop-term.term-index none c.loop-term-test.true

pub loop-term-preserved : goal.loop-term-preserved
loop-term-preserved c = rw (as_it_was c.in_ok-sum.sum c.in_ok-sum.ensures.small) (record {
  value = value_more (λ r. pos (weight r)) c.args.terms.now c.loop-term.term-index none (to_z w128 c.loop-term.sum-bits) c.in_ok-sum.sum c.loop-term-test.true c.in_ok-sum.ensures.value c.loop-term.invariant.value;
  small = c.in_ok-sum.ensures.small;
})

pub returns-clause-value : goal.returns-clause-value
returns-clause-value c = value_all (λ r. pos (weight r)) c.args.terms.now c.loop-term.term-index (to_z w128 c.loop-term.sum-bits) c.loop-term-test.false c.loop-term.invariant.value
