use Rattle.std.proofs.Common.{rules}
use Rattle.linear.proofs.form.Form.plus_constant.Goals as goal

pub overflow_add-sum : goal.overflow_add-sum
overflow_add-sum c = search rules

pub invariant_of-result : goal.invariant_of-result
invariant_of-result c = search rules

pub returns-then-sum-le-CONSTANT_MOST-clause-exact : goal.returns-then-sum-le-CONSTANT_MOST-clause-exact
returns-then-sum-le-CONSTANT_MOST-clause-exact c = search rules

pub returns-else-sum-clause-refused : goal.returns-else-sum-clause-refused
returns-else-sum-clause-refused c = search rules

pub returns-else-sum-clause-bounds : goal.returns-else-sum-clause-bounds
returns-else-sum-clause-bounds c = search rules
