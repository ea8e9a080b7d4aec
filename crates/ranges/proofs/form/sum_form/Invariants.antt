use Rattle.std.proofs.Common.{◌≡◌, drop}
use Rattle.ranges.specs.Sums.{with_parts, start_of}
use Rattle.ranges.proofs.form.sum_form.Given as goal

abbrev pub invariant-loop-part : goal.invariant-loop-part
invariant-loop-part l = with_parts (drop l.part-index l.parts) l.form ≡ with_parts l.parts (start_of l.sum.constant)
