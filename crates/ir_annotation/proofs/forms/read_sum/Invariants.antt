use Rattle.std.proofs.Common.{length}
use Rattle.ir_annotation.specs.Bounds.{total_of}
use Rattle.ir_annotation.proofs.Adding.{Summing}
use Rattle.ir_annotation.proofs.forms.read_sum.Given as goal

abbrev pub decreases-terms : goal.decreases-terms
decreases-terms l = length l.rest

abbrev pub invariant-terms : goal.invariant-terms
invariant-terms l = Summing l.word (total_of l.sum) l.is_negative l.rest
