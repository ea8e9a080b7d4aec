use Rattle.std.proofs.Common.{◌≡◌, ◌+◌, ◌*◌, ◌^◌, ◌≤◌, ◌+ℤ◌, drop, unsigned_abs}
use Rattle.std.specs.Prelude.{slice_get}
use Rattle.linear.specs.Forms.{value_of}
use Rattle.semantics.specs.Written.{or_zero}
use Rattle.store.specs.Requirements.{value_at}
use Rattle.store.specs.Sums.{number_of}
use Rattle.store.proofs.arguments.value.Given as goal

abbrev pub invariant-loop-term : goal.invariant-loop-term
invariant-loop-term l = record {
  rest : value_of (λ r. or_zero (slice_get l.arguments r)) (drop l.term-index l.term-items) +ℤ number_of l.sum ≡ value_at l.arguments l.form;
  small : unsigned_abs (number_of l.sum) ≤ 2 ^ 127 + l.term-index * 2 ^ 126;
}
