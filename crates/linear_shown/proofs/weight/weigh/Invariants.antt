use Rattle.std.proofs.Common.{◌≡◌, ◌<◌, ◌^◌, ◌+ℤ◌, drop}
use Rattle.std.specs.Int.RustNames.{unsigned_abs}
use Rattle.linear_shown.specs.Index.{weigh}
use Rattle.linear_shown.proofs.weight.weigh.Given as goal

abbrev pub invariant-loop-term : goal.invariant-loop-term
invariant-loop-term l = record {
  value : l.sum +ℤ weigh (drop l.term-index l.terms) ≡ weigh l.terms;
  small : unsigned_abs l.sum < 2 ^ 100;
}
