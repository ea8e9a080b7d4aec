-- What is broken at a step after a fault.
use Rattle.std.proofs.Common.{ℕ, Option, Some, None, inl, inr, arith}
use Rattle.refusal.specs.declared.broken.Broken.{Broken}
use Rattle.footprints_feet.specs.footprints_zones.declared.place.Use.{Use}
use Rattle.ranges.specs.Walks.{StandsBefore}
use Rattle.ranges.proofs.Passed.{AreAfter, on_later_line}
use Rattle.footprints.specs.Rules.{IsUseBroken}

pub use_after : (line : ℕ) (used : Use) (named : Option Broken) → StandsBefore named line → AreAfter named (IsUseBroken line used)
use_after line used None before = before
use_after line used (Some first) before = λ b broken. elim broken [
  | inl (number, here, uncovered) ↦ on_later_line first b (omega (arith, before, here))
  | inr (number, here, unclear) ↦ on_later_line first b (omega (arith, before, here))
]
