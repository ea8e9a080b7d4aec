-- The place of a fault.
use Rattle.std.specs.Prelude.{ℕ, ◌≤◌}
use Rattle.refusal.specs.declared.refused.Refused.{Refused}
use Rattle.refusal.specs.Refusals.{IfBroken}

-- if a fault, then on one of this many lines
abbrev pub IsOnLineOf : ℕ → Refused → Type 0
IsOnLineOf count fault = IfBroken (λ broken. (1 ≤ broken.line) × (broken.line ≤ count)) fault
