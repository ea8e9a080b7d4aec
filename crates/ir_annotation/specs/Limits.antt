-- The limits of names and numbers.
use Rattle.std.specs.Prelude.{ℕ, ℤ, pos, negsuc, nat_le, int_le, Bool, true, false, ◌&&◌, Option, Some, None}
use Rattle.std.specs.Prelude.{if◌then◌else◌}
use Rattle.ir_annotation.specs.declared.limits.Limited.{Limited}

abbrev pub limited : {A : Type 0} → A → Bool → Limited A
limited x is_within = record { value = x; is_within_limits = is_within }

-- a value that is within its limits, and 0 in the place of a number that is not
abbrev pub within : {A : Type 0} → A → Limited A
within x = limited x true

abbrev pub past_limit : {A : Type 0} → A → Limited A
past_limit x = limited x false

-- a number with a limit; none stands for a greater one than any limit
abbrev pub up_to : ℕ → Option ℕ → Limited ℕ
up_to most None = past_limit 0
up_to most (Some n) = if nat_le n most then within n else past_limit 0

-- from -(2^63 - 1) to 2^63 - 1
abbrev pub fits_form : ℤ → Bool
fits_form z = int_le (negsuc 9223372036854775806) z && int_le z (pos 9223372036854775807)

-- a coefficient or a constant of a form
abbrev pub narrowed : ℤ → Limited ℤ
narrowed z = if fits_form z then within z else past_limit (pos 0)
