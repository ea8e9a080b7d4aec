-- Chains of addresses.
use Rattle.std.specs.Prelude.{ℕ, ◌%◌, ℤ}
use Rattle.std.specs.Int.{w64, cast_unsigned}

-- the chain of an address
abbrev pub slot : ℤ → ℕ
slot at = cast_unsigned w64 at % 1024
