-- One bit of a mask.
use Rattle.std.specs.Prelude.{ℕ, Bool, nat_eq}
use Rattle.std.specs.Int.{bit_at}

abbrev pub is_set : ℕ → ℕ → Bool
is_set mask k = nat_eq (bit_at mask k) 1
