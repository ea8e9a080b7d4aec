-- The number that a sum in two words stands for.
use Rattle.std.specs.Prelude.{◌^◌, ℤ, pos, ◌+ℤ◌, ◌*ℤ◌}
use Rattle.store.specs.declared.sums.Sum.{Sum}

abbrev pub number_of : Sum → ℤ
number_of s = (s.high *ℤ pos (2 ^ 64)) +ℤ pos s.low
