-- Widths that are told apart.
use Rattle.std.specs.Prelude.{Bool, true, false}
use Rattle.syntax.specs.declared.operator.Width.{Width}
use Rattle.syntax.specs.declared.operator.Width.TheVariants.{Bits64, Bits32}

abbrev pub is_same_width : Width → Width → Bool
is_same_width Bits64 Bits64 = true
is_same_width Bits64 Bits32 = false
is_same_width Bits32 Bits64 = false
is_same_width Bits32 Bits32 = true
