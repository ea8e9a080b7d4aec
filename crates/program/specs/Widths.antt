-- The widths of numbers.
use Rattle.syntax.specs.declared.operator.Conversion.{Conversion}
use Rattle.syntax.specs.declared.operator.Conversion.TheVariants.{Truncate}
use Rattle.syntax.specs.declared.operator.Width.{Width}
use Rattle.syntax.specs.declared.operator.Width.TheVariants.{Bits64, Bits32}

abbrev pub source_width : Conversion → Width
source_width Truncate = Bits64
source_width other = Bits32
