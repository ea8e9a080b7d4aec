-- The cells of an object.
use Rattle.std.specs.Prelude.{ℕ}
use Rattle.syntax.specs.declared.instruction.AllocaSize.{AllocaSize}
use Rattle.syntax.specs.declared.instruction.AllocaSize.TheVariants.{One, Array}

abbrev pub size_cells : AllocaSize → ℕ
size_cells One = 1
size_cells (Array cells) = cells
