-- Products by a number within a million.
use Rattle.std.specs.Prelude.{ℤ, pos, negsuc, int_le, Bool, ◌&&◌, Option, Some, None, if◌then◌else◌}
use Rattle.program.specs.declared.instruction.Operand.{Operand}
use Rattle.program.specs.declared.instruction.Operand.TheVariants.{Number, Register}
use Rattle.ranges_owed.specs.declared.sum.Part.{Part}

abbrev pub is_scale : ℤ → Bool
is_scale z = int_le (negsuc 999999) z && int_le z (pos 1000000)

abbrev pub scale_number : Operand → Option ℤ
scale_number (Number z) = if is_scale z then Some z else None
scale_number (Register r) = None

abbrev pub scale_left : Operand → Option ℤ → Option Part
scale_left y None = None
scale_left y (Some c) = Some (record { factor = c; operand = y })

abbrev pub scale_right : Operand → Operand → Option ℤ → Option Part
scale_right x y None = scale_left y (scale_number x)
scale_right x y (Some c) = Some (record { factor = c; operand = x })

-- a product as a number within a million times an operand, the second operand's number first
abbrev pub scale_of : Operand → Operand → Option Part
scale_of x y = scale_right x y (scale_number y)
