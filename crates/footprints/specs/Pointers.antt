-- The pointers of a block, by which the cell of an address is looked up.
use Rattle.std.specs.Prelude.{◌==◌, if◌then◌else◌, List, [], ◌∷◌, Option, Some, None}
use Rattle.linear.specs.declared.form.RegisterId.{RegisterId}
use Rattle.program.specs.declared.instruction.Instruction.{Instruction}
use Rattle.program.specs.declared.instruction.Instruction.TheVariants as instruction
use Rattle.footprints.specs.declared.access.Cell.{Cell}
use Rattle.footprints.specs.declared.access.Pointer.{Pointer}

abbrev pub defined_pointer : Instruction → Option Pointer
defined_pointer (instruction.ElementPointer d object index) =
    Some (record { register = d; cell = record { object = object; index = index } })
defined_pointer other = None

abbrev pub with_pointer : Option Pointer → List Pointer → List Pointer
with_pointer None pointers = pointers
with_pointer (Some pointer) pointers = pointer ∷ pointers

-- what the first of the pointers with this register points to
abbrev pub pointed_by : RegisterId → List Pointer → Option Cell
pointed_by r [] = None
pointed_by r (pointer ∷ pointers) = if pointer.register.0 == r.0 then Some pointer.cell else pointed_by r pointers
