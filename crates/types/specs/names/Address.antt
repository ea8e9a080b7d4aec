-- Uses of pointers.
use Rattle.std.specs.Prelude.{ℕ, List, Option, Some, None, Result, Ok, Err}
use Rattle.program.specs.declared.identifier.ObjectName.TheVariants as object
use Rattle.program.specs.declared.instruction.Address.{Address}
use Rattle.program.specs.declared.instruction.Address.TheVariants as address
use Rattle.syntax.specs.declared.instruction.Address.{Address as AddressText}
use Rattle.syntax.specs.declared.instruction.Address.TheVariants as text
use Rattle.types.specs.declared.names.address.WholeObject.{WholeObject}
use Rattle.refusal.specs.declared.broken.Broken.{Broken as TypeFault}
use Rattle.types.specs.declared.names.item.Item.{Item}
use Rattle.types.specs.declared.names.item.Item.TheVariants as item
use Rattle.types.specs.declared.names.scope.Holding.{Holding}
use Rattle.types.specs.declared.names.scope.Holding.TheVariants as holding
use Rattle.types.specs.declared.names.scope.Register.{Register}
use Rattle.types.specs.names.Fault.{and_then, breaks, made_of, unless_of}
use Rattle.types.specs.names.Operand.{register_of}
use Rattle.types.specs.names.Scope.{Scope, is_step_of}
use Rattle.types.specs.names.Table.{look_up}

-- the names behind `@` with what they stand for, in the order of their definitions
abbrev pub Items : Type 0
Items = List (List ℕ × Item)

-- a global with its extent: 201 where nothing has the name, 202 where a function has it
abbrev pub as_global : ℕ → Option Item → Result WholeObject TypeFault
as_global line None = Err (breaks 201 line)
as_global line (Some (item.Global id cells)) = Ok (record { name = object.Global id; cells = cells })
as_global line (Some (item.Function id)) = Err (breaks 202 line)

-- a whole object with its extent: a `getelementptr` result is 204, what is no pointer 202
abbrev pub as_object : ℕ → Holding → Result WholeObject TypeFault
as_object line (holding.Object name cells) = Ok (record { name = name; cells = cells })
as_object line holding.Element = Err (breaks 204 line)
as_object line other = Err (breaks 202 line)

-- a pointer that has to name a whole object
abbrev pub object_of : Items → Scope → ℕ → AddressText → Result WholeObject TypeFault
object_of items scope line (text.Global name) = as_global line (look_up items name)
object_of items scope line (text.Register name) =
    and_then (register_of scope line name) (λ register. as_object line register.holding)

-- a cell: of an object the first, or the one that a `getelementptr` of the same block gave, else 204
abbrev pub as_address : ℕ → ℕ → Register → Holding → Result Address TypeFault
as_address block line register (holding.Object name cells) = Ok (address.First name)
as_address block line register holding.Element =
    made_of (λ _. address.Element register.id) (unless_of (is_step_of block register.origin) (breaks 204 line))
as_address block line register other = Err (breaks 202 line)

-- the address of a load, a store or an atomic add in a block
abbrev pub address_of : Items → Scope → ℕ → ℕ → AddressText → Result Address TypeFault
address_of items scope block line (text.Global name) =
    made_of (λ found. address.First found.name) (as_global line (look_up items name))
address_of items scope block line (text.Register name) =
    and_then (register_of scope line name) (λ register. as_address block line register register.holding)
