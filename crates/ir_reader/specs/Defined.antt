-- The names that a module's parts define, in the order of the text.
use Rattle.std.specs.Prelude.{ℕ, List, [], ◌∷◌, ◌++◌, codes, map, flat_map, Option, Some, None}
use Rattle.ir_reader.specs.declared.item.item.Item.{Item}
use Rattle.ir_reader.specs.declared.item.item.Item.TheVariants as item
use Rattle.syntax.specs.declared.instruction.Instruction.{Instruction}
use Rattle.syntax.specs.declared.instruction.Instruction.TheVariants as instruction
use Rattle.syntax.specs.declared.instruction.Step.{Step}
use Rattle.syntax.specs.declared.instruction.Phi.{Phi}
use Rattle.syntax.specs.declared.module.Global.{Global}
use Rattle.syntax.specs.declared.module.Parameter.{Parameter}
use Rattle.syntax.specs.declared.module.Parameter.TheVariants as parameter
use Rattle.syntax.specs.declared.module.Block.{Block}
use Rattle.syntax.specs.declared.module.Function.{Function}
use Rattle.syntax.specs.declared.module.Module.{Module}
use Rattle.ir_reader.specs.declared.draft.Draft.{Draft}
use Rattle.ir_reader.specs.declared.draft.LineContext.{LineContext}
use Rattle.ir_reader.specs.declared.draft.LineContext.TheVariants as place
use Rattle.ir_reader.specs.Opening.{with_block}

abbrev pub parameter_name : Parameter → List ℕ
parameter_name (parameter.Number name) = name
parameter_name (parameter.Pointer name cells) = name

abbrev pub defined_register : Instruction → Option (List ℕ)
defined_register (instruction.Binary d operator width left right) = Some d
defined_register (instruction.Compare d predicate width left right) = Some d
defined_register (instruction.Convert d conversion value) = Some d
defined_register (instruction.Alloca d size) = Some d
defined_register (instruction.ElementPointer d base index) = Some d
defined_register (instruction.Load d address) = Some d
defined_register (instruction.Call d callee arguments) = d
defined_register (instruction.StartRegion d) = Some d
defined_register other = None

abbrev pub option_list : {A : Type 0} → Option A → List A
option_list None = []
option_list (Some x) = x ∷ []

abbrev pub step_registers : Step → List (List ℕ)
step_registers s = option_list (defined_register s.instruction)

abbrev pub phi_register : Phi → List ℕ
phi_register p = p.register

unfoldable pub block_registers : Block → List (List ℕ)
block_registers b = map phi_register b.phis ++ flat_map step_registers b.steps

abbrev pub block_names : Block → List (List ℕ)
block_names b = b.label ∷ block_registers b

-- labels, registers and parameters share one name space
unfoldable pub function_names : Function → List (List ℕ)
function_names f = map parameter_name f.parameters ++ flat_map block_names f.blocks

abbrev pub global_name : Global → List ℕ
global_name g = g.name

abbrev pub function_name : Function → List ℕ
function_name f = f.name

-- globals and functions share one name space
unfoldable pub module_names : Module → List (List ℕ)
module_names m = map global_name m.globals ++ map function_name m.functions

-- no global and no function may have this name
abbrev pub reserved_outside : List ℕ
reserved_outside = codes "llvm.syncregion.start"

-- no label, register or parameter may have this name
abbrev pub reserved_inside : List ℕ
reserved_inside = codes ".ret"

abbrev pub open_function : LineContext → Option Function
open_function place.Outside = None
open_function (place.FunctionHead h) = Some h.function
open_function (place.BlockHead f h) = Some (with_block f h.block)
open_function (place.Phis f b) = Some (with_block f b)
open_function (place.Body f b shows) = Some (with_block f b)
open_function (place.Ended f b) = Some (with_block f b)

-- the names that stand outside functions; the reserved one counts as defined
abbrev pub names_beside : Module → Option Function → List (List ℕ)
names_beside m open_one = reserved_outside ∷ (module_names m ++ map function_name (option_list open_one))

abbrev pub names_outside : Draft → List (List ℕ)
names_outside d = names_beside d.whole (open_function d.place)

abbrev pub names_in : Option Function → List (List ℕ)
names_in None = []
names_in (Some f) = reserved_inside ∷ function_names f

-- the names that stand in the open function; the reserved one counts as defined
abbrev pub names_inside : Draft → List (List ℕ)
names_inside d = names_in (open_function d.place)

-- what an item defines outside functions and in the function that is open behind it
abbrev pub defined_outside : Item → List (List ℕ)
defined_outside (item.Global g) = g.name ∷ []
defined_outside (item.Define name result_type parameters) = name ∷ []
defined_outside _ = []

abbrev pub defined_inside : Item → List (List ℕ)
defined_inside (item.Define name result_type parameters) = map parameter_name parameters
defined_inside (item.Label label) = label ∷ []
defined_inside (item.Phi p) = p.register ∷ []
defined_inside (item.Instruction i) = option_list (defined_register i)
defined_inside _ = []

-- what stands in the function that is open behind the item, before it defines its own
abbrev pub inside_before : List (List ℕ) → Item → List (List ℕ)
inside_before names (item.Define name result_type parameters) = reserved_inside ∷ []
inside_before names item.Close = []
inside_before names _ = names
