-- The names of a module whose parts are spelled within their limits are names of at most 64 bytes.
use Rattle.std.proofs.Common.{ℕ, List, [], ◌∷◌, map, Some, None, refl}
use Rattle.std.specs.List.{All, flat_map}
use Rattle.std.proofs.lemmas.List.Elements.{All-nil, All-cons, All-append, All-head, All-tail}
use Rattle.ir_annotation.specs.Annotations.{IsShortName}
use Rattle.ir_reader.specs.declared.item.item.Item.TheVariants as item
use Rattle.ir_reader.specs.item.Printed.{IsKeptItem}
use Rattle.ir_reader.proofs.item.Names.{item_short, head_short}
use Rattle.syntax.specs.declared.instruction.AllocaSize.TheVariants.{One, Array}
use Rattle.syntax.specs.declared.operator.Conversion.TheVariants.{Truncate, SignExtend, ZeroExtend}
use Rattle.syntax.specs.declared.instruction.Instruction.{Instruction}
use Rattle.syntax.specs.declared.instruction.Instruction.TheVariants as instruction
use Rattle.syntax.specs.declared.module.Block.{Block}
use Rattle.syntax.specs.declared.module.Function.{Function}
use Rattle.syntax.specs.declared.module.Module.{Module}
use Rattle.ir_reader.specs.Defined.{parameter_name, option_list, defined_register, step_registers, phi_register, block_registers, block_names, function_names, global_name, function_name, module_names}
use Rattle.ir_reader.specs.Kept.{IsPhiWritten, IsStepWritten, IsBlockWritten, IsFunctionWritten, IsGlobalWritten}

map_short : {A : Type 0} (P : A → Type 0) (name : A → List ℕ) → ((x : A) → P x → IsShortName (name x)) → (xs : List A) → All P xs → All IsShortName (map name xs)
map_short P name each [] all = All-nil IsShortName
map_short P name each (x ∷ xs) all = All-cons IsShortName (name x) (map name xs) (each x (All-head P x xs all)) (map_short P name each xs (All-tail P x xs all))

flat_short : {A : Type 0} (P : A → Type 0) (names : A → List (List ℕ)) → ((x : A) → P x → All IsShortName (names x)) → (xs : List A) → All P xs → All IsShortName (flat_map names xs)
flat_short P names each [] all = All-nil IsShortName
flat_short P names each (x ∷ xs) all = All-append IsShortName (names x) (flat_map names xs) (each x (All-head P x xs all)) (flat_short P names each xs (All-tail P x xs all))

one_short : (name : List ℕ) → IsShortName name → All IsShortName (name ∷ [])
one_short name is = All-cons IsShortName name [] is (All-nil IsShortName)

register_short : (i : Instruction) → IsKeptItem (item.Instruction i) → All IsShortName (option_list (defined_register i))
register_short (instruction.Binary d o w a b) is = one_short d (item_short (item.Instruction (instruction.Binary d o w a b)) d is refl)
register_short (instruction.Compare d p w a b) is = one_short d (item_short (item.Instruction (instruction.Compare d p w a b)) d is refl)
register_short (instruction.Convert d Truncate v) is = one_short d (item_short (item.Instruction (instruction.Convert d Truncate v)) d is refl)
register_short (instruction.Convert d SignExtend v) is = one_short d (item_short (item.Instruction (instruction.Convert d SignExtend v)) d is refl)
register_short (instruction.Convert d ZeroExtend v) is = one_short d (item_short (item.Instruction (instruction.Convert d ZeroExtend v)) d is refl)
register_short (instruction.Alloca d One) is = one_short d (item_short (item.Instruction (instruction.Alloca d One)) d is refl)
register_short (instruction.Alloca d (Array n)) is = one_short d (item_short (item.Instruction (instruction.Alloca d (Array n))) d is refl)
register_short (instruction.ElementPointer d p v) is = one_short d (item_short (item.Instruction (instruction.ElementPointer d p v)) d is refl)
register_short (instruction.Load d p) is = one_short d (item_short (item.Instruction (instruction.Load d p)) d is refl)
register_short (instruction.Store v p) is = All-nil IsShortName
register_short (instruction.StoreZeros n p) is = All-nil IsShortName
register_short (instruction.AtomicAdd p v) is = All-nil IsShortName
register_short (instruction.Call (Some d) f xs) is = one_short d (item_short (item.Instruction (instruction.Call (Some d) f xs)) d is refl)
register_short (instruction.Call None f xs) is = All-nil IsShortName
register_short (instruction.StartRegion d) is = one_short d (item_short (item.Instruction (instruction.StartRegion d)) d is refl)

block_short : (b : Block) → IsBlockWritten b → All IsShortName (block_names b)
unfolding block_registers
block_short b is =
    All-cons IsShortName b.label (block_registers b) (item_short (item.Label b.label) b.label is.label refl)
    (All-append IsShortName (map phi_register b.phis) (flat_map step_registers b.steps) (map_short IsPhiWritten phi_register (λ p of. item_short (item.Phi p) p.register of refl) b.phis is.phis)
    (flat_short IsStepWritten step_registers (λ s of. register_short s.instruction of.instruction) b.steps is.steps))

pub function_short : (f : Function) → IsFunctionWritten f → All IsShortName (function_names f)
unfolding function_names
function_short f is =
    All-append IsShortName (map parameter_name f.parameters) (flat_map block_names f.blocks) (head_short f.name f.result_type f.parameters is.head).parameters (flat_short IsBlockWritten block_names block_short f.blocks is.blocks)

pub module_short : (m : Module) → All IsGlobalWritten m.globals → All IsFunctionWritten m.functions → All IsShortName (module_names m)
unfolding module_names
module_short m globals functions =
    All-append IsShortName (map global_name m.globals) (map function_name m.functions) (map_short IsGlobalWritten global_name (λ g of. item_short (item.Global g) g.name of refl) m.globals globals)
    (map_short IsFunctionWritten function_name (λ f of. (head_short f.name f.result_type f.parameters of.head).name_short) m.functions functions)
