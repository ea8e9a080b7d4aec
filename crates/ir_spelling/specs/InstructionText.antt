-- Only the printer's own functions need these: how instructions are spelled, as text.
use Rattle.std.specs.Prelude.{ℕ, List, [], ◌∷◌, ◌++◌, codes, flat_map, Some, None}
use Rattle.syntax.specs.declared.operator.Width.{Width}
use Rattle.syntax.specs.declared.operator.BinaryOperator.{BinaryOperator}
use Rattle.syntax.specs.declared.operator.Predicate.{Predicate}
use Rattle.syntax.specs.declared.operator.Conversion.{Conversion}
use Rattle.syntax.specs.declared.operator.Conversion.TheVariants.{Truncate, SignExtend, ZeroExtend}
use Rattle.syntax.specs.declared.instruction.Operand.{Operand}
use Rattle.syntax.specs.declared.instruction.Address.{Address}
use Rattle.syntax.specs.declared.instruction.Argument.{Argument}
use Rattle.syntax.specs.declared.instruction.AllocaSize.{AllocaSize}
use Rattle.syntax.specs.declared.instruction.AllocaSize.TheVariants.{One, Array}
use Rattle.syntax.specs.declared.instruction.PhiEntry.{PhiEntry}
use Rattle.syntax.specs.declared.instruction.Phi.{Phi}
use Rattle.syntax.specs.declared.instruction.Instruction.{Instruction}
use Rattle.syntax.specs.declared.instruction.Instruction.TheVariants as instruction
use Rattle.ir_lex.specs.Names.{register_text}
use Rattle.ir_instruction.specs.Spelling.{width_word, predicate_word}
use Rattle.ir_spelling.specs.Spelling.{operator_text, operand_text, address_text, array_text, arguments_text}
use Rattle.ir_spelling.specs.Spelling.{behind_comma}

abbrev pub binary_text : List ℕ → BinaryOperator → Width → Operand → Operand → List ℕ
binary_text d operator width left right =
    register_text d ++ codes " = " ++ operator_text operator ++ codes " " ++ width_word width
    ++ codes " " ++ operand_text left ++ codes ", " ++ operand_text right

abbrev pub compare_text : List ℕ → Predicate → Width → Operand → Operand → List ℕ
compare_text d predicate width left right =
    register_text d ++ codes " = icmp " ++ predicate_word predicate ++ codes " " ++ width_word width
    ++ codes " " ++ operand_text left ++ codes ", " ++ operand_text right

-- what stands before the value and behind it
abbrev pub conversion_texts : Conversion → List ℕ × List ℕ
conversion_texts Truncate = (codes " = trunc i64 ", codes " to i32")
conversion_texts SignExtend = (codes " = sext i32 ", codes " to i64")
conversion_texts ZeroExtend = (codes " = zext i32 ", codes " to i64")

abbrev pub convert_text : List ℕ → Conversion → Operand → List ℕ
convert_text d conversion value = register_text d ++ (conversion_texts conversion).0 ++ operand_text value ++
    (conversion_texts conversion).1

abbrev pub size_text : AllocaSize → List ℕ
size_text One = codes "i64"
size_text (Array cells) = array_text cells

abbrev pub alloca_text : List ℕ → AllocaSize → List ℕ
alloca_text d size = register_text d ++ codes " = alloca " ++ size_text size

abbrev pub element_pointer_text : List ℕ → Address → Operand → List ℕ
element_pointer_text d base index =
    register_text d ++ codes " = getelementptr inbounds i64, " ++ address_text base ++ codes ", i64 " ++
    operand_text index

abbrev pub load_text : List ℕ → Address → List ℕ
load_text d address = register_text d ++ codes " = load i64, " ++ address_text address

abbrev pub store_text : Operand → Address → List ℕ
store_text value address = codes "store i64 " ++ operand_text value ++ codes ", " ++ address_text address

abbrev pub store_zeros_text : ℕ → Address → List ℕ
store_zeros_text cells address = codes "store " ++ array_text cells ++ codes " zeroinitializer, " ++
    address_text address

abbrev pub atomic_add_text : Address → Operand → List ℕ
atomic_add_text address value = codes "atomicrmw add " ++ address_text address ++ codes ", i64 " ++
    operand_text value ++ codes " seq_cst"

unfoldable pub call_text : List ℕ → List ℕ → List Argument → List ℕ
call_text d callee arguments = register_text d ++ codes " = call i64 @" ++ callee ++
    codes "(" ++ arguments_text arguments ++ codes ")"

unfoldable pub call_void_text : List ℕ → List Argument → List ℕ
call_void_text callee arguments = codes "call void @" ++ callee ++ codes "(" ++ arguments_text arguments ++ codes ")"

abbrev pub start_region_text : List ℕ → List ℕ
start_region_text d = register_text d ++ codes " = call token @llvm.syncregion.start()"

abbrev pub instruction_text : Instruction → List ℕ
instruction_text (instruction.Binary d operator width left right) = binary_text d operator width left right
instruction_text (instruction.Compare d predicate width left right) = compare_text d predicate width left right
instruction_text (instruction.Convert d conversion value) = convert_text d conversion value
instruction_text (instruction.Alloca d size) = alloca_text d size
instruction_text (instruction.ElementPointer d base index) = element_pointer_text d base index
instruction_text (instruction.Load d address) = load_text d address
instruction_text (instruction.Store value address) = store_text value address
instruction_text (instruction.StoreZeros cells address) = store_zeros_text cells address
instruction_text (instruction.AtomicAdd address value) = atomic_add_text address value
instruction_text (instruction.Call (Some d) callee arguments) = call_text d callee arguments
instruction_text (instruction.Call None callee arguments) = call_void_text callee arguments
instruction_text (instruction.StartRegion d) = start_region_text d

-- [ V, %l ]
abbrev pub entry_text : PhiEntry → List ℕ
entry_text e = codes "[ " ++ operand_text e.value ++ codes ", " ++ register_text e.predecessor ++ codes " ]"

abbrev pub entries_text : List PhiEntry → List ℕ
entries_text [] = []
entries_text (e ∷ es) = entry_text e ++ flat_map (behind_comma entry_text) es

abbrev pub phi_text : Phi → List ℕ
phi_text p = register_text p.register ++ codes " = phi " ++ width_word p.width ++ codes " " ++ entries_text p.entries
