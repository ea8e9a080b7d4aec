-- The kinds of lines: for each the shape of what stands behind its first tokens, and what it says.
use Rattle.std.specs.Prelude.{ℕ, List, [], ◌∷◌, codes, Option, Some, None, if◌then◌else◌, option_map}
use Rattle.std.specs.Str.{bytes_eq}
use Rattle.syntax.specs.declared.instruction.AllocaSize.TheVariants.{One, Array}
use Rattle.syntax.specs.declared.instruction.Instruction.{Instruction}
use Rattle.syntax.specs.declared.instruction.Instruction.TheVariants as instruction
use Rattle.syntax.specs.declared.instruction.Phi.{Phi}
use Rattle.syntax.specs.declared.operator.BinaryOperator.{BinaryOperator}
use Rattle.syntax.specs.declared.operator.Conversion.{Conversion}
use Rattle.syntax.specs.declared.operator.Conversion.TheVariants.{Truncate, SignExtend, ZeroExtend}
use Rattle.syntax.specs.declared.terminator.Terminator.{Terminator}
use Rattle.syntax.specs.declared.terminator.Terminator.TheVariants as terminator
use Rattle.ir_instruction.specs.declared.symbol.Symbol.{Symbol}
use Rattle.ir_instruction.specs.Outcome.{◌>>=◌}
use Rattle.ir_instruction.specs.Fronts.{is_word, behind}
use Rattle.ir_instruction.specs.Operators.{operator_of, without_wrap}
use Rattle.ir_instruction.specs.Cases.{are_cases_of, cases_from}
use Rattle.ir_instruction.specs.Shape.{Piece, word, mark, named, gap, register, function, label, operand, pointer}
use Rattle.ir_instruction.specs.Shape.{array, width, result_type}
use Rattle.ir_instruction.specs.Shape.{predicate, parameters, arguments, cases, entries, space, Gaps, gaps_of}

-- Instructions that define a register, behind '%d = WORD'

-- %d = OP T V, V
abbrev pub binary_shape : List Piece
binary_shape = gap width ∷ space ∷ gap operand ∷ mark 44 ∷ space ∷ gap operand ∷ []

abbrev pub binary_from : List ℕ → BinaryOperator → Gaps binary_shape → Instruction
binary_from d operator g = instruction.Binary d operator g.0 g.1.0 g.1.1.0

-- %d = icmp PRED T V, V
abbrev pub compare_shape : List Piece
compare_shape = gap predicate ∷ space ∷ gap width ∷ space ∷ gap operand ∷ mark 44 ∷ space ∷ gap operand ∷ []

abbrev pub compare_from : List ℕ → Gaps compare_shape → Instruction
compare_from d g = instruction.Compare d g.0 g.1.0 g.1.1.0 g.1.1.1.0

-- %d = trunc i64 V to i32
abbrev pub truncate_shape : List Piece
truncate_shape = word (codes "i64") ∷ space ∷ gap operand ∷ space ∷ word (codes "to") ∷ space ∷ word (codes "i32") ∷ []

-- %d = sext i32 V to i64, %d = zext i32 V to i64
abbrev pub extend_shape : List Piece
extend_shape = word (codes "i32") ∷ space ∷ gap operand ∷ space ∷ word (codes "to") ∷ space ∷ word (codes "i64") ∷ []

abbrev pub truncate_from : List ℕ → Gaps truncate_shape → Instruction
truncate_from d g = instruction.Convert d Truncate g.0

abbrev pub extend_from : List ℕ → Conversion → Gaps extend_shape → Instruction
extend_from d conversion g = instruction.Convert d conversion g.0

-- %d = alloca i64
abbrev pub alloca_shape : List Piece
alloca_shape = word (codes "i64") ∷ []

abbrev pub alloca_from : List ℕ → Gaps alloca_shape → Instruction
alloca_from d g = instruction.Alloca d One

-- %d = alloca [N x i64]
abbrev pub alloca_array_shape : List Piece
alloca_array_shape = gap array ∷ []

abbrev pub alloca_array_from : List ℕ → Gaps alloca_array_shape → Instruction
alloca_array_from d g = instruction.Alloca d (Array g.0)

-- %d = getelementptr inbounds i64, ptr P, i64 V
abbrev pub element_pointer_shape : List Piece
element_pointer_shape = word (codes "inbounds") ∷ space ∷ word (codes "i64") ∷ mark 44 ∷ space ∷ gap pointer ∷ mark 44
    ∷ space ∷ word (codes "i64") ∷ space ∷ gap operand ∷ []

abbrev pub element_pointer_from : List ℕ → Gaps element_pointer_shape → Instruction
element_pointer_from d g = instruction.ElementPointer d g.0 g.1.0

-- %d = load i64, ptr P
abbrev pub load_shape : List Piece
load_shape = word (codes "i64") ∷ mark 44 ∷ space ∷ gap pointer ∷ []

abbrev pub load_from : List ℕ → Gaps load_shape → Instruction
load_from d g = instruction.Load d g.0

-- %s = call token @llvm.syncregion.start()
abbrev pub start_region_shape : List Piece
start_region_shape = word (codes "token") ∷ space ∷ named (codes "llvm.syncregion.start") ∷ mark 40 ∷ mark 41 ∷ []

abbrev pub start_region_from : List ℕ → Gaps start_region_shape → Instruction
start_region_from d g = instruction.StartRegion d

-- %d = call i64 @f(ARG, ..)
abbrev pub call_shape : List Piece
call_shape = word (codes "i64") ∷ space ∷ gap function ∷ mark 40 ∷ gap arguments ∷ []

abbrev pub call_from : List ℕ → Gaps call_shape → Instruction
call_from d g = instruction.Call (Some d) g.0 g.1.0

-- %d = phi T [ V, %l ], ..
abbrev pub phi_shape : List Piece
phi_shape = gap width ∷ space ∷ gap entries ∷ []

abbrev pub phi_from : ℕ → List ℕ → Gaps phi_shape → Phi
phi_from at d g = record { line = at; register = d; width = g.0; entries = g.1.0 }

-- Instructions that define none, behind their first word

-- store i64 V, ptr P
abbrev pub store_shape : List Piece
store_shape = word (codes "i64") ∷ space ∷ gap operand ∷ mark 44 ∷ space ∷ gap pointer ∷ []

abbrev pub store_from : Gaps store_shape → Instruction
store_from g = instruction.Store g.0 g.1.0

-- store [N x i64] zeroinitializer, ptr P
abbrev pub store_zeros_shape : List Piece
store_zeros_shape = gap array ∷ space ∷ word (codes "zeroinitializer") ∷ mark 44 ∷ space ∷ gap pointer ∷ []

abbrev pub store_zeros_from : Gaps store_zeros_shape → Instruction
store_zeros_from g = instruction.StoreZeros g.0 g.1.0

-- atomicrmw add ptr P, i64 V seq_cst
abbrev pub atomic_shape : List Piece
atomic_shape = word (codes "add") ∷ space ∷ gap pointer ∷ mark 44 ∷ space ∷ word (codes "i64") ∷ space ∷ gap operand ∷
    space ∷ word (codes "seq_cst") ∷ []

abbrev pub atomic_from : Gaps atomic_shape → Instruction
atomic_from g = instruction.AtomicAdd g.0 g.1.0

-- call void @f(ARG, ..)
abbrev pub call_void_shape : List Piece
call_void_shape = word (codes "void") ∷ space ∷ gap function ∷ mark 40 ∷ gap arguments ∷ []

abbrev pub call_void_from : Gaps call_void_shape → Instruction
call_void_from g = instruction.Call None g.0 g.1.0

-- Terminators, behind their first word

-- br label %l
abbrev pub jump_shape : List Piece
jump_shape = gap label ∷ []

abbrev pub jump_from : Gaps jump_shape → Terminator
jump_from g = terminator.Jump g.0

-- br i1 %c, label %t, label %f: the labels differ
abbrev pub branch_shape : List Piece
branch_shape = word (codes "i1") ∷ space ∷ gap register ∷ mark 44 ∷ space ∷ gap label ∷ mark 44 ∷ space ∷ gap label ∷ []

abbrev pub branch_from : Gaps branch_shape → Option Terminator
branch_from g = if bytes_eq g.1.0 g.1.1.0 then None else Some (terminator.Branch g.0 g.1.0 g.1.1.0)

-- switch T V, label %l [ T N, label %l T N, label %l .. ]
abbrev pub switch_shape : List Piece
switch_shape = gap width ∷ space ∷ gap operand ∷ mark 44 ∷ space ∷ gap label ∷ space ∷ mark 91 ∷ space ∷ gap cases ∷ []

abbrev pub switch_from : Gaps switch_shape → Option Terminator
switch_from g = if are_cases_of g.0 g.1.1.0 g.1.1.1.0 then Some (terminator.Switch g.0 g.1.0 g.1.1.0
    (cases_from g.1.1.1.0)) else None

-- ret void
abbrev pub return_void_shape : List Piece
return_void_shape = word (codes "void") ∷ []

abbrev pub return_void_from : Gaps return_void_shape → Terminator
return_void_from g = terminator.Return None

-- ret i64 V
abbrev pub return_shape : List Piece
return_shape = word (codes "i64") ∷ space ∷ gap operand ∷ []

abbrev pub return_from : Gaps return_shape → Terminator
return_from g = terminator.Return (Some g.0)

-- detach within %s, label %d, label %c: the labels differ
abbrev pub detach_shape : List Piece
detach_shape = word (codes "within") ∷ space ∷ gap register ∷ mark 44 ∷ space ∷ gap label ∷ mark 44 ∷ space ∷
    gap label ∷ []

abbrev pub detach_from : Gaps detach_shape → Option Terminator
detach_from g = if bytes_eq g.1.0 g.1.1.0 then None else Some (terminator.Detach g.0 g.1.0 g.1.1.0)

-- reattach within %s, label %c, and sync within %s, label %n
abbrev pub region_shape : List Piece
region_shape = word (codes "within") ∷ space ∷ gap register ∷ mark 44 ∷ space ∷ gap label ∷ []

abbrev pub reattach_from : Gaps region_shape → Terminator
reattach_from g = terminator.Reattach g.0 g.1.0

abbrev pub sync_from : Gaps region_shape → Terminator
sync_from g = terminator.Sync g.0 g.1.0

-- Other lines

-- @a = global [N x i64] zeroinitializer, behind the name
abbrev pub global_shape : List Piece
global_shape = mark 61 ∷ space ∷ word (codes "global") ∷ space ∷ gap array ∷ space ∷ word (codes "zeroinitializer") ∷ []

-- define T @f(PARAM, ..) {, behind define
abbrev pub define_shape : List Piece
define_shape = gap result_type ∷ space ∷ gap function ∷ mark 40 ∷ gap parameters ∷ space ∷ mark 123 ∷ []

-- Which instruction or terminator it is, by what stands behind its first word

-- behind '%d = OP'
abbrev pub binary : List ℕ → BinaryOperator → List Symbol → Option Instruction
binary d operator rest = if is_word (codes "nsw") rest then (without_wrap operator >>=
    λ operator. option_map (binary_from d operator) (gaps_of binary_shape (behind rest)))
    else option_map (binary_from d operator) (gaps_of binary_shape rest)

-- behind '%d = alloca'
abbrev pub alloca : List ℕ → List Symbol → Option Instruction
alloca d rest = if is_word (codes "i64") rest then option_map (alloca_from d) (gaps_of alloca_shape rest)
    else option_map (alloca_array_from d) (gaps_of alloca_array_shape rest)

-- behind '%d = call'
abbrev pub call : List ℕ → List Symbol → Option Instruction
call d rest = if is_word (codes "token") rest then option_map (start_region_from d) (gaps_of start_region_shape rest)
    else option_map (call_from d) (gaps_of call_shape rest)

-- behind '%d = WORD', where the word is neither phi nor call
unfoldable pub fixed : List ℕ → List ℕ → List Symbol → Option Instruction
fixed d text rest = if bytes_eq text (codes "icmp") then option_map (compare_from d) (gaps_of compare_shape rest)
    else if bytes_eq text (codes "trunc") then option_map (truncate_from d) (gaps_of truncate_shape rest)
    else if bytes_eq text (codes "sext") then option_map (extend_from d SignExtend) (gaps_of extend_shape rest)
    else if bytes_eq text (codes "zext") then option_map (extend_from d ZeroExtend) (gaps_of extend_shape rest)
    else if bytes_eq text (codes "alloca") then alloca d rest
    else if bytes_eq text (codes "getelementptr") then option_map (element_pointer_from d)
    (gaps_of element_pointer_shape rest) else if bytes_eq text (codes "load") then option_map (load_from d)
    (gaps_of load_shape rest) else (operator_of text >>= λ operator. binary d operator rest)

abbrev pub store : List Symbol → Option Instruction
store rest = if is_word (codes "i64") rest then option_map store_from (gaps_of store_shape rest)
    else option_map store_zeros_from (gaps_of store_zeros_shape rest)

abbrev pub branch_in : List Symbol → Option Terminator
branch_in rest = gaps_of branch_shape rest >>= branch_from

abbrev pub br : List Symbol → Option Terminator
br rest = if is_word (codes "label") rest then option_map jump_from (gaps_of jump_shape rest) else branch_in rest

abbrev pub switch_in : List Symbol → Option Terminator
switch_in rest = gaps_of switch_shape rest >>= switch_from

abbrev pub return : List Symbol → Option Terminator
return rest = if is_word (codes "void") rest then option_map return_void_from (gaps_of return_void_shape rest)
    else option_map return_from (gaps_of return_shape rest)

abbrev pub detach_in : List Symbol → Option Terminator
detach_in rest = gaps_of detach_shape rest >>= detach_from

unfoldable pub terminator_in : List ℕ → List Symbol → Option Terminator
terminator_in text rest = if bytes_eq text (codes "br") then br rest
    else if bytes_eq text (codes "switch") then switch_in rest else if bytes_eq text (codes "ret") then return rest
    else if bytes_eq text (codes "detach") then detach_in rest
    else if bytes_eq text (codes "reattach") then option_map reattach_from (gaps_of region_shape rest)
    else if bytes_eq text (codes "sync") then option_map sync_from (gaps_of region_shape rest) else None
