-- How lines are spelled: the symbols and spaces of their canonical print.
use Rattle.std.specs.Prelude.{ℕ, zero, suc, ◌*◌, ℤ, pos, List, [], ◌∷◌, ◌++◌, codes, flat_map, Option, Some, None}
use Rattle.std.specs.Fmt.{signed_decimal}
use Rattle.syntax.specs.declared.instruction.AllocaSize.TheVariants.{One, Array}
use Rattle.syntax.specs.declared.instruction.Operand.{Operand}
use Rattle.syntax.specs.declared.instruction.Operand.TheVariants as operands
use Rattle.syntax.specs.declared.instruction.Address.{Address}
use Rattle.syntax.specs.declared.instruction.Address.TheVariants as addresses
use Rattle.syntax.specs.declared.instruction.Argument.{Argument}
use Rattle.syntax.specs.declared.instruction.Argument.TheVariants as argument
use Rattle.syntax.specs.declared.instruction.Instruction.{Instruction}
use Rattle.syntax.specs.declared.instruction.Instruction.TheVariants as instruction
use Rattle.syntax.specs.declared.instruction.Phi.{Phi}
use Rattle.syntax.specs.declared.instruction.PhiEntry.{PhiEntry}
use Rattle.syntax.specs.declared.module.Global.{Global}
use Rattle.syntax.specs.declared.module.Parameter.{Parameter}
use Rattle.syntax.specs.declared.module.Parameter.TheVariants as parameter
use Rattle.syntax.specs.declared.module.ResultType.{ResultType}
use Rattle.syntax.specs.declared.module.ResultType.TheVariants as results
use Rattle.syntax.specs.declared.operator.BinaryOperator.{BinaryOperator}
use Rattle.syntax.specs.declared.operator.BinaryOperator.TheVariants.{Add, Subtract, Multiply, AddNoWrap}
use Rattle.syntax.specs.declared.operator.BinaryOperator.TheVariants.{SubtractNoWrap, MultiplyNoWrap}
use Rattle.syntax.specs.declared.operator.BinaryOperator.TheVariants.{SignedDivide, UnsignedDivide, SignedRemainder}
use Rattle.syntax.specs.declared.operator.BinaryOperator.TheVariants.{UnsignedRemainder, ShiftLeft}
use Rattle.syntax.specs.declared.operator.BinaryOperator.TheVariants.{LogicalShiftRight, ArithmeticShiftRight, And, Or}
use Rattle.syntax.specs.declared.operator.BinaryOperator.TheVariants.{ExclusiveOr}
use Rattle.syntax.specs.declared.operator.Conversion.TheVariants.{Truncate, SignExtend, ZeroExtend}
use Rattle.syntax.specs.declared.operator.Predicate.{Predicate}
use Rattle.syntax.specs.declared.operator.Predicate.TheVariants.{Equal, NotEqual, UnsignedGreater, UnsignedAtLeast}
use Rattle.syntax.specs.declared.operator.Predicate.TheVariants.{UnsignedLess, UnsignedAtMost}
use Rattle.syntax.specs.declared.operator.Predicate.TheVariants.{SignedGreater, SignedAtLeast, SignedLess, SignedAtMost}
use Rattle.syntax.specs.declared.operator.Width.{Width}
use Rattle.syntax.specs.declared.operator.Width.TheVariants.{Bits64, Bits32}
use Rattle.syntax.specs.declared.terminator.Case.{Case}
use Rattle.syntax.specs.declared.terminator.Terminator.{Terminator}
use Rattle.syntax.specs.declared.terminator.Terminator.TheVariants as terminator
use Rattle.ir_lex.specs.Names.{register_text, global_text}
use Rattle.ir_instruction.specs.declared.symbol.Numeral.{Numeral}
use Rattle.ir_instruction.specs.declared.symbol.Numeral.TheVariants.{Small, Large}
use Rattle.ir_instruction.specs.declared.symbol.Symbol.{Symbol}
use Rattle.ir_instruction.specs.declared.symbol.Symbol.TheVariants as symbols
use Rattle.ir_instruction.specs.declared.switch.SpelledCase.{SpelledCase}
use Rattle.ir_instruction.specs.Shape.{Gap, register, function, label, operand, pointer, array, width, result_type}
use Rattle.ir_instruction.specs.Shape.{predicate, parameters, arguments}
use Rattle.ir_instruction.specs.Shape.{cases, entries, Piece, word, mark, named, gap, space, Held, Gaps}
use Rattle.ir_instruction.specs.Grammar.{binary_shape, compare_shape, truncate_shape, extend_shape, alloca_shape}
use Rattle.ir_instruction.specs.Grammar.{alloca_array_shape}
use Rattle.ir_instruction.specs.Grammar.{element_pointer_shape, load_shape, start_region_shape, call_shape, phi_shape}
use Rattle.ir_instruction.specs.Grammar.{store_shape, store_zeros_shape}
use Rattle.ir_instruction.specs.Grammar.{atomic_shape, call_void_shape, jump_shape, branch_shape, switch_shape}
use Rattle.ir_instruction.specs.Grammar.{return_void_shape, return_shape}
use Rattle.ir_instruction.specs.Grammar.{detach_shape, region_shape, global_shape, define_shape}

-- a symbol, or a space between two
pub data Atom : Type 0 where
  Token : Symbol → Atom
  Blank : Atom

abbrev pub numeral_text : Numeral → List ℕ
numeral_text (Small n) = signed_decimal n
numeral_text (Large digits) = digits

abbrev pub symbol_text : Symbol → List ℕ
symbol_text (symbols.Register name) = register_text name
symbol_text (symbols.Global name) = global_text name
symbol_text (symbols.Number n) = numeral_text n
symbol_text (symbols.Word text) = text
symbol_text (symbols.Mark byte) = byte ∷ []
symbol_text symbols.Note = codes ";!"

abbrev pub text_of : List Atom → List ℕ
text_of [] = []
text_of (Blank ∷ atoms) = 32 ∷ text_of atoms
text_of (Token s ∷ atoms) = symbol_text s ++ text_of atoms

abbrev pub symbols_in : List Atom → List Symbol
symbols_in [] = []
symbols_in (Blank ∷ atoms) = symbols_in atoms
symbols_in (Token s ∷ atoms) = s ∷ symbols_in atoms

abbrev pub a_word : List ℕ → Atom
a_word text = Token (symbols.Word text)

abbrev pub a_mark : ℕ → Atom
a_mark byte = Token (symbols.Mark byte)

abbrev pub a_register : List ℕ → Atom
a_register name = Token (symbols.Register name)

abbrev pub a_number : ℤ → Atom
a_number n = Token (symbols.Number (Small n))

abbrev pub operand_symbol : Operand → Symbol
operand_symbol (operands.Number n) = symbols.Number (Small n)
operand_symbol (operands.Register name) = symbols.Register name

abbrev pub address_symbol : Address → Symbol
address_symbol (addresses.Register name) = symbols.Register name
address_symbol (addresses.Global name) = symbols.Global name

abbrev pub operand_atom : Operand → Atom
operand_atom value = Token (operand_symbol value)

abbrev pub address_atom : Address → Atom
address_atom address = Token (address_symbol address)

abbrev pub width_word : Width → List ℕ
width_word Bits64 = codes "i64"
width_word Bits32 = codes "i32"

abbrev pub result_word : ResultType → List ℕ
result_word results.Number = codes "i64"
result_word results.Void = codes "void"

abbrev pub predicate_word : Predicate → List ℕ
predicate_word Equal = codes "eq"
predicate_word NotEqual = codes "ne"
predicate_word UnsignedGreater = codes "ugt"
predicate_word UnsignedAtLeast = codes "uge"
predicate_word UnsignedLess = codes "ult"
predicate_word UnsignedAtMost = codes "ule"
predicate_word SignedGreater = codes "sgt"
predicate_word SignedAtLeast = codes "sge"
predicate_word SignedLess = codes "slt"
predicate_word SignedAtMost = codes "sle"

-- an operation's word, and nsw where it has that
abbrev pub operator_atoms : BinaryOperator → List Atom
operator_atoms Add = a_word (codes "add") ∷ []
operator_atoms Subtract = a_word (codes "sub") ∷ []
operator_atoms Multiply = a_word (codes "mul") ∷ []
operator_atoms AddNoWrap = a_word (codes "add") ∷ Blank ∷ a_word (codes "nsw") ∷ []
operator_atoms SubtractNoWrap = a_word (codes "sub") ∷ Blank ∷ a_word (codes "nsw") ∷ []
operator_atoms MultiplyNoWrap = a_word (codes "mul") ∷ Blank ∷ a_word (codes "nsw") ∷ []
operator_atoms SignedDivide = a_word (codes "sdiv") ∷ []
operator_atoms UnsignedDivide = a_word (codes "udiv") ∷ []
operator_atoms SignedRemainder = a_word (codes "srem") ∷ []
operator_atoms UnsignedRemainder = a_word (codes "urem") ∷ []
operator_atoms ShiftLeft = a_word (codes "shl") ∷ []
operator_atoms LogicalShiftRight = a_word (codes "lshr") ∷ []
operator_atoms ArithmeticShiftRight = a_word (codes "ashr") ∷ []
operator_atoms And = a_word (codes "and") ∷ []
operator_atoms Or = a_word (codes "or") ∷ []
operator_atoms ExclusiveOr = a_word (codes "xor") ∷ []

abbrev pub label_atoms : List ℕ → List Atom
label_atoms name = a_word (codes "label") ∷ Blank ∷ a_register name ∷ []

abbrev pub pointer_atoms : Address → List Atom
pointer_atoms address = a_word (codes "ptr") ∷ Blank ∷ address_atom address ∷ []

-- [N x i64]
abbrev pub array_atoms : ℕ → List Atom
array_atoms n = a_mark 91 ∷ a_number (pos n) ∷ Blank ∷ a_word (codes "x") ∷ Blank ∷ a_word (codes "i64") ∷ a_mark 93 ∷
    []

abbrev pub parameter_atoms : Parameter → List Atom
parameter_atoms (parameter.Number name) = a_word (codes "i64") ∷ Blank ∷ a_register name ∷ []
parameter_atoms (parameter.Pointer name cells) =
    a_word (codes "ptr") ∷ Blank ∷ a_word (codes "noalias") ∷ Blank ∷ a_word (codes "dereferenceable")
    ∷ a_mark 40 ∷ a_number (pos (8 * cells)) ∷ a_mark 41 ∷ Blank ∷ a_register name ∷ []

abbrev pub argument_atoms : Argument → List Atom
argument_atoms (argument.Number value) = a_word (codes "i64") ∷ Blank ∷ operand_atom value ∷ []
argument_atoms (argument.Pointer address) = pointer_atoms address

-- [ V, %l ]
abbrev pub entry_atoms : PhiEntry → List Atom
entry_atoms e = a_mark 91 ∷ Blank ∷ operand_atom e.value ∷ a_mark 44 ∷ Blank ∷ a_register e.predecessor ∷ Blank ∷
    a_mark 93 ∷ []

-- T N, label %l
abbrev pub case_atoms : SpelledCase → List Atom
case_atoms c = a_word (width_word c.width) ∷ Blank ∷ Token (symbols.Number c.number) ∷ a_mark 44 ∷ Blank ∷
    label_atoms c.target

-- behind a comma and a space
abbrev pub other_atoms : {A : Type 0} → (A → List Atom) → A → List Atom
other_atoms f x = a_mark 44 ∷ Blank ∷ f x

-- parted by commas
abbrev pub parted : {A : Type 0} → (A → List Atom) → List A → List Atom
parted f [] = []
parted f (x ∷ xs) = f x ++ flat_map (other_atoms f) xs

-- up to ]
abbrev pub cases_atoms : List SpelledCase → List Atom
cases_atoms [] = a_mark 93 ∷ []
cases_atoms (c ∷ cs) = case_atoms c ++ (Blank ∷ cases_atoms cs)

abbrev pub gap_atoms : (g : Gap) → Held g → List Atom
gap_atoms register name = a_register name ∷ []
gap_atoms function name = Token (symbols.Global name) ∷ []
gap_atoms label name = label_atoms name
gap_atoms operand value = operand_atom value ∷ []
gap_atoms pointer address = pointer_atoms address
gap_atoms array n = array_atoms n
gap_atoms width w = a_word (width_word w) ∷ []
gap_atoms result_type r = a_word (result_word r) ∷ []
gap_atoms predicate p = a_word (predicate_word p) ∷ []
gap_atoms parameters ps = parted parameter_atoms ps ++ a_mark 41 ∷ []
gap_atoms arguments xs = parted argument_atoms xs ++ a_mark 41 ∷ []
gap_atoms cases cs = cases_atoms cs
gap_atoms entries es = parted entry_atoms es

-- a line of a shape
abbrev pub atoms_of : (shape : List Piece) → Gaps shape → List Atom
atoms_of [] gaps = []
atoms_of (word text ∷ shape) gaps = a_word text ∷ atoms_of shape gaps
atoms_of (mark byte ∷ shape) gaps = a_mark byte ∷ atoms_of shape gaps
atoms_of (named text ∷ shape) gaps = Token (symbols.Global text) ∷ atoms_of shape gaps
atoms_of (gap g ∷ shape) gaps = gap_atoms g gaps.0 ++ atoms_of shape gaps.1
atoms_of (space ∷ shape) gaps = Blank ∷ atoms_of shape gaps

-- what stands before the shape of an instruction that defines a register
abbrev pub defining : List ℕ → List ℕ → List Atom → List Atom
defining d text atoms = a_register d ∷ Blank ∷ a_mark 61 ∷ Blank ∷ a_word text ∷ Blank ∷ atoms

-- what stands before the shape of another one
abbrev pub beginning : List ℕ → List Atom → List Atom
beginning text atoms = a_word text ∷ Blank ∷ atoms

abbrev pub call_atoms : Option (List ℕ) → List ℕ → List Argument → List Atom
call_atoms (Some d) f xs = defining d (codes "call") (atoms_of call_shape (f, (xs, tt)))
call_atoms None f xs = beginning (codes "call") (atoms_of call_void_shape (f, (xs, tt)))

abbrev pub instruction_atoms : Instruction → List Atom
instruction_atoms (instruction.Binary d operator w a b) =
    a_register d ∷ Blank ∷ a_mark 61 ∷ Blank ∷ (operator_atoms operator ++ Blank ∷
    atoms_of binary_shape (w, (a, (b, tt))))
instruction_atoms (instruction.Compare d p w a b) =
    defining d (codes "icmp") (atoms_of compare_shape (p, (w, (a, (b, tt)))))
instruction_atoms (instruction.Convert d Truncate v) = defining d (codes "trunc") (atoms_of truncate_shape (v, tt))
instruction_atoms (instruction.Convert d SignExtend v) = defining d (codes "sext") (atoms_of extend_shape (v, tt))
instruction_atoms (instruction.Convert d ZeroExtend v) = defining d (codes "zext") (atoms_of extend_shape (v, tt))
instruction_atoms (instruction.Alloca d One) = defining d (codes "alloca") (atoms_of alloca_shape tt)
instruction_atoms (instruction.Alloca d (Array n)) = defining d (codes "alloca") (atoms_of alloca_array_shape (n, tt))
instruction_atoms (instruction.ElementPointer d p v) =
    defining d (codes "getelementptr") (atoms_of element_pointer_shape (p, (v, tt)))
instruction_atoms (instruction.Load d p) = defining d (codes "load") (atoms_of load_shape (p, tt))
instruction_atoms (instruction.Store v p) = beginning (codes "store") (atoms_of store_shape (v, (p, tt)))
instruction_atoms (instruction.StoreZeros n p) = beginning (codes "store") (atoms_of store_zeros_shape (n, (p, tt)))
instruction_atoms (instruction.AtomicAdd p v) = beginning (codes "atomicrmw") (atoms_of atomic_shape (p, (v, tt)))
instruction_atoms (instruction.Call d f xs) = call_atoms d f xs
instruction_atoms (instruction.StartRegion d) = defining d (codes "call") (atoms_of start_region_shape tt)

abbrev pub phi_atoms : Phi → List Atom
phi_atoms phi = defining phi.register (codes "phi") (atoms_of phi_shape (phi.width, (phi.entries, tt)))

abbrev pub spelled_case : Width → Case → SpelledCase
spelled_case w c = record { width = w; number = Small c.number; target = c.target }

abbrev pub spelled_cases : Width → List Case → List SpelledCase
spelled_cases w [] = []
spelled_cases w (c ∷ cs) = spelled_case w c ∷ spelled_cases w cs

abbrev pub terminator_atoms : Terminator → List Atom
terminator_atoms (terminator.Jump l) = beginning (codes "br") (atoms_of jump_shape (l, tt))
terminator_atoms (terminator.Branch c t f) = beginning (codes "br") (atoms_of branch_shape (c, (t, (f, tt))))
terminator_atoms (terminator.Switch w v d cs) =
    beginning (codes "switch") (atoms_of switch_shape (w, (v, (d, (spelled_cases w cs, tt)))))
terminator_atoms (terminator.Return None) = beginning (codes "ret") (atoms_of return_void_shape tt)
terminator_atoms (terminator.Return (Some v)) = beginning (codes "ret") (atoms_of return_shape (v, tt))
terminator_atoms (terminator.Detach s d c) = beginning (codes "detach") (atoms_of detach_shape (s, (d, (c, tt))))
terminator_atoms (terminator.Reattach s c) = beginning (codes "reattach") (atoms_of region_shape (s, (c, tt)))
terminator_atoms (terminator.Sync s n) = beginning (codes "sync") (atoms_of region_shape (s, (n, tt)))

abbrev pub global_atoms : Global → List Atom
global_atoms g = Token (symbols.Global g.name) ∷ Blank ∷ atoms_of global_shape (g.cells, tt)

abbrev pub define_atoms : List ℕ → ResultType → List Parameter → List Atom
define_atoms name r ps = beginning (codes "define") (atoms_of define_shape (r, (name, (ps, tt))))

-- name:
abbrev pub name_atoms : List ℕ → List Atom
name_atoms name = a_word name ∷ a_mark 58 ∷ []

-- }
abbrev pub close_atoms : List Atom
close_atoms = a_mark 125 ∷ []

-- so many spaces
abbrev pub spaces : ℕ → List ℕ
spaces zero = []
spaces (suc k) = 32 ∷ spaces k
