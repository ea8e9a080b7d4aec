-- Between the symbols of a print stands what parts them.
use Rattle.std.proofs.Common.{◌≡◌, Bool, true, false, List, [], ◌∷◌, ◌++◌, refl, sym, ap, ◌∙◌, append_assoc}
use Rattle.std.specs.Prelude.{◌&&◌, flat_map, Some, None}
use Rattle.std.specs.List.{list_all}
use Rattle.std.proofs.lemmas.Bool.{and_parts}
use Rattle.syntax.specs.declared.instruction.AllocaSize.TheVariants.{One, Array}
use Rattle.syntax.specs.declared.instruction.Instruction.{Instruction}
use Rattle.syntax.specs.declared.instruction.Instruction.TheVariants as instruction
use Rattle.syntax.specs.declared.instruction.Operand.{Operand}
use Rattle.syntax.specs.declared.instruction.Operand.TheVariants as operands
use Rattle.syntax.specs.declared.instruction.Address.{Address}
use Rattle.syntax.specs.declared.instruction.Address.TheVariants as addresses
use Rattle.syntax.specs.declared.instruction.Argument.TheVariants as argument
use Rattle.syntax.specs.declared.module.Parameter.TheVariants as parameter
use Rattle.syntax.specs.declared.operator.BinaryOperator.{BinaryOperator}
use Rattle.syntax.specs.declared.operator.BinaryOperator.TheVariants.{Add, Subtract, Multiply, AddNoWrap, SubtractNoWrap, MultiplyNoWrap, SignedDivide, UnsignedDivide, SignedRemainder, UnsignedRemainder, ShiftLeft, LogicalShiftRight, ArithmeticShiftRight, And, Or, ExclusiveOr}
use Rattle.syntax.specs.declared.operator.Conversion.TheVariants.{Truncate, SignExtend, ZeroExtend}
use Rattle.syntax.specs.declared.terminator.Terminator.{Terminator}
use Rattle.syntax.specs.declared.terminator.Terminator.TheVariants as terminator
use Rattle.ir_lex.specs.Spelling.{is_mark}
use Rattle.ir_instruction.specs.declared.symbol.Symbol.{Symbol}
use Rattle.ir_instruction.specs.declared.symbol.Symbol.TheVariants as symbols
use Rattle.ir_instruction.specs.Grammar.{binary_shape, compare_shape, truncate_shape, extend_shape, alloca_shape, alloca_array_shape, element_pointer_shape, load_shape, start_region_shape, call_shape, store_shape, store_zeros_shape, atomic_shape, call_void_shape, jump_shape, branch_shape, switch_shape, return_void_shape, return_shape, detach_shape, region_shape}
use Rattle.ir_instruction.specs.Shape.{Gap, register, function, label, operand, pointer, array, width, result_type, predicate, parameters, arguments, cases, entries, Piece, word, mark, named, gap, space, Gaps}
use Rattle.ir_instruction.specs.Spelling.{Atom, Token, Blank, symbols_in, operand_symbol, address_symbol, operator_atoms, parameter_atoms, argument_atoms, entry_atoms, other_atoms, parted, cases_atoms, gap_atoms, atoms_of, spelled_cases, instruction_atoms, terminator_atoms}
use Rattle.ir_instruction.specs.Spelled.{is_spelled, parts, is_parted_from, are_spelled}

-- a symbol but ;! with what parts it from the next one
abbrev pub stands : Symbol → List Atom → Bool
stands (symbols.Register name) atoms = parts atoms
stands (symbols.Global name) atoms = parts atoms
stands (symbols.Number n) atoms = parts atoms
stands (symbols.Word text) atoms = parts atoms
stands (symbols.Mark byte) atoms = true
stands symbols.Note atoms = false

abbrev pub are_parted : List Atom → Bool
are_parted [] = true
are_parted (Blank ∷ atoms) = are_parted atoms
are_parted (Token s ∷ atoms) = stands s atoms && are_parted atoms

-- ---- what follows

abbrev pub is_no_note : Symbol → Bool
is_no_note symbols.Note = false
is_no_note _ = true

stands_parted : (s : Symbol) (atoms : List Atom) → stands s atoms ≡ true → (is_parted_from s atoms ≡ true) × (is_no_note s ≡ true)
stands_parted (symbols.Register name) atoms h = (h, refl)
stands_parted (symbols.Global name) atoms h = (h, refl)
stands_parted (symbols.Number n) atoms h = (h, refl)
stands_parted (symbols.Word text) atoms h = (h, refl)
stands_parted (symbols.Mark byte) atoms h = (refl, refl)
stands_parted symbols.Note atoms h = absurd cc

pub no_notes : (atoms : List Atom) → are_parted atoms ≡ true → list_all is_no_note (symbols_in atoms) ≡ true
no_notes [] h = refl
no_notes (Blank ∷ atoms) h = no_notes atoms h
no_notes (Token s ∷ atoms) h =
    let t = and_parts (stands s atoms) (are_parted atoms) h in
    rw ((stands_parted s atoms t.0).1, no_notes atoms t.1) refl

-- Symbols that are spelled, and parted, make a line that is cut at them.
pub spelled_if_parted : (atoms : List Atom) → are_parted atoms ≡ true → list_all is_spelled (symbols_in atoms) ≡ true → are_spelled atoms ≡ true
spelled_if_parted [] p h = refl
spelled_if_parted (Blank ∷ atoms) p h = spelled_if_parted atoms p h
spelled_if_parted (Token s ∷ atoms) p h =
    let t = and_parts (stands s atoms) (are_parted atoms) p in
    let u = and_parts (is_spelled s) (list_all is_spelled (symbols_in atoms)) h in
    rw (u.0, (stands_parted s atoms t.0).0, spelled_if_parted atoms t.1 u.1) refl

-- ---- gaps

record IsRest (atoms : List Atom) : Type 0 where
  begins : parts atoms ≡ true
  others : are_parted atoms ≡ true

operand_stands : (v : Operand) (atoms : List Atom) → parts atoms ≡ true → stands (operand_symbol v) atoms ≡ true
operand_stands (operands.Number n) atoms h = h
operand_stands (operands.Register name) atoms h = h

address_stands : (a : Address) (atoms : List Atom) → parts atoms ≡ true → stands (address_symbol a) atoms ≡ true
address_stands (addresses.Register name) atoms h = h
address_stands (addresses.Global name) atoms h = h

abbrev Parted-before : {A : Type 0} → (A → List Atom) → Type 0
Parted-before {A} f = (x : A) (rest : List Atom) → IsRest rest → are_parted (f x ++ rest) ≡ true

parameter_parted : Parted-before parameter_atoms
parameter_parted (parameter.Number name) rest r = rw (r.begins, r.others) refl
parameter_parted (parameter.Pointer name cells) rest r = rw (r.begins, r.others) refl

argument_parted : Parted-before argument_atoms
argument_parted (argument.Number v) rest r = rw (operand_stands v rest r.begins, r.others) refl
argument_parted (argument.Pointer a) rest r = rw (address_stands a rest r.begins, r.others) refl

entry_parted : Parted-before entry_atoms
entry_parted e rest r = rw (operand_stands e.value (Token (symbols.Mark 44) ∷ Blank ∷ Token (symbols.Register e.predecessor) ∷ Blank ∷ Token (symbols.Mark 93) ∷ rest) refl, r.others) refl

others_parted : {A : Type 0} (f : A → List Atom) → Parted-before f → (xs : List A) (rest : List Atom) → IsRest rest → IsRest (flat_map (other_atoms f) xs ++ rest)
others_parted f each [] rest r = r
others_parted f each (x ∷ xs) rest r =
    let later = others_parted f each xs rest r in
    let same : Token (symbols.Mark 44) ∷ Blank ∷ (f x ++ (flat_map (other_atoms f) xs ++ rest)) ≡ flat_map (other_atoms f) (x ∷ xs) ++ rest =
    ap (λ (t : List Atom). Token (symbols.Mark 44) ∷ Blank ∷ t) (sym (append_assoc (f x) (flat_map (other_atoms f) xs) rest)) in
    record { begins = refl; others = ap are_parted (sym same) ∙ each x (flat_map (other_atoms f) xs ++ rest) later }

list_parted : {A : Type 0} (f : A → List Atom) → Parted-before f → Parted-before (parted f)
list_parted f each [] rest r = r.others
list_parted f each (x ∷ xs) rest r = ap are_parted (append_assoc (f x) (flat_map (other_atoms f) xs) rest) ∙ each x (flat_map (other_atoms f) xs ++ rest) (others_parted f each xs rest r)

closed_parted : {A : Type 0} (f : A → List Atom) → Parted-before f → (xs : List A) (rest : List Atom) → IsRest rest → are_parted ((parted f xs ++ Token (symbols.Mark 41) ∷ []) ++ rest) ≡ true
closed_parted f each xs rest r =
    ap are_parted (append_assoc (parted f xs) (Token (symbols.Mark 41) ∷ []) rest) ∙ list_parted f each xs (Token (symbols.Mark 41) ∷ rest) (record { begins = refl; others = r.others })

cases_parted : Parted-before cases_atoms
cases_parted [] rest r = r.others
cases_parted (c ∷ cs) rest r = cases_parted cs rest r

gap_parted : (g : Gap) → Parted-before (gap_atoms g)
gap_parted register name rest r = rw (r.begins, r.others) refl
gap_parted function name rest r = rw (r.begins, r.others) refl
gap_parted label name rest r = rw (r.begins, r.others) refl
gap_parted operand v rest r = rw (operand_stands v rest r.begins, r.others) refl
gap_parted pointer a rest r = rw (address_stands a rest r.begins, r.others) refl
gap_parted array n rest r = r.others
gap_parted width w rest r = rw (r.begins, r.others) refl
gap_parted result_type t rest r = rw (r.begins, r.others) refl
gap_parted predicate p rest r = rw (r.begins, r.others) refl
gap_parted parameters ps rest r = closed_parted parameter_atoms parameter_parted ps rest r
gap_parted arguments xs rest r = closed_parted argument_atoms argument_parted xs rest r
gap_parted cases cs rest r = cases_parted cs rest r
gap_parted entries es rest r = list_parted entry_atoms entry_parted es rest r

-- ---- shapes

-- a space, a mark or the end comes next
abbrev shape_parts : List Piece → Bool
shape_parts [] = true
shape_parts (space ∷ shape) = true
shape_parts (mark byte ∷ shape) = is_mark byte
shape_parts (word text ∷ shape) = false
shape_parts (named text ∷ shape) = false
shape_parts (gap g ∷ shape) = false

abbrev is_parted_shape : List Piece → Bool
is_parted_shape [] = true
is_parted_shape (space ∷ shape) = is_parted_shape shape
is_parted_shape (mark byte ∷ shape) = is_parted_shape shape
is_parted_shape (word text ∷ shape) = shape_parts shape && is_parted_shape shape
is_parted_shape (named text ∷ shape) = shape_parts shape && is_parted_shape shape
is_parted_shape (gap g ∷ shape) = shape_parts shape && is_parted_shape shape

shape_begins : (shape : List Piece) (gaps : Gaps shape) → shape_parts shape ≡ true → parts (atoms_of shape gaps) ≡ true
shape_begins [] gaps h = refl
shape_begins (space ∷ shape) gaps h = refl
shape_begins (mark byte ∷ shape) gaps h = h
shape_begins (word text ∷ shape) gaps h = absurd cc
shape_begins (named text ∷ shape) gaps h = absurd cc
shape_begins (gap g ∷ shape) gaps h = absurd cc

pub shape_parted : (shape : List Piece) → is_parted_shape shape ≡ true → (gaps : Gaps shape) → are_parted (atoms_of shape gaps) ≡ true
shape_parted [] h gaps = refl
shape_parted (space ∷ shape) h gaps = shape_parted shape h gaps
shape_parted (mark byte ∷ shape) h gaps = shape_parted shape h gaps
shape_parted (word text ∷ shape) h gaps =
    let t = and_parts (shape_parts shape) (is_parted_shape shape) h in
    rw (shape_begins shape gaps t.0, shape_parted shape t.1 gaps) refl
shape_parted (named text ∷ shape) h gaps =
    let t = and_parts (shape_parts shape) (is_parted_shape shape) h in
    rw (shape_begins shape gaps t.0, shape_parted shape t.1 gaps) refl
shape_parted (gap g ∷ shape) h gaps =
    let t = and_parts (shape_parts shape) (is_parted_shape shape) h in
    gap_parted g gaps.0 (atoms_of shape gaps.1) (record { begins = shape_begins shape gaps.1 t.0; others = shape_parted shape t.1 gaps.1 })

-- ---- items

operator_parted : (o : BinaryOperator) (rest : List Atom) → are_parted rest ≡ true → are_parted (operator_atoms o ++ Blank ∷ rest) ≡ true
operator_parted Add rest h = h
operator_parted Subtract rest h = h
operator_parted Multiply rest h = h
operator_parted AddNoWrap rest h = h
operator_parted SubtractNoWrap rest h = h
operator_parted MultiplyNoWrap rest h = h
operator_parted SignedDivide rest h = h
operator_parted UnsignedDivide rest h = h
operator_parted SignedRemainder rest h = h
operator_parted UnsignedRemainder rest h = h
operator_parted ShiftLeft rest h = h
operator_parted LogicalShiftRight rest h = h
operator_parted ArithmeticShiftRight rest h = h
operator_parted And rest h = h
operator_parted Or rest h = h
operator_parted ExclusiveOr rest h = h

pub instruction_parted : (i : Instruction) → are_parted (instruction_atoms i) ≡ true
instruction_parted (instruction.Binary d o w a b) = operator_parted o (atoms_of binary_shape (w, (a, (b, tt)))) (shape_parted binary_shape refl (w, (a, (b, tt))))
instruction_parted (instruction.Compare d p w a b) = shape_parted compare_shape refl (p, (w, (a, (b, tt))))
instruction_parted (instruction.Convert d Truncate v) = shape_parted truncate_shape refl (v, tt)
instruction_parted (instruction.Convert d SignExtend v) = shape_parted extend_shape refl (v, tt)
instruction_parted (instruction.Convert d ZeroExtend v) = shape_parted extend_shape refl (v, tt)
instruction_parted (instruction.Alloca d One) = shape_parted alloca_shape refl tt
instruction_parted (instruction.Alloca d (Array n)) = shape_parted alloca_array_shape refl (n, tt)
instruction_parted (instruction.ElementPointer d p v) = shape_parted element_pointer_shape refl (p, (v, tt))
instruction_parted (instruction.Load d p) = shape_parted load_shape refl (p, tt)
instruction_parted (instruction.Store v p) = shape_parted store_shape refl (v, (p, tt))
instruction_parted (instruction.StoreZeros n p) = shape_parted store_zeros_shape refl (n, (p, tt))
instruction_parted (instruction.AtomicAdd p v) = shape_parted atomic_shape refl (p, (v, tt))
instruction_parted (instruction.Call (Some d) f xs) = shape_parted call_shape refl (f, (xs, tt))
instruction_parted (instruction.Call None f xs) = shape_parted call_void_shape refl (f, (xs, tt))
instruction_parted (instruction.StartRegion d) = shape_parted start_region_shape refl tt

pub terminator_parted : (t : Terminator) → are_parted (terminator_atoms t) ≡ true
terminator_parted (terminator.Jump l) = shape_parted jump_shape refl (l, tt)
terminator_parted (terminator.Branch c t f) = shape_parted branch_shape refl (c, (t, (f, tt)))
terminator_parted (terminator.Switch w v d cs) = shape_parted switch_shape refl (w, (v, (d, (spelled_cases w cs, tt))))
terminator_parted (terminator.Return None) = shape_parted return_void_shape refl tt
terminator_parted (terminator.Return (Some v)) = shape_parted return_shape refl (v, tt)
terminator_parted (terminator.Detach s d c) = shape_parted detach_shape refl (s, (d, (c, tt)))
terminator_parted (terminator.Reattach s c) = shape_parted region_shape refl (s, (c, tt))
terminator_parted (terminator.Sync s n) = shape_parted region_shape refl (s, (n, tt))
