-- A number that the text of a module gives to arithmetic fits its width.
use Rattle.std.proofs.Common.{◌≡◌, ℕ, ◌<◌, ℤ, pos, negsuc, true, List, [], ◌∷◌, ◌++◌, refl, subst, Result, Ok, arith, nat_eq}
use Rattle.std.specs.Prelude.{◌&&◌, int_le}
use Rattle.std.proofs.lemmas.Bool.{and_parts, and_from, le-leb}
use Rattle.std.proofs.lemmas.Bool.Decides.{nat_tests}
use Rattle.semantics.specs.Arithmetic.{fits}
use Rattle.linear.specs.declared.form.RegisterId.{RegisterId}
use Rattle.program.specs.declared.identifier.AllocaId.{AllocaId}
use Rattle.program.specs.declared.instruction.Instruction.{Instruction}
use Rattle.program.specs.declared.instruction.Instruction.TheVariants as instruction
use Rattle.program.specs.declared.instruction.Operand.{Operand}
use Rattle.program.specs.declared.instruction.Operand.TheVariants as operand
use Rattle.syntax.specs.declared.instruction.Instruction.{Instruction as InstructionText}
use Rattle.syntax.specs.declared.instruction.Instruction.TheVariants as text
use Rattle.syntax.specs.declared.instruction.Operand.{Operand as OperandText}
use Rattle.syntax.specs.declared.instruction.Operand.TheVariants as operand_text
use Rattle.syntax.specs.declared.module.Function.{Function as FunctionText}
use Rattle.syntax.specs.declared.operator.BinaryOperator.{BinaryOperator}
use Rattle.syntax.specs.declared.operator.Width.{Width}
use Rattle.syntax.specs.declared.operator.Width.TheVariants.{Bits64, Bits32}
use Rattle.ir_reader.specs.declared.item.item.Item.TheVariants as item
use Rattle.ir_reader.specs.item.Printed.{IsKeptItem}
use Rattle.ir_instruction.specs.Spelled.{is_spelled, is_parted_from, are_spelled}
use Rattle.ir_instruction.specs.Spelling.{Atom, Token, Blank, a_register, a_word, a_mark, operand_symbol, operand_atom, width_word, operator_atoms}
use Rattle.ir_instruction.specs.Symbols.{fits_i64}
use Rattle.types.specs.declared.names.address.WholeObject.{WholeObject}
use Rattle.refusal.specs.declared.broken.Broken.{Broken as TypeFault}
use Rattle.types.specs.names.Address.{Items, object_of}
use Rattle.types.specs.names.Fault.{both_of, breaks, made_of, unless_of}
use Rattle.types.specs.names.Operand.{fits_width, operand_of, register_passing}
use Rattle.types.specs.names.Scope.{Scope, is_number_of}
use Rattle.types.proofs.names.Inversion.{made_ok, then_ok, both_ok, unless_ok}
use Rattle.types.specs.Call.{Named}
use Rattle.types.specs.Instruction.{defined_of, alloca_id_of, instruction_of}
use Rattle.laws_phases.specs.facts.Owing.{FitsText}

-- ---- a spelled line

tail_spelled : (xs ys : List Atom) → are_spelled (xs ++ ys) ≡ true → are_spelled ys ≡ true
tail_spelled [] ys h = h
tail_spelled (Blank ∷ xs) ys h = tail_spelled xs ys h
tail_spelled (Token s ∷ xs) ys h = tail_spelled xs ys (and_parts (is_spelled s && is_parted_from s (xs ++ ys)) (are_spelled (xs ++ ys)) h).1

right_spelled : (name : List ℕ) (operator : BinaryOperator) (width : Width) (left right : OperandText) → IsKeptItem (item.Instruction (text.Binary name operator width left right)) → is_spelled (operand_symbol right) ≡ true
right_spelled name operator width left right kept =
    let last : List Atom = operand_atom right ∷ [] in
    let shape : List Atom = Blank ∷ a_word (width_word width) ∷ Blank ∷ operand_atom left ∷ a_mark 44 ∷ Blank ∷ last in
    let behind : are_spelled (operator_atoms operator ++ shape) ≡ true = tail_spelled (a_register name ∷ Blank ∷ a_mark 61 ∷ Blank ∷ []) (operator_atoms operator ++ shape) kept.spelled in
    let operands : are_spelled shape ≡ true = tail_spelled (operator_atoms operator) shape behind in
    let one : are_spelled last ≡ true = tail_spelled (Blank ∷ a_word (width_word width) ∷ Blank ∷ operand_atom left ∷ a_mark 44 ∷ Blank ∷ []) last operands in
    (and_parts (is_spelled (operand_symbol right)) (is_parted_from (operand_symbol right) []) (and_parts (is_spelled (operand_symbol right) && is_parted_from (operand_symbol right) []) true one).0).0

-- ---- numbers

wide_fits : (z : ℤ) → fits_i64 z ≡ true → fits Bits64 z ≡ true
wide_fits (pos n) h = le-leb n 9223372036854775807 (let l : n < 9223372036854775808 = grind (arith, nat_tests) in omega (arith, l))
wide_fits (negsuc n) h =
    and_from (int_le (negsuc 9223372036854775807) (negsuc n)) true (le-leb n 9223372036854775807 (let l : n < 9223372036854775808 = grind (arith, nat_tests) in omega (arith, l))) refl

text_fits : (width : Width) (z : ℤ) → fits_i64 z ≡ true → fits_width width z ≡ true → fits width z ≡ true
text_fits Bits64 z spelled h = wide_fits z spelled
text_fits Bits32 z spelled h = h

-- ---- instructions

-- a number that is the right operand of arithmetic fits
abbrev pub NumbersFit : Instruction → Type 0
NumbersFit (instruction.Binary d operator width x y) = FitsText width y
NumbersFit other = Unit {0}

abbrev pub IsWritten : InstructionText → Type 0
IsWritten written = IsKeptItem (item.Instruction written)

module _ (items : Items) (functions : List FunctionText) (named : Named) (scope : Scope) where
  operand_fits : (line : ℕ) (width : Width) (written : OperandText) (y : Operand) → is_spelled (operand_symbol written) ≡ true → operand_of scope line width written ≡ Ok y → FitsText width y
  operand_fits line width (operand_text.Number z) y spelled e =
      let made = made_ok (λ (u : Unit {0}). operand.Number z) (unless_of (fits_width width z) (breaks 202 line)) y e in
      let P : Operand → Type 0 = λ x. FitsText width x in
      subst P made.2 (text_fits width z spelled (unless_ok (fits_width width z) (breaks 202 line) made.0 made.1))
  operand_fits line width (operand_text.Register name) y spelled e =
      let made = made_ok (λ (r : RegisterId). operand.Register r) (register_passing (is_number_of width) scope line name) y e in
      let P : Operand → Type 0 = λ x. FitsText width x in
      subst P made.2 tt

  pub numbers_fit : (f b line : ℕ) (written : InstructionText) (what : Instruction) → IsWritten written → instruction_of items functions named scope (record { function = f; block = b; line = line }) written ≡ Ok what → NumbersFit what
  numbers_fit f b line (text.Binary register operator width left right) what kept e =
      let made = made_ok _ _ what e in
      let values = both_ok _ _ made.0.1 (both_ok _ _ made.0 made.1).1 in
      subst NumbersFit made.2 (operand_fits line width right made.0.1.1 (right_spelled register operator width left right kept) values.1)
  numbers_fit f b line (text.Compare register predicate width left right) what kept e = let made = made_ok _ _ what e in subst NumbersFit made.2 tt
  numbers_fit f b line (text.Convert register conversion value) what kept e = let made = made_ok _ _ what e in subst NumbersFit made.2 tt
  numbers_fit f b line (text.Alloca register size) what kept e =
      let entry : Result (Unit {0}) TypeFault = unless_of (nat_eq b 0) (breaks 204 line) in
      let part = then_ok (λ (p : RegisterId × AllocaId). made_of (λ (u : Unit {0}). instruction.Alloca p.0 p.1) entry)
      (both_of (defined_of scope line register) (alloca_id_of scope line register)) what e in
      subst NumbersFit (made_ok (λ (u : Unit {0}). instruction.Alloca part.0.0 part.0.1) entry what part.2).2 tt
  numbers_fit f b line (text.ElementPointer register base index) what kept e = let made = made_ok _ _ what e in subst NumbersFit made.2 tt
  numbers_fit f b line (text.Load register at) what kept e = let made = made_ok _ _ what e in subst NumbersFit made.2 tt
  numbers_fit f b line (text.Store value at) what kept e = let made = made_ok _ _ what e in subst NumbersFit made.2 tt
  numbers_fit f b line (text.StoreZeros cells at) what kept e =
      let part = then_ok (λ (found : WholeObject). made_of (λ (u : Unit {0}). instruction.StoreZeros cells found.name) (unless_of (nat_eq found.cells cells) (breaks 204 line))) (object_of items scope line at) what e in
      subst NumbersFit (made_ok (λ (u : Unit {0}). instruction.StoreZeros cells part.0.name) (unless_of (nat_eq part.0.cells cells) (breaks 204 line)) what part.2).2 tt
  numbers_fit f b line (text.AtomicAdd at value) what kept e = let made = made_ok _ _ what e in subst NumbersFit made.2 tt
  numbers_fit f b line (text.Call register callee arguments) what kept e = let made = made_ok _ _ what e in subst NumbersFit made.2 tt
  numbers_fit f b line (text.StartRegion register) what kept e = let made = made_ok _ _ what e in subst NumbersFit made.2 tt
