-- The numbers of a spelled line are of 64 bits.
use Rattle.std.proofs.Common.{◌≡◌, ℕ, ◌<◌, ◌≤◌, ◌^◌, ℤ, pos, negsuc, true, List, [], ◌∷◌, ◌++◌, subst, Ok, arith}
use Rattle.std.specs.Prelude.{◌&&◌, flat_map, unsigned_abs}
use Rattle.std.specs.List.{All}
use Rattle.std.proofs.lemmas.Bool.{and_parts}
use Rattle.std.proofs.lemmas.Bool.Decides.{nat_tests}
use Rattle.std.proofs.lemmas.List.Elements.{All-nil, All-cons}
use Rattle.linear.specs.declared.form.RegisterId.{RegisterId}
use Rattle.program.specs.declared.instruction.Operand.{Operand}
use Rattle.program.specs.declared.instruction.Operand.TheVariants as operand
use Rattle.syntax.specs.declared.instruction.Argument.{Argument as ArgumentText}
use Rattle.syntax.specs.declared.instruction.Argument.TheVariants as argument_text
use Rattle.syntax.specs.declared.instruction.Operand.{Operand as OperandText}
use Rattle.syntax.specs.declared.instruction.Operand.TheVariants as operand_text
use Rattle.syntax.specs.declared.instruction.PhiEntry.{PhiEntry as EntryText}
use Rattle.syntax.specs.declared.operator.Width.{Width}
use Rattle.syntax.specs.declared.terminator.Case.{Case as CaseText}
use Rattle.ir_instruction.specs.Spelled.{is_spelled, is_parted_from, are_spelled}
use Rattle.ir_instruction.specs.Spelling.{Atom, Token, Blank, operand_symbol, argument_atoms, entry_atoms, other_atoms, parted, spelled_cases, cases_atoms}
use Rattle.ir_instruction.specs.Symbols.{fits_i64}
use Rattle.types.specs.names.Fault.{breaks, unless_of}
use Rattle.types.specs.names.Operand.{fits_width, operand_of, register_passing}
use Rattle.types.specs.names.Scope.{Scope, is_number_of}
use Rattle.types.proofs.names.Inversion.{made_ok}
use Rattle.laws_verdict.specs.Sums.{IsWord}

-- ---- symbols

-- each symbol of a line, in their order
abbrev pub AreSpelled : List Atom → Type 0
AreSpelled [] = Unit {0}
AreSpelled (Blank ∷ atoms) = AreSpelled atoms
AreSpelled (Token s ∷ atoms) = (is_spelled s ≡ true) × AreSpelled atoms

pub spelled : (atoms : List Atom) → are_spelled atoms ≡ true → AreSpelled atoms
spelled [] h = tt
spelled (Blank ∷ atoms) h = spelled atoms h
spelled (Token s ∷ atoms) h =
    let parts = and_parts (is_spelled s && is_parted_from s atoms) (are_spelled atoms) h in
    ((and_parts (is_spelled s) (is_parted_from s atoms) parts.0).0, spelled atoms parts.1)

pub front : (xs ys : List Atom) → AreSpelled (xs ++ ys) → AreSpelled xs
front [] ys h = tt
front (Blank ∷ xs) ys h = front xs ys h
front (Token s ∷ xs) ys h = (h.0, front xs ys h.1)

pub back : (xs ys : List Atom) → AreSpelled (xs ++ ys) → AreSpelled ys
back [] ys h = h
back (Blank ∷ xs) ys h = back xs ys h
back (Token s ∷ xs) ys h = back xs ys h.1

-- ---- numbers and operands

pub number_fits : (z : ℤ) → fits_i64 z ≡ true → unsigned_abs z ≤ 2 ^ 63
number_fits (pos n) h = let l : n < 9223372036854775808 = grind (arith, nat_tests) in omega (arith, l)
number_fits (negsuc n) h = let l : n < 9223372036854775808 = grind (arith, nat_tests) in omega (arith, l)

abbrev pub IsOperandSpelled : OperandText → Type 0
IsOperandSpelled text = is_spelled (operand_symbol text) ≡ true

pub word_of : (scope : Scope) (line : ℕ) (width : Width) (text : OperandText) (x : Operand) → IsOperandSpelled text → operand_of scope line width text ≡ Ok x → IsWord x
word_of scope line width (operand_text.Number z) x h e =
    let made = made_ok (λ (u : Unit {0}). operand.Number z) (unless_of (fits_width width z) (breaks 202 line)) x e in
    subst IsWord made.2 (number_fits z h)
word_of scope line width (operand_text.Register name) x h e =
    let made = made_ok (λ (r : RegisterId). operand.Register r) (register_passing (is_number_of width) scope line name) x e in
    subst IsWord made.2 tt

-- ---- lists within a line

-- parted by commas
module _ {A : Type 0} (f : A → List Atom) (P : A → Type 0) (each : (x : A) → AreSpelled (f x) → P x) where
  others_spelled : (xs : List A) → AreSpelled (flat_map (other_atoms f) xs) → All P xs
  others_spelled [] h = All-nil P
  others_spelled (x ∷ xs) h = All-cons P x xs (each x (front (f x) (flat_map (other_atoms f) xs) h.1)) (others_spelled xs (back (f x) (flat_map (other_atoms f) xs) h.1))

  pub parted_spelled : (xs : List A) → AreSpelled (parted f xs) → All P xs
  parted_spelled [] h = All-nil P
  parted_spelled (x ∷ xs) h = All-cons P x xs (each x (front (f x) (flat_map (other_atoms f) xs) h)) (others_spelled xs (back (f x) (flat_map (other_atoms f) xs) h))

abbrev pub IsArgumentSpelled : ArgumentText → Type 0
IsArgumentSpelled (argument_text.Number value) = IsOperandSpelled value
IsArgumentSpelled (argument_text.Pointer address) = Unit {0}

pub argument_spelled : (x : ArgumentText) → AreSpelled (argument_atoms x) → IsArgumentSpelled x
argument_spelled (argument_text.Number value) h = h.1.0
argument_spelled (argument_text.Pointer address) h = tt

pub entry_spelled : (x : EntryText) → AreSpelled (entry_atoms x) → IsOperandSpelled x.value
entry_spelled x h = h.1.0

pub cases_spelled : (width : Width) (cases : List CaseText) → AreSpelled (cases_atoms (spelled_cases width cases)) → All (λ (c : CaseText). fits_i64 c.number ≡ true) cases
cases_spelled width [] h = All-nil (λ (c : CaseText). fits_i64 c.number ≡ true)
cases_spelled width (c ∷ cases) h = All-cons (λ (c : CaseText). fits_i64 c.number ≡ true) c cases h.1.0 (cases_spelled width cases h.1.1.1.1.1)
