-- What is pushed is the text of the atoms that the grammar spells.
use Rattle.std.proofs.Common.{◌≡◌, ℕ, ◌*◌, List, [], ◌∷◌, ◌++◌, Some, None, refl, sym, ap, ◌∙◌, arith, append_assoc, append-nil}
use Rattle.std.specs.Prelude.{codes}
use Rattle.std.specs.List.{flat_map}
use Rattle.std.specs.Fmt.{decimal, signed_decimal}
use Rattle.ir_instruction.specs.declared.symbol.Symbol.TheVariants as symbols
use Rattle.ir_instruction.specs.Spelling.{Atom, Token, Blank, symbol_text, text_of, operand_symbol, address_symbol, width_word, operator_atoms, parameter_atoms, argument_atoms, entry_atoms, other_atoms, parted, cases_atoms, spelled_cases, instruction_atoms, phi_atoms, terminator_atoms}
use Rattle.ir_instruction.proofs.Texts.{text_appended, parted_text}
use Rattle.syntax.specs.declared.operator.Width.{Width}
use Rattle.syntax.specs.declared.operator.BinaryOperator.{BinaryOperator}
use Rattle.syntax.specs.declared.operator.Conversion.TheVariants.{Truncate, SignExtend, ZeroExtend}
use Rattle.syntax.specs.declared.instruction.AllocaSize.TheVariants.{One, Array}
use Rattle.syntax.specs.declared.instruction.Operand.{Operand}
use Rattle.syntax.specs.declared.instruction.Operand.TheVariants as operand
use Rattle.syntax.specs.declared.instruction.Address.{Address}
use Rattle.syntax.specs.declared.instruction.Address.TheVariants as address
use Rattle.syntax.specs.declared.instruction.Argument.{Argument}
use Rattle.syntax.specs.declared.instruction.Argument.TheVariants as argument
use Rattle.syntax.specs.declared.instruction.PhiEntry.{PhiEntry}
use Rattle.syntax.specs.declared.instruction.Phi.{Phi}
use Rattle.syntax.specs.declared.instruction.Instruction.{Instruction}
use Rattle.syntax.specs.declared.instruction.Instruction.TheVariants as instruction
use Rattle.syntax.specs.declared.terminator.Case.{Case}
use Rattle.syntax.specs.declared.terminator.Terminator.{Terminator}
use Rattle.syntax.specs.declared.terminator.Terminator.TheVariants as terminator
use Rattle.syntax.specs.declared.module.Parameter.{Parameter}
use Rattle.syntax.specs.declared.module.Parameter.TheVariants as parameter
use Rattle.ir_lex.specs.Names.{register_text}
use Rattle.ir_spelling.specs.Spelling.{operator_text, label_text, operand_text, address_text, array_text, pointer_parameter_text, parameter_text, argument_text, behind_comma, parameters_text, arguments_text}
use Rattle.ir_spelling.specs.InstructionText.{instruction_text, call_text, call_void_text, entry_text, entries_text, phi_text}
use Rattle.ir_spelling.specs.TerminatorText.{case_text, switch_text, reattach_text, terminator_text}

-- ---- grouping

right3 : (a b c : List ℕ) → a ++ b ++ c ≡ a ++ (b ++ c)
right3 a b c = simp append_assoc

pub right4 : (a b c d : List ℕ) → a ++ b ++ c ++ d ≡ a ++ (b ++ (c ++ d))
right4 a b c d = simp append_assoc

pub right5 : (a b c d e : List ℕ) → a ++ b ++ c ++ d ++ e ≡ a ++ (b ++ (c ++ (d ++ e)))
right5 a b c d e = simp append_assoc

right6 : (a b c d e f : List ℕ) → a ++ b ++ c ++ d ++ e ++ f ≡ a ++ (b ++ (c ++ (d ++ (e ++ f))))
right6 a b c d e f = simp append_assoc

pub right7 : (a b c d e f g : List ℕ) → a ++ b ++ c ++ d ++ e ++ f ++ g ≡ a ++ (b ++ (c ++ (d ++ (e ++ (f ++ g)))))
right7 a b c d e f g = simp append_assoc

right8 : (a b c d e f g h : List ℕ) → a ++ b ++ c ++ d ++ e ++ f ++ g ++ h ≡ a ++ (b ++ (c ++ (d ++ (e ++ (f ++ (g ++ h))))))
right8 a b c d e f g h = simp append_assoc

right9 : (a b c d e f g h i : List ℕ) → a ++ b ++ c ++ d ++ e ++ f ++ g ++ h ++ i ≡ a ++ (b ++ (c ++ (d ++ (e ++ (f ++ (g ++ (h ++ i)))))))
right9 a b c d e f g h i = simp append_assoc

-- an array, written within other text
array_within : (s a b c z p : List ℕ) → s ++ (a ++ b ++ c) ++ z ++ p ≡ s ++ (a ++ (b ++ (c ++ (z ++ p))))
array_within s a b c z p = simp append_assoc

-- ---- words

operand_same : (v : Operand) → symbol_text (operand_symbol v) ≡ operand_text v
operand_same (operand.Number n) = refl
operand_same (operand.Register name) = refl

address_same : (a : Address) (rest : List ℕ) → codes "ptr " ++ (symbol_text (address_symbol a) ++ rest) ≡ address_text a ++ rest
address_same (address.Register name) rest = refl
address_same (address.Global name) rest = refl

-- ---- instructions

operator_same : (o : BinaryOperator) (rest : List Atom) → text_of (operator_atoms o ++ Blank ∷ rest) ≡ operator_text o ++ (codes " " ++ text_of rest)
operator_same o rest = text_appended (operator_atoms o) (Blank ∷ rest)

argument_same : (x : Argument) → text_of (argument_atoms x) ≡ argument_text x
argument_same (argument.Number (operand.Number n)) = simp append-nil
argument_same (argument.Number (operand.Register name)) = simp append-nil
argument_same (argument.Pointer (address.Register name)) = simp append-nil
argument_same (argument.Pointer (address.Global name)) = simp append-nil

flat_ext : {A : Type 0} (f g : A → List ℕ) → ((x : A) → f x ≡ g x) → (xs : List A) → flat_map f xs ≡ flat_map g xs
flat_ext f g same [] = refl
flat_ext f g same (x ∷ xs) = ap (λ (t : List ℕ). t ++ flat_map f xs) (same x) ∙ ap (λ (t : List ℕ). g x ++ t) (flat_ext f g same xs)

list_same : {A : Type 0} (atoms : A → List Atom) (text : A → List ℕ) → ((x : A) → text_of (atoms x) ≡ text x) → (x : A) (xs : List A) → text_of (parted atoms (x ∷ xs)) ≡ text x ++ flat_map (behind_comma text) xs
list_same atoms text same x xs =
    parted_text atoms x xs ∙ ap (λ (t : List ℕ). t ++ flat_map (λ y. text_of (other_atoms atoms y)) xs) (same x)
    ∙ ap (λ (t : List ℕ). text x ++ t) (flat_ext (λ y. text_of (other_atoms atoms y)) (behind_comma text) (λ y. ap (λ (t : List ℕ). codes ", " ++ t) (same y)) xs)

arguments_same : (xs : List Argument) → text_of (parted argument_atoms xs ++ Token (symbols.Mark 41) ∷ []) ≡ arguments_text xs ++ codes ")"
arguments_same [] = refl
arguments_same (x ∷ xs) = text_appended (parted argument_atoms (x ∷ xs)) (Token (symbols.Mark 41) ∷ []) ∙ ap (λ (t : List ℕ). t ++ codes ")") (list_same argument_atoms argument_text argument_same x xs)

pub instruction_same : (i : Instruction) → text_of (instruction_atoms i) ≡ instruction_text i
unfolding call_text call_void_text
instruction_same (instruction.Binary d o w a b) =
    ap (λ (t : List ℕ). 37 ∷ (d ++ (codes " = " ++ t))) (operator_same o _) ∙ simp (append_assoc, append-nil, operand_same)
instruction_same (instruction.Compare d p w a b) = simp (append_assoc, append-nil, operand_same)
instruction_same (instruction.Convert d Truncate v) = simp (append_assoc, append-nil, operand_same)
instruction_same (instruction.Convert d SignExtend v) = simp (append_assoc, append-nil, operand_same)
instruction_same (instruction.Convert d ZeroExtend v) = simp (append_assoc, append-nil, operand_same)
instruction_same (instruction.Alloca d One) = sym (right3 (register_text d) (codes " = alloca ") (codes "i64"))
instruction_same (instruction.Alloca d (Array n)) = sym (right3 (register_text d) (codes " = alloca ") (array_text n))
instruction_same (instruction.ElementPointer d (address.Register p) v) =
    simp (append-nil, operand_same) (sym (right5 (register_text d) (codes " = getelementptr inbounds i64, ") (address_text (address.Register p)) (codes ", i64 ") (operand_text v)))
instruction_same (instruction.ElementPointer d (address.Global p) v) =
    simp (append-nil, operand_same) (sym (right5 (register_text d) (codes " = getelementptr inbounds i64, ") (address_text (address.Global p)) (codes ", i64 ") (operand_text v)))
instruction_same (instruction.Load d (address.Register p)) = simp append-nil (sym (right3 (register_text d) (codes " = load i64, ") (address_text (address.Register p))))
instruction_same (instruction.Load d (address.Global p)) = simp append-nil (sym (right3 (register_text d) (codes " = load i64, ") (address_text (address.Global p))))
instruction_same (instruction.Store v (address.Register p)) = simp (append-nil, operand_same) (sym (right4 (codes "store i64 ") (operand_text v) (codes ", ") (address_text (address.Register p))))
instruction_same (instruction.Store v (address.Global p)) = simp (append-nil, operand_same) (sym (right4 (codes "store i64 ") (operand_text v) (codes ", ") (address_text (address.Global p))))
instruction_same (instruction.StoreZeros n (address.Register p)) =
    simp append-nil (sym (array_within (codes "store ") (codes "[") (decimal n) (codes " x i64]") (codes " zeroinitializer, ") (address_text (address.Register p))))
instruction_same (instruction.StoreZeros n (address.Global p)) =
    simp append-nil (sym (array_within (codes "store ") (codes "[") (decimal n) (codes " x i64]") (codes " zeroinitializer, ") (address_text (address.Global p))))
instruction_same (instruction.AtomicAdd (address.Register p) v) =
    simp operand_same (sym (right5 (codes "atomicrmw add ") (address_text (address.Register p)) (codes ", i64 ") (operand_text v) (codes " seq_cst")))
instruction_same (instruction.AtomicAdd (address.Global p) v) =
    simp operand_same (sym (right5 (codes "atomicrmw add ") (address_text (address.Global p)) (codes ", i64 ") (operand_text v) (codes " seq_cst")))
instruction_same (instruction.Call (Some d) f xs) =
    let closed : List Atom = parted argument_atoms xs ++ Token (symbols.Mark 41) ∷ [] in
    ap (λ (t : List ℕ). codes "%" ++ (d ++ (codes " = call i64 @" ++ (f ++ (codes "(" ++ t))))) (ap text_of (append-nil closed) ∙ arguments_same xs)
    ∙ sym (right6 (register_text d) (codes " = call i64 @") f (codes "(") (arguments_text xs) (codes ")"))
instruction_same (instruction.Call None f xs) =
    let closed : List Atom = parted argument_atoms xs ++ Token (symbols.Mark 41) ∷ [] in
    ap (λ (t : List ℕ). codes "call void @" ++ (f ++ (codes "(" ++ t))) (ap text_of (append-nil closed) ∙ arguments_same xs)
    ∙ sym (right5 (codes "call void @") f (codes "(") (arguments_text xs) (codes ")"))
instruction_same (instruction.StartRegion d) = refl

entry_same : (e : PhiEntry) → text_of (entry_atoms e) ≡ entry_text e
entry_same e = simp operand_same (sym (right5 (codes "[ ") (operand_text e.value) (codes ", ") (register_text e.predecessor) (codes " ]")))

entries_same : (es : List PhiEntry) → text_of (parted entry_atoms es) ≡ entries_text es
entries_same [] = refl
entries_same (e ∷ es) = list_same entry_atoms entry_text entry_same e es

pub phi_same : (p : Phi) → text_of (phi_atoms p) ≡ phi_text p
phi_same p = simp (append_assoc, append-nil, entries_same)

-- ---- terminators

cases_same : (w : Width) (cs : List Case) → 32 ∷ text_of (cases_atoms (spelled_cases w cs)) ≡ flat_map (case_text w) cs ++ codes " ]"
cases_same w [] = refl
cases_same w (c ∷ cs) =
    let later : List ℕ = flat_map (case_text w) cs in
    ap (λ (t : List ℕ). codes " " ++ (width_word w ++ (codes " " ++ (signed_decimal c.number ++ (codes ", label %" ++ (c.target ++ t)))))) (cases_same w cs)
    ∙ sym (right8 (codes " ") (width_word w) (codes " ") (signed_decimal c.number) (codes ", ") (label_text c.target) later (codes " ]"))

switch_same : (w : Width) (v : Operand) (d : List ℕ) (cs : List Case) → text_of (terminator_atoms (terminator.Switch w v d cs)) ≡ switch_text w v d cs
switch_same w v d cs =
    let listed : List Atom = cases_atoms (spelled_cases w cs) in
    ap (λ (t : List ℕ). codes "switch " ++ (width_word w ++ (codes " " ++ (symbol_text (operand_symbol v) ++ (codes ", label %" ++ (d ++ (codes " [" ++ t))))))) (ap (λ (x : List Atom). 32 ∷ text_of x) (append-nil listed) ∙ cases_same w cs)
    ∙ ap (λ (t : List ℕ). codes "switch " ++ (width_word w ++ (codes " " ++ (t ++ (codes ", label %" ++ (d ++ (codes " [" ++ (flat_map (case_text w) cs ++ codes " ]")))))))) (operand_same v)
    ∙ sym (right9 (codes "switch ") (width_word w) (codes " ") (operand_text v) (codes ", ") (label_text d) (codes " [") (flat_map (case_text w) cs) (codes " ]"))

pub terminator_same : (t : Terminator) → text_of (terminator_atoms t) ≡ terminator_text t
unfolding reattach_text
terminator_same (terminator.Jump l) = simp append-nil
terminator_same (terminator.Branch c t f) = simp append-nil (sym (right6 (codes "br i1 ") (register_text c) (codes ", ") (label_text t) (codes ", ") (label_text f)))
terminator_same (terminator.Switch w v d cs) = switch_same w v d cs
terminator_same (terminator.Return None) = refl
terminator_same (terminator.Return (Some v)) = simp (append-nil, operand_same)
terminator_same (terminator.Detach s d c) = simp append-nil (sym (right6 (codes "detach within ") (register_text s) (codes ", ") (label_text d) (codes ", ") (label_text c)))
terminator_same (terminator.Reattach s c) = simp append-nil (sym (right4 (codes "reattach within ") (register_text s) (codes ", ") (label_text c)))
terminator_same (terminator.Sync s n) = simp append-nil (sym (right4 (codes "sync within ") (register_text s) (codes ", ") (label_text n)))

-- ---- parameters

parameter_same : (p : Parameter) → text_of (parameter_atoms p) ≡ parameter_text p
unfolding pointer_parameter_text
parameter_same (parameter.Number name) = simp append-nil
parameter_same (parameter.Pointer name cells) =
    let same : 8 * cells ≡ cells * 8 = omega arith in
    ap (λ (n : ℕ). codes "ptr noalias dereferenceable(" ++ (decimal n ++ (codes ") %" ++ (name ++ [])))) same ∙ simp (append_assoc, append-nil)

pub parameters_same : (ps : List Parameter) → text_of (parted parameter_atoms ps ++ Token (symbols.Mark 41) ∷ []) ≡ parameters_text ps ++ codes ")"
parameters_same [] = refl
parameters_same (p ∷ ps) = text_appended (parted parameter_atoms (p ∷ ps)) (Token (symbols.Mark 41) ∷ []) ∙ ap (λ (t : List ℕ). t ++ codes ")") (list_same parameter_atoms parameter_text parameter_same p ps)
