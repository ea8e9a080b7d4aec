-- The numbers of instructions, phis and terminators are of 64 bits.
use Rattle.std.proofs.Common.{◌≡◌, ◌∙◌, ℕ, ◌+◌, Bool, true, List, [], ◌∷◌, ◌++◌, Option, Some, None, ap, subst, Result, Ok, Err, nat_eq}
use Rattle.std.specs.Prelude.{not, pos, nat_le, slice_get, is_some}
use Rattle.std.specs.List.{All}
use Rattle.std.proofs.lemmas.List.Elements.{All-nil, All-cons, All-head, All-tail}
use Rattle.linear.specs.declared.form.RegisterId.{RegisterId}
use Rattle.program.specs.declared.identifier.AllocaId.{AllocaId}
use Rattle.program.specs.declared.identifier.FunctionId.{FunctionId}
use Rattle.program.specs.declared.instruction.Argument.{Argument}
use Rattle.program.specs.declared.instruction.Argument.TheVariants as argument
use Rattle.program.specs.declared.instruction.Case.{Case}
use Rattle.program.specs.declared.instruction.Instruction.{Instruction}
use Rattle.program.specs.declared.instruction.Instruction.TheVariants as instruction
use Rattle.program.specs.declared.instruction.Operand.{Operand}
use Rattle.program.specs.declared.instruction.Phi.{Phi}
use Rattle.program.specs.declared.instruction.PhiEntry.{PhiEntry}
use Rattle.program.specs.declared.instruction.Terminator.{Terminator}
use Rattle.program.specs.declared.instruction.Terminator.TheVariants as terminator
use Rattle.syntax.specs.declared.instruction.Argument.{Argument as ArgumentText}
use Rattle.syntax.specs.declared.instruction.Argument.TheVariants as argument_text
use Rattle.syntax.specs.declared.instruction.Instruction.{Instruction as InstructionText}
use Rattle.syntax.specs.declared.instruction.Instruction.TheVariants as text
use Rattle.syntax.specs.declared.instruction.Operand.{Operand as OperandText}
use Rattle.syntax.specs.declared.instruction.Phi.{Phi as PhiText}
use Rattle.syntax.specs.declared.instruction.PhiEntry.{PhiEntry as EntryText}
use Rattle.syntax.specs.declared.module.Function.{Function as FunctionText}
use Rattle.syntax.specs.declared.module.Parameter.{Parameter as ParameterText}
use Rattle.syntax.specs.declared.module.ResultType.{ResultType}
use Rattle.syntax.specs.declared.module.ResultType.TheVariants.{Number, Void}
use Rattle.syntax.specs.declared.operator.Conversion.{Conversion}
use Rattle.syntax.specs.declared.operator.Conversion.TheVariants.{Truncate, SignExtend, ZeroExtend}
use Rattle.syntax.specs.declared.operator.Width.{Width}
use Rattle.syntax.specs.declared.operator.Width.TheVariants.{Bits64}
use Rattle.syntax.specs.declared.terminator.Case.{Case as CaseText}
use Rattle.syntax.specs.declared.terminator.Terminator.{Terminator as TerminatorText}
use Rattle.syntax.specs.declared.terminator.Terminator.TheVariants as end
use Rattle.refusal.specs.declared.broken.Broken.{Broken}
use Rattle.ir_reader.specs.declared.item.item.Item.TheVariants as item
use Rattle.ir_reader.specs.item.Printed.{IsKeptItem}
use Rattle.ir_instruction.specs.Spelling.{Blank, a_mark, argument_atoms, atoms_of, cases_atoms, entry_atoms, instruction_atoms, operator_atoms, parted, phi_atoms, spelled_cases, terminator_atoms}
use Rattle.ir_instruction.specs.Symbols.{fits_i64}
use Rattle.ir_instruction.specs.Grammar.{binary_shape}
use Rattle.types.specs.declared.names.address.WholeObject.{WholeObject}
use Rattle.types.specs.names.Address.{Items, object_of}
use Rattle.types.specs.names.Fault.{and_then, both_of, breaks, made_of, unless_of}
use Rattle.types.specs.names.Operand.{operand_of}
use Rattle.types.specs.names.Scope.{Scope}
use Rattle.types.specs.names.Table.{look_up}
use Rattle.types.proofs.names.Inversion.{Each, made_ok, then_ok, both_ok, same_ok, err_not_ok}
use Rattle.types.specs.declared.call.ResolvedCall.{ResolvedCall}
use Rattle.types.specs.Call.{Named, are_distinct, as_function, expected, fits_extent, is_any_named, takes_number, takes_object, argument_of, arguments_of, passed_call, fitting_arguments, known_call, found_call, called}
use Rattle.types.specs.Instruction.{defined_of, alloca_id_of, instruction_of, entry_of, phi_of}
use Rattle.types.specs.Terminator.{case_of, return_of, terminator_of}
use Rattle.verifier.proofs.Lists.{each_of}
use Rattle.laws_verdict.specs.Sums.{IsWord}
use Rattle.laws_verdict.specs.Written.{IsArgumentWord, IsCaseNumber, HasWords, EndsInWords, TakesWords}
use Rattle.laws_verdict.proofs.limits.Numbers.{AreSpelled, spelled, front, back, number_fits, IsOperandSpelled, word_of, IsArgumentSpelled, argument_spelled, entry_spelled, parted_spelled, cases_spelled}

-- each element of a list that is meant by parts that are all so
module _ {A B : Type 0} (f : ℕ → A → Result B Broken) (P : A → Type 0) (Q : B → Type 0) (each : (n : ℕ) (x : A) (y : B) → P x → f n x ≡ Ok y → Q y) where
  pub meant_from : (n : ℕ) (xs : List A) (ys : List B) → All P xs → Each f n xs ys → All Q ys
  meant_from n [] [] all e = All-nil Q
  meant_from n [] (y ∷ ys) all e = absurd e
  meant_from n (x ∷ xs) [] all e = absurd e
  meant_from n (x ∷ xs) (y ∷ ys) all e = All-cons Q y ys (each n x y (All-head P x xs all) e.0) (meant_from (n + 1) xs ys (All-tail P x xs all) e.1)

-- ---- instructions

module _ (items : Items) (functions : List FunctionText) (named : Named) (scope : Scope) where
  argument_word : (line n : ℕ) (parameters : List ParameterText) (x : ArgumentText) (y : Argument) → IsArgumentSpelled x → argument_of items scope line (expected parameters n) x ≡ Ok y → IsArgumentWord y
  argument_word line n parameters (argument_text.Number value) y h e =
      let fits : Result (Unit {0}) Broken = unless_of (takes_number (expected parameters n)) (breaks 202 line) in
      let part = then_ok (λ (v : Operand). made_of (λ (u : Unit {0}). argument.Number v) fits) (operand_of scope line Bits64 value) y e in
      let made = made_ok (λ (u : Unit {0}). argument.Number part.0) fits y part.2 in
      subst IsArgumentWord made.2 (word_of scope line Bits64 value part.0 h part.1)
  argument_word line n parameters (argument_text.Pointer address) y h e =
      let extent : WholeObject → Result (Unit {0}) Broken = λ found. unless_of (fits_extent found.cells (expected parameters n)) (breaks 204 line) in
      let part = then_ok (λ (p : WholeObject × Unit {0}). made_of (λ (u : Unit {0}). argument.Object p.0.name) (extent p.0))
      (both_of (object_of items scope line address) (unless_of (takes_object (expected parameters n)) (breaks 202 line))) y e in
      let made = made_ok (λ (u : Unit {0}). argument.Object part.0.0.name) (extent part.0.0) y part.2 in
      subst IsArgumentWord made.2 tt

  arguments_words : (line : ℕ) (parameters : List ParameterText) (xs : List ArgumentText) (ys : List Argument) → All IsArgumentSpelled xs → arguments_of items scope line parameters xs ≡ Ok ys → All IsArgumentWord ys
  arguments_words line parameters xs ys all e =
      let f : ℕ → ArgumentText → Result Argument Broken = λ place. argument_of items scope line (expected parameters place) in
      meant_from f IsArgumentSpelled IsArgumentWord (λ n x y h k. argument_word line n parameters x y h k) 0 xs ys all (each_of f xs ys e)

  passed_same : (caller line : ℕ) (id : FunctionId) (arguments : List Argument) (call : ResolvedCall) → passed_call named caller line id arguments ≡ Ok call → arguments ≡ call.arguments
  passed_same caller line id arguments call e =
      let upward : Result (Unit {0}) Broken = unless_of (nat_le id.0 caller) (breaks 205 line) in
      let made_so : Result ResolvedCall Broken = made_of (λ (u : Unit {0}). record { callee = id; arguments = arguments }) upward in
      let apart : Result (Unit {0}) Broken = unless_of (not (is_any_named (slice_get named id.0) arguments)) (breaks 204 line) in
      let first = then_ok (λ (u : Unit {0}). and_then apart (λ (v : Unit {0}). made_so)) (unless_of (are_distinct arguments) (breaks 204 line)) call e in
      let second = then_ok (λ (u : Unit {0}). made_so) apart call first.2 in
      let made = made_ok (λ (u : Unit {0}). record { callee = id; arguments = arguments }) upward call second.2 in
      ap (λ (c : ResolvedCall). c.arguments) made.2

  known_words : (caller line : ℕ) (has : Bool) (id : FunctionId) (callee : FunctionText) (xs : List ArgumentText) (call : ResolvedCall) → All IsArgumentSpelled xs → known_call items named scope caller line has id callee xs ≡ Ok call → All IsArgumentWord call.arguments
  known_words caller line has id callee xs call all e =
      let part = then_ok (passed_call named caller line id) (fitting_arguments items scope line has callee xs) call e in
      let made = made_ok _ _ part.0 part.1 in
      let words = arguments_words line callee.parameters xs made.0.0 all (both_ok _ _ made.0 made.1).0 in
      let same : made.0.0 ≡ call.arguments = made.2 ∙ passed_same caller line id part.0 call part.2 in
      subst (All IsArgumentWord) same words

  called_words : (caller line : ℕ) (has : Bool) (r : Result FunctionId Broken) (xs : List ArgumentText) (call : ResolvedCall) → All IsArgumentSpelled xs → called items functions named scope caller line has r xs ≡ Ok call → All IsArgumentWord call.arguments
  called_words caller line has (Err fault) xs call all e =
      let refused : Result (Unit {0}) Broken = Err fault in
      let none : Result ResolvedCall Broken = Err fault in
      absurd (err_not_ok fault call (then_ok (λ (p : List Argument × Unit {0}). none) (both_of (arguments_of items scope line [] xs) refused) call e).2)
  called_words caller line has (Ok id) xs call all e = from (slice_get functions id.0) e
    where
      from : (o : Option FunctionText) → found_call items named scope caller line has id o xs ≡ Ok call → All IsArgumentWord call.arguments
      from None k = absurd (err_not_ok (breaks 201 line) call k)
      from (Some callee) k = known_words caller line has id callee xs call all k

  arguments_spelled : (xs : List ArgumentText) → AreSpelled ((parted argument_atoms xs ++ a_mark 41 ∷ []) ++ []) → All IsArgumentSpelled xs
  arguments_spelled xs h =
      parted_spelled argument_atoms IsArgumentSpelled argument_spelled xs (front (parted argument_atoms xs) (a_mark 41 ∷ []) (front (parted argument_atoms xs ++ a_mark 41 ∷ []) [] h))

  call_spelled : (d : Option (List ℕ)) (callee : List ℕ) (xs : List ArgumentText) → AreSpelled (instruction_atoms (text.Call d callee xs)) → All IsArgumentSpelled xs
  call_spelled (Some d) callee xs h = arguments_spelled xs h.1.1.1.1.1.1
  call_spelled None callee xs h = arguments_spelled xs h.1.1.1.1

  converted : (d : List ℕ) (conversion : Conversion) (value : OperandText) → AreSpelled (instruction_atoms (text.Convert d conversion value)) → IsOperandSpelled value
  converted d Truncate value h = h.1.1.1.1.0
  converted d SignExtend value h = h.1.1.1.1.0
  converted d ZeroExtend value h = h.1.1.1.1.0

  pub words_of : (f b line : ℕ) (written : InstructionText) (what : Instruction) → IsKeptItem (item.Instruction written) → instruction_of items functions named scope (record { function = f; block = b; line = line }) written ≡ Ok what → HasWords what
  words_of f b line (text.Binary d operator width left right) what kept e =
      let made = made_ok _ _ what e in
      let values = both_ok _ _ made.0.1 (both_ok _ _ made.0 made.1).1 in
      let all = spelled (instruction_atoms (text.Binary d operator width left right)) kept.spelled in
      let rest = back (operator_atoms operator) (Blank ∷ atoms_of binary_shape (width, (left, (right, tt)))) all.1.1 in
      subst HasWords made.2 (word_of scope line width left made.0.1.0 rest.1.0 values.0, word_of scope line width right made.0.1.1 rest.1.1.1.0 values.1)
  words_of f b line (text.Compare d predicate width left right) what kept e =
      let made = made_ok _ _ what e in
      let values = both_ok _ _ made.0.1 (both_ok _ _ made.0 made.1).1 in
      let all = spelled (instruction_atoms (text.Compare d predicate width left right)) kept.spelled in
      subst HasWords made.2 (word_of scope line width left made.0.1.0 all.1.1.1.1.1.0 values.0, word_of scope line width right made.0.1.1 all.1.1.1.1.1.1.1.0 values.1)
  words_of f b line (text.Convert d conversion value) what kept e =
      let made = made_ok _ _ what e in
      let all = spelled (instruction_atoms (text.Convert d conversion value)) kept.spelled in
      subst HasWords made.2 (word_of scope line _ value made.0.1 (converted d conversion value all) (both_ok _ _ made.0 made.1).1)
  words_of f b line (text.Alloca d size) what kept e =
      let entry : Result (Unit {0}) Broken = unless_of (nat_eq b 0) (breaks 204 line) in
      let part = then_ok (λ (p : RegisterId × AllocaId). made_of (λ (u : Unit {0}). instruction.Alloca p.0 p.1) entry)
      (both_of (defined_of scope line d) (alloca_id_of scope line d)) what e in
      subst HasWords (made_ok (λ (u : Unit {0}). instruction.Alloca part.0.0 part.0.1) entry what part.2).2 tt
  words_of f b line (text.ElementPointer d base index) what kept e =
      let made = made_ok _ _ what e in
      let values = both_ok _ _ made.0.1 (both_ok _ _ made.0 made.1).1 in
      let all = spelled (instruction_atoms (text.ElementPointer d base index)) kept.spelled in
      subst HasWords made.2 (word_of scope line Bits64 index made.0.1.1 all.1.1.1.1.1.1.1.1.1.1.0 values.1)
  words_of f b line (text.Load d at) what kept e = let made = made_ok _ _ what e in subst HasWords made.2 tt
  words_of f b line (text.Store value at) what kept e = let made = made_ok _ _ what e in subst HasWords made.2 tt
  words_of f b line (text.StoreZeros cells at) what kept e =
      let part = then_ok (λ (found : WholeObject). made_of (λ (u : Unit {0}). instruction.StoreZeros cells found.name) (unless_of (nat_eq found.cells cells) (breaks 204 line))) (object_of items scope line at) what e in
      let all = spelled (instruction_atoms (text.StoreZeros cells at)) kept.spelled in
      subst HasWords (made_ok (λ (u : Unit {0}). instruction.StoreZeros cells part.0.name) (unless_of (nat_eq part.0.cells cells) (breaks 204 line)) what part.2).2 (number_fits (pos cells) all.1.1.0)
  words_of f b line (text.AtomicAdd at value) what kept e = let made = made_ok _ _ what e in subst HasWords made.2 tt
  words_of f b line (text.Call d callee arguments) what kept e =
      let made = made_ok _ _ what e in
      let all = spelled (instruction_atoms (text.Call d callee arguments)) kept.spelled in
      subst HasWords made.2 (called_words f line (is_some d) (as_function line (look_up items callee)) arguments made.0.1 (call_spelled d callee arguments all) (both_ok _ _ made.0 made.1).1)
  words_of f b line (text.StartRegion d) what kept e = let made = made_ok _ _ what e in subst HasWords made.2 tt

-- ---- phis and terminators

module _ (scope : Scope) where
  entry_word : (line : ℕ) (width : Width) (x : EntryText) (y : PhiEntry) → IsOperandSpelled x.value → entry_of scope line width x ≡ Ok y → IsWord y.value
  entry_word line width x y h e =
      let made = made_ok _ _ y e in
      let P : PhiEntry → Type 0 = λ z. IsWord z.value in
      subst P made.2 (word_of scope line width x.value made.0.0 h (both_ok _ _ made.0 made.1).0)

  pub phi_words : (written : PhiText) (phi : Phi) → IsKeptItem (item.Phi written) → phi_of scope written ≡ Ok phi → TakesWords phi
  phi_words written phi kept e =
      let made = made_ok _ _ phi e in
      let all = spelled (phi_atoms written) kept.spelled in
      let list : AreSpelled (parted entry_atoms written.entries) = front (parted entry_atoms written.entries) [] all.1.1.1.1 in
      let entries = parted_spelled entry_atoms (λ (x : EntryText). IsOperandSpelled x.value) entry_spelled written.entries list in
      let f : ℕ → EntryText → Result PhiEntry Broken = λ _. entry_of scope written.line written.width in
      let words = meant_from f (λ (x : EntryText). IsOperandSpelled x.value) (λ (y : PhiEntry). IsWord y.value) (λ n x y h k. entry_word written.line written.width x y h k) 0 written.entries made.0.1 entries
      (each_of f written.entries made.0.1 (both_ok _ _ made.0 made.1).1) in
      subst TakesWords made.2 words

  case_word : (line : ℕ) (width : Width) (x : CaseText) (y : Case) → fits_i64 x.number ≡ true → case_of scope line width x ≡ Ok y → IsCaseNumber y
  case_word line width x y h e =
      let made = made_ok _ _ y e in
      let P : Case → Type 0 = λ c. IsCaseNumber c in
      subst P made.2 (number_fits x.number h)

  return_word : (line : ℕ) (result : ResultType) (value : Option OperandText) (t : Terminator) → AreSpelled (terminator_atoms (end.Return value)) → return_of scope line result value ≡ Ok t → EndsInWords t
  return_word line Void None t h e = let one : Terminator = terminator.Return None in subst EndsInWords (same_ok one t e) tt
  return_word line Number None t h e = absurd (err_not_ok (breaks 202 line) t e)
  return_word line Number (Some value) t h e =
      let made = made_ok (λ v. terminator.Return (Some v)) (operand_of scope line Bits64 value) t e in
      subst EndsInWords made.2 (word_of scope line Bits64 value made.0 h.1.1.0 made.1)
  return_word line Void (Some value) t h e =
      let none : Result Terminator Broken = Err (breaks 202 line) in
      absurd (err_not_ok (breaks 202 line) t (then_ok (λ (v : Operand). none) (operand_of scope line Bits64 value) t e).2)

  pub end_words : (line : ℕ) (result : ResultType) (written : TerminatorText) (t : Terminator) → IsKeptItem (item.Terminator written) → terminator_of scope line result written ≡ Ok t → EndsInWords t
  end_words line result (end.Jump l) t kept e = let made = made_ok _ _ t e in subst EndsInWords made.2 tt
  end_words line result (end.Branch c l m) t kept e = let made = made_ok _ _ t e in subst EndsInWords made.2 tt
  end_words line result (end.Switch width value default cases) t kept e =
      let made = made_ok _ _ t e in
      let parts = both_ok _ _ made.0 made.1 in
      let rest = both_ok _ _ made.0.1 parts.1 in
      let all = spelled (terminator_atoms (end.Switch width value default cases)) kept.spelled in
      let f : ℕ → CaseText → Result Case Broken = λ _. case_of scope line width in
      let numbers = meant_from f (λ (x : CaseText). fits_i64 x.number ≡ true) IsCaseNumber (λ n x y h k. case_word line width x y h k) 0 cases made.0.1.1 (cases_spelled width cases (front (cases_atoms (spelled_cases width cases)) [] all.1.1.1.1.1.1.1)) (each_of f cases made.0.1.1 rest.1) in
      subst EndsInWords made.2 numbers
  end_words line result (end.Return value) t kept e = return_word line result value t (spelled (terminator_atoms (end.Return value)) kept.spelled) e
  end_words line result (end.Detach s l m) t kept e = let made = made_ok _ _ t e in subst EndsInWords made.2 tt
  end_words line result (end.Reattach s l) t kept e = let made = made_ok _ _ t e in subst EndsInWords made.2 tt
  end_words line result (end.Sync s l) t kept e = let made = made_ok _ _ t e in subst EndsInWords made.2 tt
