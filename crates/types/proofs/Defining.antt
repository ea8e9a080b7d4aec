-- The registers that instructions and phis define are no parameters, where no name of a parameter is defined again.
use Rattle.std.proofs.Common.{◌≡◌, inl, inr, ℕ, ◌<◌, ◌≤◌, List, Option, Some, None, true, refl, sym, subst, Result, Ok, nat_eq}
use Rattle.std.specs.Str.{bytes_eq}
use Rattle.std.proofs.lemmas.Bool.{cases_lt}
use Rattle.std.proofs.lemmas.Slice.Eq.{bytes_eq-Decides}
use Rattle.linear.specs.declared.form.RegisterId.{RegisterId}
use Rattle.program.specs.declared.identifier.AllocaId.{AllocaId}
use Rattle.program.specs.declared.instruction.Instruction.{Instruction}
use Rattle.program.specs.declared.instruction.Instruction.TheVariants as instruction
use Rattle.program.specs.declared.instruction.Phi.{Phi}
use Rattle.syntax.specs.declared.instruction.Instruction.{Instruction as InstructionText}
use Rattle.syntax.specs.declared.instruction.Instruction.TheVariants as text
use Rattle.syntax.specs.declared.instruction.Phi.{Phi as PhiText}
use Rattle.syntax.specs.declared.module.Function.{Function as FunctionText}
use Rattle.types.specs.declared.names.address.WholeObject.{WholeObject}
use Rattle.refusal.specs.declared.broken.Broken.{Broken as TypeFault}
use Rattle.types.specs.declared.instruction.Spot.{Spot}
use Rattle.types.specs.declared.names.scope.Named.TheVariants as named_as
use Rattle.types.specs.declared.names.scope.Register.{Register}
use Rattle.types.specs.names.Address.{Items, object_of}
use Rattle.types.specs.Call.{Named}
use Rattle.types.specs.Definitions.{IsFrom, DefinesFrom, defined_name}
use Rattle.types.specs.names.Fault.{both_of, breaks, made_of, unless_of}
use Rattle.types.specs.Instruction.{defined_of, instruction_of, alloca_id_of, call_register_of, phi_of}
use Rattle.types.specs.names.Operand.{register_of}
use Rattle.types.specs.names.Scope.{Scope}
use Rattle.types.proofs.names.Inversion.{made_ok, then_ok, both_ok, same_ok}
use Rattle.types.proofs.Scopes.{Entries, entries_found, register_found, IsNamedRight}

pub bytes_same : (xs ys : List ℕ) → bytes_eq xs ys ≡ true → xs ≡ ys
bytes_same xs ys e = (bytes_eq-Decides xs ys).0 e

module _ (n : ℕ) (IsParameter : List ℕ → Type 0) (scope : Scope) (right : Entries (IsNamedRight n IsParameter) scope) where
  register_from : (name : List ℕ) (register : Register) (other : List ℕ) → bytes_eq name other ≡ true → (register.id.0 < n → IsParameter other) → (IsParameter name → ⊥) → n ≤ register.id.0
  register_from name register other same is fresh = elim (cases_lt register.id.0 n) [
    | inl l ↦ absurd (let P : List ℕ → Type 0 = λ x. IsParameter x in fresh (subst P (sym (bytes_same name other same)) (is l)))
    | inr g ↦ g
  ]

  pub defined_from : (line : ℕ) (name : List ℕ) (id : RegisterId) → defined_of scope line name ≡ Ok id → (IsParameter name → ⊥) → n ≤ id.0
  defined_from line name id e fresh =
      let made = made_ok (λ (register : Register). register.id) (register_of scope line name) id e in
      let found = entries_found (IsNamedRight n IsParameter) scope name (named_as.Register made.0) right (register_found scope line name made.0 made.1) in
      let P : RegisterId → Type 0 = λ x. n ≤ x.0 in
      subst P made.2 (register_from name made.0 found.0 found.1 found.2.1 fresh)

  pub phi_from : (written : PhiText) (phi : Phi) → phi_of scope written ≡ Ok phi → (IsParameter written.register → ⊥) → n ≤ phi.register.0
  phi_from written phi e fresh =
      let made = made_ok _ _ phi e in
      let P : Phi → Type 0 = λ x. n ≤ x.register.0 in
      subst P made.2 (defined_from written.line written.register made.0.0 (both_ok _ _ made.0 made.1).0 fresh)

  call_from : (line : ℕ) (register : Option (List ℕ)) (meant : Option RegisterId) → call_register_of scope line register ≡ Ok meant → ((name : List ℕ) → register ≡ Some name → IsParameter name → ⊥) → IsFrom n meant
  call_from line None meant e fresh = let P : Option RegisterId → Type 0 = λ x. IsFrom n x in let none : Option RegisterId = None in subst P (same_ok none meant e) tt
  call_from line (Some name) meant e fresh =
      let made = made_ok (λ (x : RegisterId). Some x) (defined_of scope line name) meant e in
      let P : Option RegisterId → Type 0 = λ x. IsFrom n x in
      subst P made.2 (defined_from line name made.0 made.1 (fresh name refl))

  module _ (items : Items) (functions : List FunctionText) (named : Named) where
    abbrev Fresh : InstructionText → Type 0
    Fresh written = (name : List ℕ) → defined_name written ≡ Some name → IsParameter name → ⊥

    pub instruction_from : (spot : Spot) (written : InstructionText) (meant : Instruction) → instruction_of items functions named scope spot written ≡ Ok meant → Fresh written → DefinesFrom n meant
    instruction_from spot (text.Binary register operator width left right) meant e fresh =
        let P : Instruction → Type 0 = λ x. DefinesFrom n x in
        let made = made_ok _ _ meant e in
        subst P made.2 (defined_from spot.line register made.0.0 (both_ok _ _ made.0 made.1).0 (fresh register refl))
    instruction_from spot (text.Compare register predicate width left right) meant e fresh =
        let P : Instruction → Type 0 = λ x. DefinesFrom n x in
        let made = made_ok _ _ meant e in
        subst P made.2 (defined_from spot.line register made.0.0 (both_ok _ _ made.0 made.1).0 (fresh register refl))
    instruction_from spot (text.Convert register conversion value) meant e fresh =
        let P : Instruction → Type 0 = λ x. DefinesFrom n x in
        let made = made_ok _ _ meant e in
        subst P made.2 (defined_from spot.line register made.0.0 (both_ok _ _ made.0 made.1).0 (fresh register refl))
    instruction_from spot (text.Alloca register size) meant e fresh =
        let P : Instruction → Type 0 = λ x. DefinesFrom n x in
        let entry : Result (Unit {0}) TypeFault = unless_of (nat_eq spot.block 0) (breaks 204 spot.line) in
        let part = then_ok (λ (p : RegisterId × AllocaId). made_of (λ (u : Unit {0}). instruction.Alloca p.0 p.1) entry)
        (both_of (defined_of scope spot.line register) (alloca_id_of scope spot.line register)) meant e in
        subst P (made_ok (λ (u : Unit {0}). instruction.Alloca part.0.0 part.0.1) entry meant part.2).2
        (defined_from spot.line register part.0.0 (both_ok _ _ part.0 part.1).0 (fresh register refl))
    instruction_from spot (text.ElementPointer register base index) meant e fresh =
        let P : Instruction → Type 0 = λ x. DefinesFrom n x in
        let made = made_ok _ _ meant e in
        subst P made.2 (defined_from spot.line register made.0.0 (both_ok _ _ made.0 made.1).0 (fresh register refl))
    instruction_from spot (text.Load register at) meant e fresh =
        let P : Instruction → Type 0 = λ x. DefinesFrom n x in
        let made = made_ok _ _ meant e in
        subst P made.2 (defined_from spot.line register made.0.0 (both_ok _ _ made.0 made.1).0 (fresh register refl))
    instruction_from spot (text.Store value at) meant e fresh =
        let P : Instruction → Type 0 = λ x. DefinesFrom n x in
        subst P (made_ok _ _ meant e).2 tt
    instruction_from spot (text.StoreZeros cells at) meant e fresh =
        let P : Instruction → Type 0 = λ x. DefinesFrom n x in
        let part = then_ok (λ (found : WholeObject). made_of (λ (u : Unit {0}). instruction.StoreZeros cells found.name) (unless_of (nat_eq found.cells cells) (breaks 204 spot.line)))
        (object_of items scope spot.line at) meant e in
        subst P (made_ok (λ (u : Unit {0}). instruction.StoreZeros cells part.0.name) (unless_of (nat_eq part.0.cells cells) (breaks 204 spot.line)) meant part.2).2 tt
    instruction_from spot (text.AtomicAdd at value) meant e fresh =
        let P : Instruction → Type 0 = λ x. DefinesFrom n x in
        subst P (made_ok _ _ meant e).2 tt
    instruction_from spot (text.Call register callee arguments) meant e fresh =
        let P : Instruction → Type 0 = λ x. DefinesFrom n x in
        let made = made_ok _ _ meant e in
        subst P made.2 (call_from spot.line register made.0.0 (both_ok _ _ made.0 made.1).0 fresh)
    instruction_from spot (text.StartRegion register) meant e fresh =
        let P : Instruction → Type 0 = λ x. DefinesFrom n x in
        let made = made_ok _ _ meant e in
        subst P made.2 (defined_from spot.line register made.0 made.1 (fresh register refl))
