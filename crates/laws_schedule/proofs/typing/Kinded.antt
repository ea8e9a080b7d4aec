-- Each instruction, terminator and phi of a program defines and uses registers of their kinds.
use Rattle.std.proofs.Common.{◌≡◌, ℕ, List, Option, Some, None, Bool, true, refl, sym, ap, ◌∙◌, subst, Result, Ok, Err, nat_eq}
use Rattle.std.specs.Prelude.{slice_get}
use Rattle.linear.specs.declared.form.RegisterId.{RegisterId}
use Rattle.semantics.specs.Frames.{Does, Ends, item_at}
use Rattle.semantics.proofs.Confluence.{one_result}
use Rattle.program.specs.declared.function.Block.{Block}
use Rattle.program.specs.declared.function.Function.{Function}
use Rattle.program.specs.declared.function.Program.{Program}
use Rattle.program.specs.declared.function.RegisterKind.{RegisterKind}
use Rattle.program.specs.declared.function.RegisterKind.TheVariants as kind
use Rattle.program.specs.declared.identifier.AllocaId.{AllocaId}
use Rattle.program.specs.declared.identifier.FunctionId.{FunctionId}
use Rattle.program.specs.declared.instruction.Argument.{Argument}
use Rattle.program.specs.declared.instruction.Argument.TheVariants as argument
use Rattle.program.specs.declared.instruction.Instruction.{Instruction}
use Rattle.program.specs.declared.instruction.Instruction.TheVariants as instruction
use Rattle.program.specs.declared.instruction.Operand.{Operand}
use Rattle.program.specs.declared.instruction.Operand.TheVariants as operand
use Rattle.program.specs.declared.instruction.Phi.{Phi}
use Rattle.program.specs.declared.instruction.PhiEntry.{PhiEntry}
use Rattle.program.specs.declared.instruction.Terminator.{Terminator}
use Rattle.program.specs.declared.instruction.Terminator.TheVariants as terminator
use Rattle.program.specs.declared.function.Parameter.{Parameter}
use Rattle.syntax.specs.declared.instruction.Argument.{Argument as ArgumentText}
use Rattle.syntax.specs.declared.instruction.Argument.TheVariants as passed
use Rattle.syntax.specs.declared.instruction.Instruction.{Instruction as InstructionText}
use Rattle.syntax.specs.declared.instruction.Instruction.TheVariants as text
use Rattle.syntax.specs.declared.instruction.Operand.{Operand as OperandText}
use Rattle.syntax.specs.declared.instruction.Operand.TheVariants as operand_text
use Rattle.syntax.specs.declared.instruction.Phi.{Phi as PhiText}
use Rattle.syntax.specs.declared.instruction.PhiEntry.{PhiEntry as PhiEntryText}
use Rattle.syntax.specs.declared.module.Function.{Function as FunctionText}
use Rattle.syntax.specs.declared.module.Module.{Module}
use Rattle.syntax.specs.declared.module.ResultType.{ResultType}
use Rattle.syntax.specs.declared.module.ResultType.TheVariants.{Number, Void}
use Rattle.syntax.specs.declared.operator.Width.{Width}
use Rattle.syntax.specs.declared.operator.Width.TheVariants.{Bits64, Bits32}
use Rattle.syntax.specs.declared.terminator.Terminator.{Terminator as TerminatorText}
use Rattle.syntax.specs.declared.terminator.Terminator.TheVariants as ending
use Rattle.ir_reader.specs.Kept.{IsKeptModule}
use Rattle.types.specs.declared.names.address.WholeObject.{WholeObject}
use Rattle.refusal.specs.declared.broken.Broken.{Broken as TypeFault}
use Rattle.types.specs.declared.names.scope.Holding.{Holding}
use Rattle.types.specs.declared.names.scope.Holding.TheVariants as holding
use Rattle.types.specs.declared.names.scope.Named.TheVariants as named_as
use Rattle.types.specs.declared.names.scope.Register.{Register}
use Rattle.types.specs.names.Address.{Items, object_of}
use Rattle.types.specs.names.Fault.{both_of, breaks, made_of, unless_of}
use Rattle.types.specs.names.Item.{items_of}
use Rattle.types.specs.names.Layout.{kind_of, layout_of}
use Rattle.types.specs.names.Operand.{fits_width, operand_of, passing, register_of, register_passing}
use Rattle.types.specs.names.Scope.{Scope, is_number_of, is_truth, is_region}
use Rattle.types.specs.names.Table.{look_up}
use Rattle.types.proofs.names.Inversion.{made_ok, then_ok, both_ok, same_ok, unless_ok, err_not_ok, all_at}
use Rattle.types.specs.Call.{Named, argument_of, expected, fits_extent, takes_number, takes_object}
use Rattle.types.specs.Definitions.{defined_name}
use Rattle.types.specs.Instruction.{defined_of, entry_of, phi_of, alloca_id_of, call_register_of, instruction_of}
use Rattle.types.specs.Meaning.{Means}
use Rattle.types.specs.Terminator.{return_of, terminator_of}
use Rattle.types.proofs.Scopes.{register_found}
use Rattle.laws_phases.proofs.defined.Items.{stands, step_there, end_there}
use Rattle.laws_schedule.specs.typing.Kinds.{IsOfKind, IsNumber, IsResult, IsArgument, IsKinded, IsKindedEnd, IsKindedPhi, KindsAreRight}
use Rattle.laws_schedule.proofs.typing.Lists.{all_each}
use Rattle.laws_schedule.proofs.typing.Parts.{function_from, block_from, step_from, phi_from, ending_from}
use Rattle.laws_schedule.proofs.typing.Instructions.{CallOf, is_meant}
use Rattle.laws_schedule.proofs.typing.Once.{PhiNames}
use Rattle.laws_schedule.proofs.typing.Kinding.{GivesKind, register_kind, step_gives, phi_gives}
use Rattle.laws_schedule.proofs.typing.Passing.{parameters_kinded, arguments_passed}
use Rattle.laws_schedule.proofs.typing.Registers.{kept_function}

-- ---- what tests say of kinds

number_kind : (width : Width) (held : Holding) → is_number_of width held ≡ true → kind_of held ≡ kind.Number width
number_kind Bits64 (holding.Number Bits64) e = refl
number_kind Bits32 (holding.Number Bits64) e = absurd (cc)
number_kind Bits64 (holding.Number Bits32) e = absurd (cc)
number_kind Bits32 (holding.Number Bits32) e = refl
number_kind width holding.Truth e = absurd (cc)
number_kind width (holding.Object o cells) e = absurd (cc)
number_kind width holding.Element e = absurd (cc)
number_kind width holding.Region e = absurd (cc)

truth_kind : (held : Holding) → is_truth held ≡ true → kind_of held ≡ kind.Truth
truth_kind (holding.Number width) e = absurd (cc)
truth_kind holding.Truth e = refl
truth_kind (holding.Object o cells) e = absurd (cc)
truth_kind holding.Element e = absurd (cc)
truth_kind holding.Region e = absurd (cc)

region_kind : (held : Holding) → is_region held ≡ true → kind_of held ≡ kind.Region
region_kind (holding.Number width) e = absurd (cc)
region_kind holding.Truth e = absurd (cc)
region_kind (holding.Object o cells) e = absurd (cc)
region_kind holding.Element e = absurd (cc)
region_kind holding.Region e = refl

module _ (function : FunctionText) where
  abbrev scope : Scope
  scope = (layout_of function).scope

  abbrev registers : List RegisterKind
  registers = (layout_of function).registers

  -- ---- uses

  tested : (test : Holding → Bool) (k : RegisterKind) → ((held : Holding) → test held ≡ true → kind_of held ≡ k) → (line : ℕ) (name : List ℕ) (id : RegisterId) → register_passing test scope line name ≡ Ok id → IsOfKind registers id.0 k
  tested test k says line name id e =
      let part = then_ok (passing test line) (register_of scope line name) id e in
      let made = made_ok (λ (u : Unit {0}). part.0.id) (unless_of (test part.0.holding) (breaks 202 line)) id part.2 in
      let has = (register_kind function name part.0 (register_found scope line name part.0 part.1)).has in
      let P : RegisterId → Type 0 = λ x. IsOfKind registers x.0 k in
      subst P made.2 (has ∙ ap (λ (x : RegisterKind). Some x) (says part.0.holding (unless_ok (test part.0.holding) (breaks 202 line) made.0 made.1)))

  number : (line : ℕ) (width : Width) (written : OperandText) (x : Operand) → operand_of scope line width written ≡ Ok x → IsNumber registers width x
  number line width (operand_text.Number z) x e =
      let made = made_ok (λ (u : Unit {0}). operand.Number z) (unless_of (fits_width width z) (breaks 202 line)) x e in
      let P : Operand → Type 0 = λ y. IsNumber registers width y in
      subst P made.2 (unless_ok (fits_width width z) (breaks 202 line) made.0 made.1)
  number line width (operand_text.Register name) x e =
      let made = made_ok (λ (r : RegisterId). operand.Register r) (register_passing (is_number_of width) scope line name) x e in
      let P : Operand → Type 0 = λ y. IsNumber registers width y in
      subst P made.2 (tested (is_number_of width) (kind.Number width) (number_kind width) line name made.0 made.1)

  -- ---- instructions

  -- the register that a text defines is of the kind that the text gives it
  abbrev Given : InstructionText → Type 0
  Given written = (line : ℕ) (name : List ℕ) (d : RegisterId) → defined_name written ≡ Some name → defined_of scope line name ≡ Ok d → (k : RegisterKind) × GivesKind written k × IsOfKind registers d.0 k

  of_kind : (d : RegisterId) (k wanted : RegisterKind) → k ≡ wanted → IsOfKind registers d.0 k → IsOfKind registers d.0 wanted
  of_kind d k wanted same h = h ∙ ap (λ (x : RegisterKind). Some x) same

  module _ (items : Items) (functions : List FunctionText) (named : Named) where
    argument_kinded : (line : ℕ) (wanted : Option Parameter) (written : ArgumentText) (given : Argument) → argument_of items scope line wanted written ≡ Ok given → IsArgument registers given
    argument_kinded line wanted (passed.Number value) given e =
        let part = then_ok _ (operand_of scope line Bits64 value) given e in
        let made = made_ok (λ (u : Unit {0}). argument.Number part.0) (unless_of (takes_number wanted) (breaks 202 line)) given part.2 in
        let P : Argument → Type 0 = λ x. IsArgument registers x in
        subst P made.2 (number line Bits64 value part.0 part.1)
    argument_kinded line wanted (passed.Pointer written) given e =
        let part = then_ok (λ (p : WholeObject × Unit {0}). made_of (λ (u : Unit {0}). argument.Object p.0.name) (unless_of (fits_extent p.0.cells wanted) (breaks 204 line)))
        (both_of (object_of items scope line written) (unless_of (takes_object wanted) (breaks 202 line))) given e in
        let made = made_ok (λ (u : Unit {0}). argument.Object part.0.0.name) (unless_of (fits_extent part.0.0.cells wanted) (breaks 204 line)) given part.2 in
        let P : Argument → Type 0 = λ x. IsArgument registers x in
        subst P made.2 tt

    call_kinded : (f line : ℕ) (register : Option (List ℕ)) (callee : List ℕ) (texts : List ArgumentText) (d : Option RegisterId) → Given (text.Call register callee texts) → call_register_of scope line register ≡ Ok d → IsResult registers d
    call_kinded f line None callee texts d given e = let none : Option RegisterId = None in let P : Option RegisterId → Type 0 = λ x. IsResult registers x in subst P (same_ok none d e) tt
    call_kinded f line (Some name) callee texts d given e =
        let made = made_ok (λ (x : RegisterId). Some x) (defined_of scope line name) d e in
        let P : Option RegisterId → Type 0 = λ x. IsResult registers x in
        let g = given line name made.0 refl made.1 in
        subst P made.2 (of_kind made.0 g.0 (kind.Number Bits64) g.1 g.2)

    arguments_kinded : (f : ℕ) (d : Option RegisterId) (g : FunctionId) (given : List Argument) → CallOf items functions scope f d g given → (k : ℕ) (one : Argument) → slice_get given k ≡ Some one → IsArgument registers one
    arguments_kinded f d g given call k one at =
        let found = all_at (λ place. argument_of items scope call.line (expected call.fitting.callee.parameters place)) call.texts given k one call.fitting.arguments_are at in
        argument_kinded call.line (expected call.fitting.callee.parameters k) found.0 one found.2

    kinded : (f b line : ℕ) (written : InstructionText) (what : Instruction) → Given written → instruction_of items functions named scope (record { function = f; block = b; line = line }) written ≡ Ok what → IsKinded registers what
    kinded f b line (text.Binary register operator width left right) what given e =
        let P : Instruction → Type 0 = λ x. IsKinded registers x in
        let made = made_ok _ _ what e in
        let parts = both_ok _ _ made.0 made.1 in
        let values = both_ok _ _ made.0.1 parts.1 in
        let g = given line register made.0.0 refl parts.0 in
        subst P made.2 (of_kind made.0.0 g.0 (kind.Number width) g.1 g.2, number line width left made.0.1.0 values.0, number line width right made.0.1.1 values.1)
    kinded f b line (text.Compare register predicate width left right) what given e =
        let P : Instruction → Type 0 = λ x. IsKinded registers x in
        let made = made_ok _ _ what e in
        let parts = both_ok _ _ made.0 made.1 in
        let values = both_ok _ _ made.0.1 parts.1 in
        let g = given line register made.0.0 refl parts.0 in
        subst P made.2 (of_kind made.0.0 g.0 kind.Truth g.1 g.2, number line width left made.0.1.0 values.0, number line width right made.0.1.1 values.1)
    kinded f b line (text.Convert register conversion value) what given e =
        let P : Instruction → Type 0 = λ x. IsKinded registers x in
        let made = made_ok _ _ what e in
        let parts = both_ok _ _ made.0 made.1 in
        let g = given line register made.0.0 refl parts.0 in
        subst P made.2 (of_kind made.0.0 g.0 _ g.1 g.2, number line _ value made.0.1 parts.1)
    kinded f b line (text.Alloca register size) what given e =
        let P : Instruction → Type 0 = λ x. IsKinded registers x in
        let entry : Result (Unit {0}) TypeFault = unless_of (nat_eq b 0) (breaks 204 line) in
        let part = then_ok (λ (p : RegisterId × AllocaId). made_of (λ (u : Unit {0}). instruction.Alloca p.0 p.1) entry)
        (both_of (defined_of scope line register) (alloca_id_of scope line register)) what e in
        let g = given line register part.0.0 refl (both_ok _ _ part.0 part.1).0 in
        subst P (made_ok (λ (u : Unit {0}). instruction.Alloca part.0.0 part.0.1) entry what part.2).2 (of_kind part.0.0 g.0 kind.Object g.1 g.2)
    kinded f b line (text.ElementPointer register base index) what given e =
        let P : Instruction → Type 0 = λ x. IsKinded registers x in
        let made = made_ok _ _ what e in
        let parts = both_ok _ _ made.0 made.1 in
        let g = given line register made.0.0 refl parts.0 in
        subst P made.2 (of_kind made.0.0 g.0 kind.Element g.1 g.2, number line Bits64 index made.0.1.1 (both_ok _ _ made.0.1 parts.1).1)
    kinded f b line (text.Load register at) what given e =
        let P : Instruction → Type 0 = λ x. IsKinded registers x in
        let made = made_ok _ _ what e in
        let g = given line register made.0.0 refl (both_ok _ _ made.0 made.1).0 in
        subst P made.2 (of_kind made.0.0 g.0 (kind.Number Bits64) g.1 g.2)
    kinded f b line (text.Store value at) what given e =
        let P : Instruction → Type 0 = λ x. IsKinded registers x in
        let made = made_ok _ _ what e in
        subst P made.2 (number line Bits64 value made.0.0 (both_ok _ _ made.0 made.1).0)
    kinded f b line (text.StoreZeros cells at) what given e =
        let P : Instruction → Type 0 = λ x. IsKinded registers x in
        let part = then_ok (λ (found : WholeObject). made_of (λ (u : Unit {0}). instruction.StoreZeros cells found.name) (unless_of (nat_eq found.cells cells) (breaks 204 line)))
        (object_of items scope line at) what e in
        subst P (made_ok (λ (u : Unit {0}). instruction.StoreZeros cells part.0.name) (unless_of (nat_eq part.0.cells cells) (breaks 204 line)) what part.2).2 tt
    kinded f b line (text.AtomicAdd at value) what given e =
        let P : Instruction → Type 0 = λ x. IsKinded registers x in
        let made = made_ok _ _ what e in
        subst P made.2 (number line Bits64 value made.0.1 (both_ok _ _ made.0 made.1).1)
    kinded f b line (text.Call register callee texts) what given e =
        let P : Instruction → Type 0 = λ x. IsKinded registers x in
        let made = made_ok _ _ what e in
        let parts = both_ok _ _ made.0 made.1 in
        let call = (is_meant items functions scope named f b line (text.Call register callee texts) (instruction.Call made.0.0 made.0.1.callee made.0.1.arguments) (e ∙ ap (λ (x : Instruction). Ok x) (sym made.2))).uses in
        subst P made.2 (call_kinded f line register callee texts made.0.0 given parts.0, arguments_kinded f made.0.0 made.0.1.callee made.0.1.arguments call)
    kinded f b line (text.StartRegion register) what given e =
        let P : Instruction → Type 0 = λ x. IsKinded registers x in
        let made = made_ok _ _ what e in
        let g = given line register made.0 refl made.1 in
        subst P made.2 (of_kind made.0 g.0 kind.Region g.1 g.2)

  -- ---- terminators

  return_kinded : (line : ℕ) (result : ResultType) (value : Option OperandText) (t : Terminator) → return_of scope line result value ≡ Ok t → IsKindedEnd registers t
  return_kinded line Void None t e = let P : Terminator → Type 0 = λ x. IsKindedEnd registers x in subst P (same_ok (terminator.Return None) t e) tt
  return_kinded line Number None t e = absurd (err_not_ok _ t e)
  return_kinded line Number (Some value) t e =
      let P : Terminator → Type 0 = λ x. IsKindedEnd registers x in
      let made = made_ok (λ (v : Operand). terminator.Return (Some v)) (operand_of scope line Bits64 value) t e in
      subst P made.2 (number line Bits64 value made.0 made.1)
  return_kinded line Void (Some value) t e =
      let bad : Operand → Result Terminator TypeFault = λ v. Err (breaks 202 line) in
      absurd (err_not_ok _ t (then_ok bad (operand_of scope line Bits64 value) t e).2)

  end_kinded : (line : ℕ) (written : TerminatorText) (t : Terminator) → terminator_of scope line function.result_type written ≡ Ok t → IsKindedEnd registers t
  end_kinded line (ending.Jump target) t e = let made = made_ok _ _ t e in let P : Terminator → Type 0 = λ x. IsKindedEnd registers x in subst P made.2 tt
  end_kinded line (ending.Branch condition x y) t e =
      let made = made_ok _ _ t e in
      let P : Terminator → Type 0 = λ x. IsKindedEnd registers x in
      subst P made.2 (tested is_truth kind.Truth truth_kind line condition made.0.0 (both_ok _ _ made.0 made.1).0)
  end_kinded line (ending.Switch width value default cases) t e =
      let made = made_ok _ _ t e in
      let P : Terminator → Type 0 = λ x. IsKindedEnd registers x in
      subst P made.2 (number line width value made.0.0 (both_ok _ _ made.0 made.1).0)
  end_kinded line (ending.Return value) t e = return_kinded line function.result_type value t e
  end_kinded line (ending.Detach region body continuation) t e =
      let made = made_ok _ _ t e in
      let P : Terminator → Type 0 = λ x. IsKindedEnd registers x in
      subst P made.2 (tested is_region kind.Region region_kind line region made.0.0 (both_ok _ _ made.0 made.1).0)
  end_kinded line (ending.Reattach region continuation) t e =
      let made = made_ok _ _ t e in
      let P : Terminator → Type 0 = λ x. IsKindedEnd registers x in
      subst P made.2 (tested is_region kind.Region region_kind line region made.0.0 (both_ok _ _ made.0 made.1).0)
  end_kinded line (ending.Sync region target) t e =
      let made = made_ok _ _ t e in
      let P : Terminator → Type 0 = λ x. IsKindedEnd registers x in
      subst P made.2 (tested is_region kind.Region region_kind line region made.0.0 (both_ok _ _ made.0 made.1).0)

  -- ---- phis

  entry_kinded : (line : ℕ) (width : Width) (written : PhiEntryText) (one : PhiEntry) → entry_of scope line width written ≡ Ok one → IsNumber registers width one.value
  entry_kinded line width written one e =
      let made = made_ok _ _ one e in
      let P : PhiEntry → Type 0 = λ x. IsNumber registers width x.value in
      subst P made.2 (number line width written.value made.0.0 (both_ok _ _ made.0 made.1).0)

  phi_kinded : (written : PhiText) (phi : Phi) → ((register : Register) → look_up scope written.register ≡ Some (named_as.Register register) → kind_of register.holding ≡ kind.Number written.width) → phi_of scope written ≡ Ok phi → IsKindedPhi registers phi
  phi_kinded written phi gives e =
      let made = made_ok _ _ phi e in
      let parts = both_ok _ _ made.0 made.1 in
      let P : Phi → Type 0 = λ x. IsKindedPhi registers x in
      let found = made_ok (λ (register : Register). register.id) (register_of scope written.line written.register) made.0.0 parts.0 in
      let is = register_found scope written.line written.register found.0 found.1 in
      let Q : RegisterId → Type 0 = λ x. IsOfKind registers x.0 (kind.Number written.width) in
      subst P made.2 (record {
        register = subst Q found.2 ((register_kind function written.register found.0 is).has ∙ ap (λ (x : RegisterKind). Some x) (gives found.0 is));
        entries = all_each (λ (x : PhiEntry). IsNumber registers written.width x.value) made.0.1 (λ i one at.
            let each = all_at (λ _. entry_of scope written.line written.width) written.entries made.0.1 i one parts.1 at in
            entry_kinded written.line written.width each.0 one each.2);
      })

-- ---- of a program

module _ (whole : Module) (kept : IsKeptModule whole) (program : Program) (m : Means whole (Ok program)) where
  steps_kinded : (f b i : ℕ) (what : Instruction) (function : Function) → item_at program f b i ≡ Some (Does what) → slice_get program.functions f ≡ Some function → IsKinded function.registers what
  steps_kinded f b i what function e at =
      let s = stands program f b i (Does what) e in
      let one = step_there s.block.steps s.block.ending i what s.item in
      let outer = function_from whole program m f s.function s.is.at_function in
      let from = block_from whole m.0 f b s.function s.block outer s.is.at_block in
      let step = step_from whole m.0 f b s.function s.block outer from i one.0 one.1 in
      let kept_text = kept_function whole kept f outer.text outer.at_text in
      let given : (line : ℕ) (name : List ℕ) (d : RegisterId) → defined_name step.text.instruction ≡ Some name → defined_of (layout_of outer.text).scope line name ≡ Ok d → (k : RegisterKind) × GivesKind step.text.instruction k × IsOfKind (layout_of outer.text).registers d.0 k =
      λ line name d defines found.
      (let made = made_ok (λ (register : Register). register.id) (register_of (layout_of outer.text).scope line name) d found in
      let known = register_kind outer.text name made.0 (register_found (layout_of outer.text).scope line name made.0 made.1) in
      let Q : RegisterId → Type 0 = λ x. IsOfKind (layout_of outer.text).registers x.0 (kind_of made.0.holding) in (
        kind_of made.0.holding,
        step_gives outer.text kept_text b i from.text name (kind_of made.0.holding) made.0.origin from.at_text (record { step = step.text; at = step.at_text; is = defines }) known.from,
        subst Q made.2 known.has,
      )) in
      let right : IsKinded (layout_of outer.text).registers one.0.instruction = kinded outer.text (items_of whole) whole.functions m.0 f b step.text.line step.text.instruction one.0.instruction given step.is in
      let P : Instruction → Type 0 = λ x. IsKinded (layout_of outer.text).registers x in
      let Q : List RegisterKind → Type 0 = λ l. IsKinded l what in
      let same : s.function ≡ function = one_result (slice_get program.functions f) s.function function s.is.at_function at in
      subst Q (outer.is.registers_are ∙ ap (λ (x : Function). x.registers) same) (subst P one.2 right)

  ends_kinded : (f b i : ℕ) (t : Terminator) (function : Function) → item_at program f b i ≡ Some (Ends t) → slice_get program.functions f ≡ Some function → IsKindedEnd function.registers t
  ends_kinded f b i t function e at =
      let s = stands program f b i (Ends t) e in
      let last = end_there s.block.steps s.block.ending i t s.item in
      let outer = function_from whole program m f s.function s.is.at_function in
      let from = block_from whole m.0 f b s.function s.block outer s.is.at_block in
      let end = ending_from whole m.0 f b s.function s.block outer from last.0 last.1 in
      let right = end_kinded outer.text end.text.line end.text.terminator last.0.terminator end.is in
      let P : Terminator → Type 0 = λ x. IsKindedEnd (layout_of outer.text).registers x in
      let Q : List RegisterKind → Type 0 = λ l. IsKindedEnd l t in
      let same : s.function ≡ function = one_result (slice_get program.functions f) s.function function s.is.at_function at in
      subst Q (outer.is.registers_are ∙ ap (λ (x : Function). x.registers) same) (subst P last.2 right)

  phis_kinded : (f b i : ℕ) (function : Function) (block : Block) (phi : Phi) → slice_get program.functions f ≡ Some function → slice_get function.blocks b ≡ Some block → slice_get block.phis i ≡ Some phi → IsKindedPhi function.registers phi
  phis_kinded f b i function block phi at at_block at_phi =
      let outer = function_from whole program m f function at in
      let from = block_from whole m.0 f b function block outer at_block in
      let found = phi_from whole m.0 f b function block outer from i phi at_phi in
      let kept_text = kept_function whole kept f outer.text outer.at_text in
      let names : PhiNames from.text i found.0.register = record { phi = found.0; at = found.1; is = refl } in
      let right = phi_kinded outer.text found.0 phi
      (λ register is. phi_gives outer.text kept_text b i from.text found.0.register (kind_of register.holding) register.origin from.at_text names (register_kind outer.text found.0.register register is).from) found.2 in
      let Q : List RegisterKind → Type 0 = λ l. IsKindedPhi l phi in
      subst Q outer.is.registers_are right

pub kinds_are_right : KindsAreRight
kinds_are_right whole program kept m = record {
  parameters = parameters_kinded whole program m;
  passes = arguments_passed whole program m;
  steps = steps_kinded whole kept program m;
  ends = ends_kinded whole kept program m;
  phis = phis_kinded whole kept program m;
}
