-- In a module that is read each object has a cell.
use Rattle.std.proofs.Common.{◌≡◌, inl, inr, ℕ, zero, suc, ◌+◌, ◌<◌, Bool, true, List, [], ◌∷◌, ◌++◌, length, Option, Some, None, sym, ap, ◌∙◌, subst, arith}
use Rattle.std.specs.Prelude.{slice_get, nat_lt, ◌==◌}
use Rattle.std.specs.List.{All, list_all}
use Rattle.std.proofs.lemmas.Bool.{and_parts}
use Rattle.std.proofs.lemmas.Bool.Decides.{nat_tests}
use Rattle.std.proofs.lemmas.List.Elements.{All-contains, All-head, All-tail}
use Rattle.program.specs.declared.function.Alloca.{Alloca}
use Rattle.program.specs.declared.identifier.ObjectName.{ObjectName}
use Rattle.program.specs.declared.identifier.ObjectName.TheVariants as object
use Rattle.syntax.specs.declared.instruction.AllocaSize.{AllocaSize}
use Rattle.syntax.specs.declared.instruction.AllocaSize.TheVariants.{One, Array}
use Rattle.syntax.specs.declared.instruction.Instruction.{Instruction as InstructionText}
use Rattle.syntax.specs.declared.instruction.Instruction.TheVariants as text
use Rattle.syntax.specs.declared.instruction.Phi.{Phi as PhiText}
use Rattle.syntax.specs.declared.instruction.Step.{Step as StepText}
use Rattle.syntax.specs.declared.module.Block.{Block as BlockText}
use Rattle.syntax.specs.declared.module.Function.{Function as FunctionText}
use Rattle.syntax.specs.declared.module.Module.{Module}
use Rattle.syntax.specs.declared.module.Parameter.{Parameter as ParameterText}
use Rattle.syntax.specs.declared.module.Parameter.TheVariants as parameter
use Rattle.ir_instruction.specs.Fits.{has_cells, instruction_fits}
use Rattle.ir_reader.specs.Kept.{IsStepWritten, IsBlockWritten, IsGlobalWritten, IsKeptFunction, IsKeptModule}
use Rattle.types.specs.declared.names.layout.Layout.{Layout}
use Rattle.types.specs.declared.names.scope.Origin.{Origin}
use Rattle.types.specs.declared.names.scope.Origin.TheVariants as origin
use Rattle.syntax.specs.Cells.{size_cells}
use Rattle.types.specs.names.Layout.{with_parameter, with_phi, with_call, with_instruction, with_step, with_phis, with_steps, with_block, with_parameters, with_blocks, with_label, with_labels, no_layout, layout_of}
use Rattle.laws_phases.proofs.defined.Lists.{at_within}
use Rattle.laws_schedule.proofs.typing.Lists.{at_push}
use Rattle.laws_schedule.proofs.typing.Objects.{IsObject}

above_zero : (n : ℕ) → nat_lt 0 n ≡ true → 0 < n
above_zero n h = grind (arith, nat_tests)

-- ---- allocas

abbrev ArePositive : List Alloca → Type 0
ArePositive allocas = (a : ℕ) (one : Alloca) → slice_get allocas a ≡ Some one → 0 < one.cells

positive_push : (allocas : List Alloca) (new : Alloca) → ArePositive allocas → 0 < new.cells → ArePositive (allocas ++ new ∷ [])
positive_push allocas new h l a one e = elim (at_push allocas new a one e) [
  | inl old ↦ h a one old
  | inr same ↦ (let P : Alloca → Type 0 = λ x. 0 < x.cells in subst P same l)
]

size_positive : (name : List ℕ) (size : AllocaSize) → instruction_fits (text.Alloca name size) ≡ true → 0 < size_cells size
size_positive name One h = omega arith
size_positive name (Array n) h = above_zero n h

positive_call : (layout : Layout) (name : Option (List ℕ)) (from : Origin) → ArePositive layout.allocas → ArePositive (with_call layout name from).allocas
positive_call layout None from h = h
positive_call layout (Some name) from h = h

positive_instruction : (layout : Layout) (line : ℕ) (from : Origin) (what : InstructionText) → instruction_fits what ≡ true → ArePositive layout.allocas → ArePositive (with_instruction layout line from what).allocas
positive_instruction layout line from (text.Binary register operator width left right) fits h = h
positive_instruction layout line from (text.Compare register predicate width left right) fits h = h
positive_instruction layout line from (text.Convert register conversion value) fits h = h
positive_instruction layout line from (text.Alloca register size) fits h =
    positive_push layout.allocas (record { line = line; register = record { 0 = length layout.registers }; cells = size_cells size }) h (size_positive register size fits)
positive_instruction layout line from (text.ElementPointer register base index) fits h = h
positive_instruction layout line from (text.Load register address) fits h = h
positive_instruction layout line from (text.Store value address) fits h = h
positive_instruction layout line from (text.StoreZeros cells address) fits h = h
positive_instruction layout line from (text.AtomicAdd address value) fits h = h
positive_instruction layout line from (text.Call register callee arguments) fits h = positive_call layout register from h
positive_instruction layout line from (text.StartRegion register) fits h = h

positive_phis : (phis : List PhiText) (layout : Layout) → ArePositive layout.allocas → ArePositive (with_phis layout phis).allocas
positive_phis [] layout h = h
positive_phis (phi ∷ phis) layout h = positive_phis phis (with_phi layout phi) h

positive_steps : (b : ℕ) (steps : List StepText) (layout : Layout) → All IsStepWritten steps → ArePositive layout.allocas → ArePositive (with_steps b layout steps).allocas
positive_steps b [] layout written h = h
positive_steps b (step ∷ steps) layout written h =
    let one : IsStepWritten step = All-head IsStepWritten step steps written in
    positive_steps b steps (with_step b layout step) (All-tail IsStepWritten step steps written) (positive_instruction layout step.line (origin.Step b) step.instruction one.instruction.fits h)

positive_blocks : (place : ℕ) (blocks : List BlockText) (layout : Layout) → All IsBlockWritten blocks → ArePositive layout.allocas → ArePositive (with_blocks place layout blocks).allocas
positive_blocks place [] layout written h = h
positive_blocks place (block ∷ blocks) layout written h =
    let one : IsBlockWritten block = All-head IsBlockWritten block blocks written in
    positive_blocks (place + 1) blocks (with_block place layout block) (All-tail IsBlockWritten block blocks written)
    (positive_steps place block.steps (with_phis layout block.phis) one.steps (positive_phis block.phis layout h))

positive_labels : (place : ℕ) (blocks : List BlockText) (layout : Layout) → ArePositive layout.allocas → ArePositive (with_labels place layout blocks).allocas
positive_labels place [] layout h = h
positive_labels place (block ∷ blocks) layout h = positive_labels (place + 1) blocks (with_label place layout block) h

positive_parameter : (layout : Layout) (one : ParameterText) → ArePositive layout.allocas → ArePositive (with_parameter layout one).allocas
positive_parameter layout (parameter.Number name) h = h
positive_parameter layout (parameter.Pointer name cells) h = h

positive_parameters : (parameters : List ParameterText) (layout : Layout) → ArePositive layout.allocas → ArePositive (with_parameters layout parameters).allocas
positive_parameters [] layout h = h
positive_parameters (one ∷ parameters) layout h = positive_parameters parameters (with_parameter layout one) (positive_parameter layout one h)

allocas_positive : (function : FunctionText) → IsKeptFunction function → ArePositive (layout_of function).allocas
allocas_positive function kept =
    positive_labels 0 function.blocks (with_blocks 0 (with_parameters no_layout function.parameters) function.blocks)
    (positive_blocks 0 function.blocks (with_parameters no_layout function.parameters) kept.written.blocks (positive_parameters function.parameters no_layout (λ a one e. absurd (cc))))

-- ---- parameters and globals

test_at : {A : Type 0} (test : A → Bool) (xs : List A) (i : ℕ) (x : A) → list_all test xs ≡ true → slice_get xs i ≡ Some x → test x ≡ true
test_at test [] i x h e = absurd (cc)
test_at test (y ∷ xs) zero x h e = let same : y ≡ x = cc in ap test (sym same) ∙ (and_parts (test y) (list_all test xs) h).0
test_at test (y ∷ xs) (suc i) x h e = test_at test xs i x (and_parts (test y) (list_all test xs) h).1 e

module _ (whole : Module) (kept : IsKeptModule whole) (function : FunctionText) (written : IsKeptFunction function) where
  -- an object that a name stands for has a cell
  pub object_positive : (name : ObjectName) (cells : ℕ) → IsObject whole function name cells → 0 < cells
  object_positive (object.Global id) cells (one, is, same) =
      let fits : IsGlobalWritten one = All-contains IsGlobalWritten whole.globals one kept.globals (at_within whole.globals id.0 one is) in
      let l : 0 < one.cells = above_zero one.cells (and_parts (0 == 0) (nat_lt 0 one.cells) fits.fits).1 in
      omega arith
  object_positive (object.Alloca id) cells (one, is, same) = let l : 0 < one.cells = allocas_positive function written id.0 one is in omega arith
  object_positive (object.Parameter id) cells (name, is) = above_zero cells (test_at has_cells function.parameters id.0 (parameter.Pointer name cells) written.written.head.fits is)
