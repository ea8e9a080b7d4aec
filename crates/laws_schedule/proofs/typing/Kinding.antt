-- Each register has the kind that its definition gives it, and comes from the definition of its name.
use Rattle.std.proofs.Common.{◌≡◌, ℕ, suc, ◌+◌, List, [], ◌∷◌, ◌++◌, length, Option, Some, None, refl, sym, ap, ◌∙◌, subst, arith}
use Rattle.std.specs.Prelude.{slice_get}
use Rattle.program.specs.declared.function.RegisterKind.{RegisterKind}
use Rattle.program.specs.declared.function.RegisterKind.TheVariants as kind
use Rattle.program.specs.declared.identifier.ObjectName.TheVariants as object
use Rattle.syntax.specs.declared.instruction.Instruction.{Instruction as InstructionText}
use Rattle.syntax.specs.declared.instruction.Instruction.TheVariants as text
use Rattle.syntax.specs.declared.instruction.Phi.{Phi as PhiText}
use Rattle.syntax.specs.declared.instruction.Step.{Step as StepText}
use Rattle.syntax.specs.declared.module.Block.{Block as BlockText}
use Rattle.syntax.specs.declared.module.Function.{Function as FunctionText}
use Rattle.syntax.specs.declared.module.Parameter.{Parameter as ParameterText}
use Rattle.syntax.specs.declared.module.Parameter.TheVariants as parameter
use Rattle.syntax.specs.declared.operator.Width.TheVariants.{Bits64}
use Rattle.ir_reader.specs.Kept.{IsKeptFunction}
use Rattle.types.specs.declared.names.layout.Layout.{Layout}
use Rattle.types.specs.declared.names.scope.Holding.{Holding}
use Rattle.types.specs.declared.names.scope.Holding.TheVariants as holding
use Rattle.types.specs.declared.names.scope.Named.{Named}
use Rattle.types.specs.declared.names.scope.Named.TheVariants as named
use Rattle.types.specs.declared.names.scope.Origin.{Origin}
use Rattle.types.specs.declared.names.scope.Origin.TheVariants as origin
use Rattle.types.specs.declared.names.scope.Register.{Register}
use Rattle.syntax.specs.Cells.{size_cells}
use Rattle.types.specs.names.Layout.{kind_of, with_register, with_parameter, with_phi, with_call, with_instruction, with_step, with_phis, with_steps, with_block, with_parameters, with_blocks, with_label, with_labels, no_layout, layout_of, target_width}
use Rattle.types.specs.names.Table.{look_up}
use Rattle.types.specs.Definitions.{parameter_name, IsParameterName, defined_name}
use Rattle.types.proofs.Scopes.{Entries, entries_with}
use Rattle.laws_schedule.proofs.typing.Lists.{in_first, at_last}
use Rattle.laws_schedule.proofs.typing.Scoping.{entries_weaker, named_found, StepIs}
use Rattle.laws_schedule.proofs.typing.Once.{PhiNames, StepNames, phi_anew, step_anew, steps_apart, phis_apart, phi_and_step_apart}
use Rattle.semantics.proofs.Confluence.{one_result}

-- the kind of the register that the instruction defines
abbrev pub GivesKind : InstructionText → RegisterKind → Type 0
GivesKind (text.Binary register operator width left right) k = k ≡ kind.Number width
GivesKind (text.Compare register predicate width left right) k = k ≡ kind.Truth
GivesKind (text.Convert register conversion value) k = k ≡ kind.Number (target_width conversion)
GivesKind (text.Alloca register size) k = k ≡ kind.Object
GivesKind (text.ElementPointer register base index) k = k ≡ kind.Element
GivesKind (text.Load register address) k = k ≡ kind.Number Bits64
GivesKind (text.Store value address) k = Unit {0}
GivesKind (text.StoreZeros cells address) k = Unit {0}
GivesKind (text.AtomicAdd address value) k = Unit {0}
GivesKind (text.Call register callee arguments) k = k ≡ kind.Number Bits64
GivesKind (text.StartRegion register) k = k ≡ kind.Region

pub record PhiKind (function : FunctionText) (name : List ℕ) (k : RegisterKind) : Type 0 where
  pub place : ℕ
  pub number : ℕ
  pub block : BlockText
  pub at_block : slice_get function.blocks place ≡ Some block
  pub names : PhiNames block number name
  pub gives : k ≡ kind.Number names.phi.width

pub record StepKind (function : FunctionText) (place : ℕ) (name : List ℕ) (k : RegisterKind) : Type 0 where
  pub number : ℕ
  pub block : BlockText
  pub at_block : slice_get function.blocks place ≡ Some block
  pub names : StepNames block number name
  pub gives : GivesKind names.step.instruction k

abbrev pub ComesFrom : FunctionText → List ℕ → RegisterKind → Origin → Type 0
ComesFrom function name k origin.Parameter = IsParameterName function.parameters name
ComesFrom function name k origin.Phi = PhiKind function name k
ComesFrom function name k (origin.Step b) = StepKind function b name k

pub record IsRegisterKinded (function : FunctionText) (registers : List RegisterKind) (name : List ℕ) (register : Register) : Type 0 where
  pub has : slice_get registers register.id.0 ≡ Some (kind_of register.holding)
  pub from : ComesFrom function name (kind_of register.holding) register.origin

abbrev pub IsKinded : FunctionText → List RegisterKind → List ℕ → Named → Type 0
IsKinded function registers name (named.Label block) = Unit {0}
IsKinded function registers name (named.Register register) = IsRegisterKinded function registers name register

module _ (function : FunctionText) where
  abbrev Kinds : Layout → Type 0
  Kinds layout = Entries (IsKinded function layout.registers) layout.scope

  kinded_kept : (registers : List RegisterKind) (k : RegisterKind) (name : List ℕ) (meaning : Named) → IsKinded function registers name meaning → IsKinded function (registers ++ k ∷ []) name meaning
  kinded_kept registers k name (named.Label block) h = tt
  kinded_kept registers k name (named.Register register) h = record { has = in_first registers (k ∷ []) register.id.0 (kind_of register.holding) h.has; from = h.from }

  kinds_register : (layout : Layout) (name : List ℕ) (held : Holding) (from : Origin) → ComesFrom function name (kind_of held) from → Kinds layout → Kinds (with_register layout name held from)
  kinds_register layout name held from comes h =
      let new : Register = record { id = record { 0 = length layout.registers }; holding = held; origin = from } in
      entries_with (IsKinded function (layout.registers ++ kind_of held ∷ [])) layout.scope name (named.Register new)
      (entries_weaker (IsKinded function layout.registers) (IsKinded function (layout.registers ++ kind_of held ∷ [])) layout.scope (kinded_kept layout.registers (kind_of held)) h)
      (record { has = at_last layout.registers (kind_of held); from = comes })

  step_kind : (b s : ℕ) (step : StepText) (what : InstructionText) (name : List ℕ) (k : RegisterKind) → StepIs function b s step → step.instruction ≡ what → defined_name what ≡ Some name → GivesKind what k → StepKind function b name k
  step_kind b s step what name k at is defines gives =
      let P : InstructionText → Type 0 = λ x. GivesKind x k in
      record { number = s; block = at.block; at_block = at.at_block; names = record { step = step; at = at.at_step; is = ap defined_name is ∙ defines }; gives = subst P (sym is) gives }

  kinds_call : (layout : Layout) (b s : ℕ) (step : StepText) (register : Option (List ℕ)) (callee : List ℕ) (arguments : _) → StepIs function b s step → step.instruction ≡ text.Call register callee arguments → Kinds layout → Kinds (with_call layout register (origin.Step b))
  kinds_call layout b s step None callee arguments at is h = h
  kinds_call layout b s step (Some name) callee arguments at is h =
      kinds_register layout name (holding.Number Bits64) (origin.Step b) (step_kind b s step (text.Call (Some name) callee arguments) name (kind.Number Bits64) at is refl refl) h

  kinds_instruction : (layout : Layout) (b s : ℕ) (step : StepText) (what : InstructionText) → StepIs function b s step → step.instruction ≡ what → Kinds layout → Kinds (with_instruction layout step.line (origin.Step b) what)
  kinds_instruction layout b s step (text.Binary register operator width left right) at is h =
      kinds_register layout register (holding.Number width) (origin.Step b) (step_kind b s step (text.Binary register operator width left right) register (kind.Number width) at is refl refl) h
  kinds_instruction layout b s step (text.Compare register predicate width left right) at is h =
      kinds_register layout register holding.Truth (origin.Step b) (step_kind b s step (text.Compare register predicate width left right) register kind.Truth at is refl refl) h
  kinds_instruction layout b s step (text.Convert register conversion value) at is h =
      kinds_register layout register (holding.Number (target_width conversion)) (origin.Step b) (step_kind b s step (text.Convert register conversion value) register (kind.Number (target_width conversion)) at is refl refl) h
  kinds_instruction layout b s step (text.Alloca register size) at is h =
      kinds_register layout register (holding.Object (object.Alloca (record { 0 = length layout.allocas })) (size_cells size)) (origin.Step b) (step_kind b s step (text.Alloca register size) register kind.Object at is refl refl) h
  kinds_instruction layout b s step (text.ElementPointer register base index) at is h =
      kinds_register layout register holding.Element (origin.Step b) (step_kind b s step (text.ElementPointer register base index) register kind.Element at is refl refl) h
  kinds_instruction layout b s step (text.Load register address) at is h =
      kinds_register layout register (holding.Number Bits64) (origin.Step b) (step_kind b s step (text.Load register address) register (kind.Number Bits64) at is refl refl) h
  kinds_instruction layout b s step (text.Store value address) at is h = h
  kinds_instruction layout b s step (text.StoreZeros cells address) at is h = h
  kinds_instruction layout b s step (text.AtomicAdd address value) at is h = h
  kinds_instruction layout b s step (text.Call register callee arguments) at is h = kinds_call layout b s step register callee arguments at is h
  kinds_instruction layout b s step (text.StartRegion register) at is h =
      kinds_register layout register holding.Region (origin.Step b) (step_kind b s step (text.StartRegion register) register kind.Region at is refl refl) h

  kinds_phis : (b i : ℕ) (block : BlockText) → slice_get function.blocks b ≡ Some block → (phis : List PhiText) (layout : Layout) → ((j : ℕ) (phi : PhiText) → slice_get phis j ≡ Some phi → slice_get block.phis (i + j) ≡ Some phi) → Kinds layout → Kinds (with_phis layout phis)
  kinds_phis b i block at [] layout rest h = h
  kinds_phis b i block at (phi ∷ phis) layout rest h =
      let here : slice_get block.phis i ≡ Some phi = ap (λ k. slice_get block.phis k) (omega arith) ∙ rest 0 phi refl in
      kinds_phis b (i + 1) block at phis (with_phi layout phi) (λ j other e. ap (λ k. slice_get block.phis k) (omega arith) ∙ rest (suc j) other e)
      (kinds_register layout phi.register (holding.Number phi.width) origin.Phi (record { place = b; number = i; block = block; at_block = at; names = record { phi = phi; at = here; is = refl }; gives = refl }) h)

  kinds_steps : (b s : ℕ) (block : BlockText) → slice_get function.blocks b ≡ Some block → (steps : List StepText) (layout : Layout) → ((j : ℕ) (step : StepText) → slice_get steps j ≡ Some step → slice_get block.steps (s + j) ≡ Some step) → Kinds layout → Kinds (with_steps b layout steps)
  kinds_steps b s block at [] layout rest h = h
  kinds_steps b s block at (step ∷ steps) layout rest h =
      let here : slice_get block.steps s ≡ Some step = ap (λ k. slice_get block.steps k) (omega arith) ∙ rest 0 step refl in
      kinds_steps b (s + 1) block at steps (with_step b layout step) (λ j other e. ap (λ k. slice_get block.steps k) (omega arith) ∙ rest (suc j) other e)
      (kinds_instruction layout b s step step.instruction (record { block = block; at_block = at; at_step = here }) refl h)

  kinds_blocks : (place : ℕ) (blocks : List BlockText) (layout : Layout) → ((j : ℕ) (block : BlockText) → slice_get blocks j ≡ Some block → slice_get function.blocks (place + j) ≡ Some block) → Kinds layout → Kinds (with_blocks place layout blocks)
  kinds_blocks place [] layout rest h = h
  kinds_blocks place (block ∷ blocks) layout rest h =
      let here : slice_get function.blocks place ≡ Some block = ap (λ k. slice_get function.blocks k) (omega arith) ∙ rest 0 block refl in
      kinds_blocks (place + 1) blocks (with_block place layout block) (λ j other e. ap (λ k. slice_get function.blocks k) (omega arith) ∙ rest (suc j) other e)
      (kinds_steps place 0 block here block.steps (with_phis layout block.phis) (λ j step e. ap (λ k. slice_get block.steps k) (omega arith) ∙ e)
      (kinds_phis place 0 block here block.phis layout (λ j phi e. ap (λ k. slice_get block.phis k) (omega arith) ∙ e) h))

  kinds_labels : (place : ℕ) (blocks : List BlockText) (layout : Layout) → Kinds layout → Kinds (with_labels place layout blocks)
  kinds_labels place [] layout h = h
  kinds_labels place (block ∷ blocks) layout h =
      kinds_labels (place + 1) blocks (with_label place layout block) (entries_with (IsKinded function layout.registers) layout.scope block.label (named.Label (record { 0 = place })) h tt)

  kinds_parameter : (layout : Layout) (one : ParameterText) → IsParameterName function.parameters (parameter_name one) → Kinds layout → Kinds (with_parameter layout one)
  kinds_parameter layout (parameter.Number name) is h = kinds_register layout name (holding.Number Bits64) origin.Parameter is h
  kinds_parameter layout (parameter.Pointer name cells) is h = kinds_register layout name (holding.Object (object.Parameter (record { 0 = length layout.registers })) cells) origin.Parameter is h

  kinds_parameters : (parameters : List ParameterText) (layout : Layout) → ((i : ℕ) (one : ParameterText) → slice_get parameters i ≡ Some one → IsParameterName function.parameters (parameter_name one)) → Kinds layout → Kinds (with_parameters layout parameters)
  kinds_parameters [] layout each h = h
  kinds_parameters (one ∷ parameters) layout each h = kinds_parameters parameters (with_parameter layout one) (λ i other e. each (suc i) other e) (kinds_parameter layout one (each 0 one refl) h)

  pub layout_kinds : Kinds (layout_of function)
  layout_kinds =
      kinds_labels 0 function.blocks (with_blocks 0 (with_parameters no_layout function.parameters) function.blocks)
      (kinds_blocks 0 function.blocks (with_parameters no_layout function.parameters) (λ j block e. ap (λ k. slice_get function.blocks k) (omega arith) ∙ e)
      (kinds_parameters function.parameters no_layout (λ i one e. (i, one, e, refl)) tt))

  pub register_kind : (name : List ℕ) (register : Register) → look_up (layout_of function).scope name ≡ Some (named.Register register) → IsRegisterKinded function (layout_of function).registers name register
  register_kind name register found = named_found (IsKinded function (layout_of function).registers) (layout_of function).scope name (named.Register register) layout_kinds found

  -- ---- where no name is defined twice, the kind is that of the definition

  module _ (kept : IsKeptFunction function) where
    one_step : (b i j : ℕ) (x y : BlockText) (name : List ℕ) (first : StepNames x i name) (second : StepNames y j name) → slice_get function.blocks b ≡ Some x → slice_get function.blocks b ≡ Some y → i ≡ j → first.step ≡ second.step
    one_step b i j x y name first second at_x at_y same =
        let one : x ≡ y = one_result (slice_get function.blocks b) x y at_x at_y in
        one_result (slice_get y.steps j) first.step second.step (ap (λ (z : BlockText). slice_get z.steps j) (sym one) ∙ ap (λ k. slice_get x.steps k) (sym same) ∙ first.at) second.at

    one_phi : (b i j : ℕ) (x y : BlockText) (name : List ℕ) (first : PhiNames x i name) (second : PhiNames y j name) → slice_get function.blocks b ≡ Some x → slice_get function.blocks b ≡ Some y → i ≡ j → first.phi ≡ second.phi
    one_phi b i j x y name first second at_x at_y same =
        let one : x ≡ y = one_result (slice_get function.blocks b) x y at_x at_y in
        one_result (slice_get y.phis j) first.phi second.phi (ap (λ (z : BlockText). slice_get z.phis j) (sym one) ∙ ap (λ k. slice_get x.phis k) (sym same) ∙ first.at) second.at

    pub step_gives : (b s : ℕ) (block : BlockText) (name : List ℕ) (k : RegisterKind) (from : Origin) → slice_get function.blocks b ≡ Some block → (names : StepNames block s name) → ComesFrom function name k from → GivesKind names.step.instruction k
    step_gives b s block name k origin.Parameter at names comes = absurd (step_anew function kept b s block name at names comes)
    step_gives b s block name k origin.Phi at names comes = absurd (phi_and_step_apart function kept comes.place b comes.number s comes.block block name comes.at_block at comes.names names)
    step_gives b s block name k (origin.Step c) at names comes =
        let same = steps_apart function kept c b comes.number s comes.block block name comes.at_block at comes.names names in
        let there : slice_get function.blocks c ≡ Some block = ap (λ n. slice_get function.blocks n) same.0 ∙ at in
        let one : comes.names.step ≡ names.step = one_step c comes.number s comes.block block name comes.names names comes.at_block there same.1 in
        let P : StepText → Type 0 = λ x. GivesKind x.instruction k in
        subst P one comes.gives

    pub phi_gives : (b i : ℕ) (block : BlockText) (name : List ℕ) (k : RegisterKind) (from : Origin) → slice_get function.blocks b ≡ Some block → (names : PhiNames block i name) → ComesFrom function name k from → k ≡ kind.Number names.phi.width
    phi_gives b i block name k origin.Parameter at names comes = absurd (phi_anew function kept b i block name at names comes)
    phi_gives b i block name k (origin.Step c) at names comes = absurd (phi_and_step_apart function kept b c i comes.number block comes.block name at comes.at_block names comes.names)
    phi_gives b i block name k origin.Phi at names comes =
        let same = phis_apart function kept comes.place b comes.number i comes.block block name comes.at_block at comes.names names in
        let there : slice_get function.blocks comes.place ≡ Some block = ap (λ n. slice_get function.blocks n) same.0 ∙ at in
        let one : comes.names.phi ≡ names.phi = one_phi comes.place comes.number i comes.block block name comes.names names comes.at_block there same.1 in
        let P : PhiText → Type 0 = λ x. k ≡ kind.Number x.width in
        subst P one comes.gives
