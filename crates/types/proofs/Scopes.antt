-- What the registers of a function hold: no register holds a global, and a pointer parameter is one of the first registers.
use Rattle.std.proofs.Common.{◌≡◌, ℕ, suc, ◌+◌, ◌<◌, ◌≤◌, List, [], ◌∷◌, ◌++◌, length, Option, Some, None, Bool, true, false, is_some, refl, ap, ◌∙◌, subst, arith, Ok}
use Rattle.std.specs.Prelude.{if◌then◌else◌, slice_get}
use Rattle.std.specs.Str.{bytes_eq}
use Rattle.std.proofs.lemmas.List.{length_push}
use Rattle.program.specs.declared.identifier.ObjectName.{ObjectName}
use Rattle.program.specs.declared.identifier.ObjectName.TheVariants as object
use Rattle.syntax.specs.Cells.{size_cells}
use Rattle.syntax.specs.declared.instruction.Instruction.{Instruction as InstructionText}
use Rattle.syntax.specs.declared.instruction.Instruction.TheVariants as text
use Rattle.syntax.specs.declared.instruction.Phi.{Phi as PhiText}
use Rattle.syntax.specs.declared.instruction.Step.{Step as StepText}
use Rattle.syntax.specs.declared.module.Block.{Block as BlockText}
use Rattle.syntax.specs.declared.module.Function.{Function as FunctionText}
use Rattle.syntax.specs.declared.module.Parameter.{Parameter as ParameterText}
use Rattle.syntax.specs.declared.module.Parameter.TheVariants as parameter
use Rattle.types.specs.declared.names.layout.Layout.{Layout}
use Rattle.types.specs.declared.names.scope.Holding.{Holding}
use Rattle.types.specs.declared.names.scope.Holding.TheVariants as holding
use Rattle.types.specs.declared.names.scope.Named.{Named}
use Rattle.types.specs.declared.names.scope.Named.TheVariants as named
use Rattle.types.specs.declared.names.scope.Origin.{Origin}
use Rattle.types.specs.declared.names.scope.Origin.TheVariants as origin
use Rattle.types.specs.declared.names.scope.Register.{Register}
use Rattle.types.specs.Definitions.{parameter_name, IsParameterName}
use Rattle.types.specs.names.Layout.{with_register, with_parameter, with_phi, with_alloca, with_call, with_instruction, with_step, with_phis, with_steps, with_block, with_parameters, with_blocks, with_label, with_labels, no_layout, layout_of, target_width}
use Rattle.types.specs.names.Fault.{breaks, unless_of}
use Rattle.types.specs.names.Form.{as_parameter, parameter_of}
use Rattle.types.specs.names.Operand.{as_register, register_of}
use Rattle.types.specs.names.Scope.{Scope, is_parameter}
use Rattle.types.specs.names.Table.{look_up, with_name}
use Rattle.types.proofs.names.Inversion.{made_ok, err_not_ok, same_ok}

-- each entry fits
abbrev pub Entries : {A : Type 0} → (List ℕ → A → Type 0) → List (List ℕ × A) → Type 0
Entries P [] = Unit {0}
Entries P (entry ∷ entries) = P entry.0 entry.1 × Entries P entries

pub entries_push : {A : Type 0} (P : List ℕ → A → Type 0) (entries : List (List ℕ × A)) (name : List ℕ) (meaning : A) → Entries P entries → P name meaning → Entries P (entries ++ (name, meaning) ∷ [])
entries_push P [] name meaning h p = (p, tt)
entries_push P (entry ∷ entries) name meaning h p = (h.0, entries_push P entries name meaning h.1 p)

pub entries_with : {A : Type 0} (P : List ℕ → A → Type 0) (entries : List (List ℕ × A)) (name : List ℕ) (meaning : A) → Entries P entries → P name meaning → Entries P (with_name entries name meaning)
entries_with {A} P entries name meaning h p = from (is_some (look_up entries name))
  where
    from : (b : Bool) → Entries P (if b then entries else entries ++ (name, meaning) ∷ [])
    from true = h
    from false = entries_push P entries name meaning h p

-- what a name stands for is what some entry says of that very name
pub entries_found : {A : Type 0} (P : List ℕ → A → Type 0) (entries : List (List ℕ × A)) (name : List ℕ) (meaning : A) → Entries P entries → look_up entries name ≡ Some meaning →
    (other : List ℕ) × (bytes_eq name other ≡ true) × P other meaning
entries_found P [] name meaning h e = absurd (cc)
entries_found {A} P (entry ∷ entries) name meaning h e = from (bytes_eq name entry.0) refl e (λ k. entries_found P entries name meaning h.1 k)
  where
    from : (b : Bool) → bytes_eq name entry.0 ≡ b → (if b then Some entry.1 else look_up entries name) ≡ Some meaning →
        (look_up entries name ≡ Some meaning → (other : List ℕ) × (bytes_eq name other ≡ true) × P other meaning) → (other : List ℕ) × (bytes_eq name other ≡ true) × P other meaning
    from true is k later = let s : entry.1 ≡ meaning = cc in let Q : A → Type 0 = λ m. P entry.0 m in (entry.0, is, subst Q s h.0)
    from false is k later = later k

-- a known register is what its name stands for
pub register_found : (scope : Scope) (line : ℕ) (name : List ℕ) (register : Register) → register_of scope line name ≡ Ok register → look_up scope name ≡ Some (named.Register register)
register_found scope line name register e = from (look_up scope name) refl e
  where
    from : (o : Option Named) → look_up scope name ≡ o → as_register line o ≡ Ok register → look_up scope name ≡ Some (named.Register register)
    from None is k = absurd (err_not_ok _ register k)
    from (Some (named.Label block)) is k = absurd (err_not_ok _ register k)
    from (Some (named.Register other)) is k = is ∙ ap (λ (r : Register). Some (named.Register r)) (same_ok other register k)

pub parameter_found : (scope : Scope) (line : ℕ) (name : List ℕ) (register : Register) → parameter_of scope line name ≡ Ok register → look_up scope name ≡ Some (named.Register register)
parameter_found scope line name register e = from (look_up scope name) refl e
  where
    from : (o : Option Named) → look_up scope name ≡ o → as_parameter line o ≡ Ok register → look_up scope name ≡ Some (named.Register register)
    from None is k = absurd (err_not_ok _ register k)
    from (Some (named.Label block)) is k = absurd (err_not_ok _ register k)
    from (Some (named.Register other)) is k =
        let made = made_ok (λ (u : Unit {0}). other) (unless_of (is_parameter other.origin) (breaks 201 line)) register k in
        is ∙ ap (λ (r : Register). Some (named.Register r)) made.2

-- ---- the registers of a function of n parameters

-- it is no global, and of a pointer parameter one of the first n registers
abbrev pub IsOwnName : ℕ → ObjectName → Type 0
IsOwnName n (object.Global id) = ⊥
IsOwnName n (object.Alloca id) = Unit {0}
IsOwnName n (object.Parameter id) = id.0 < n

abbrev pub HoldsOwn : ℕ → Holding → Type 0
HoldsOwn n (holding.Number width) = Unit {0}
HoldsOwn n holding.Truth = Unit {0}
HoldsOwn n (holding.Object name cells) = IsOwnName n name
HoldsOwn n holding.Element = Unit {0}
HoldsOwn n holding.Region = Unit {0}

-- of the first n registers are only the parameters
abbrev pub IsNamedRight : ℕ → (List ℕ → Type 0) → List ℕ → Named → Type 0
IsNamedRight n IsParameter name (named.Label block) = Unit {0}
IsNamedRight n IsParameter name (named.Register register) = HoldsOwn n register.holding × (register.id.0 < n → IsParameter name)

module _ (n : ℕ) (IsParameter : List ℕ → Type 0) where
  abbrev Right : Scope → Type 0
  Right = Entries (IsNamedRight n IsParameter)

  -- behind the parameters
  pub record Behind (layout : Layout) : Type 0 where
    pub right : Right layout.scope
    pub past : n ≤ length layout.registers

  behind_register : (layout : Layout) (name : List ℕ) (held : Holding) (from : Origin) → Behind layout → HoldsOwn n held → Behind (with_register layout name held from)
  behind_register layout name held from b h = record {
    right = entries_with (IsNamedRight n IsParameter) layout.scope name (named.Register (record { id = record { 0 = length layout.registers }; holding = held; origin = from })) b.right
        (h, λ l. absurd (let p = b.past in omega arith));
    past = omega (arith, length_push layout.registers, b.past);
  }

  behind_call : (layout : Layout) (name : Option (List ℕ)) (from : Origin) → Behind layout → Behind (with_call layout name from)
  behind_call layout None from b = b
  behind_call layout (Some name) from b = behind_register layout name _ from b tt

  behind_alloca : (layout : Layout) (line : ℕ) (name : List ℕ) (cells : ℕ) (from : Origin) → Behind layout → Behind (with_alloca layout line name cells from)
  behind_alloca layout line name cells from b =
      let made = behind_register layout name (holding.Object (object.Alloca (record { 0 = length layout.allocas })) cells) from b tt in
      record { right = made.right; past = made.past }

  behind_instruction : (layout : Layout) (line : ℕ) (from : Origin) (what : InstructionText) → Behind layout → Behind (with_instruction layout line from what)
  behind_instruction layout line from (text.Binary register operator width left right) b = behind_register layout register (holding.Number width) from b tt
  behind_instruction layout line from (text.Compare register predicate width left right) b = behind_register layout register holding.Truth from b tt
  behind_instruction layout line from (text.Convert register conversion value) b = behind_register layout register (holding.Number (target_width conversion)) from b tt
  behind_instruction layout line from (text.Alloca register size) b = behind_alloca layout line register (size_cells size) from b
  behind_instruction layout line from (text.ElementPointer register base index) b = behind_register layout register holding.Element from b tt
  behind_instruction layout line from (text.Load register address) b = behind_register layout register _ from b tt
  behind_instruction layout line from (text.Store value address) b = b
  behind_instruction layout line from (text.StoreZeros cells address) b = b
  behind_instruction layout line from (text.AtomicAdd address value) b = b
  behind_instruction layout line from (text.Call register callee arguments) b = behind_call layout register from b
  behind_instruction layout line from (text.StartRegion register) b = behind_register layout register holding.Region from b tt

  behind_phis : (phis : List PhiText) (layout : Layout) → Behind layout → Behind (with_phis layout phis)
  behind_phis [] layout b = b
  behind_phis (phi ∷ phis) layout b = behind_phis phis (with_phi layout phi) (behind_register layout phi.register (holding.Number phi.width) origin.Phi b tt)

  behind_steps : (steps : List StepText) (place : ℕ) (layout : Layout) → Behind layout → Behind (with_steps place layout steps)
  behind_steps [] place layout b = b
  behind_steps (step ∷ steps) place layout b = behind_steps steps place (with_step place layout step) (behind_instruction layout step.line (origin.Step place) step.instruction b)

  behind_blocks : (blocks : List BlockText) (place : ℕ) (layout : Layout) → Behind layout → Behind (with_blocks place layout blocks)
  behind_blocks [] place layout b = b
  behind_blocks (block ∷ blocks) place layout b =
      behind_blocks blocks (place + 1) (with_block place layout block) (behind_steps block.steps place (with_phis layout block.phis) (behind_phis block.phis layout b))

  labels_right : (blocks : List BlockText) (place : ℕ) (layout : Layout) → Right layout.scope → Right (with_labels place layout blocks).scope
  labels_right [] place layout r = r
  labels_right (block ∷ blocks) place layout r = labels_right blocks (place + 1) (with_label place layout block) (entries_with (IsNamedRight n IsParameter) layout.scope block.label _ r tt)

  -- while the parameters are added
  pub record Within (layout : Layout) (left : ℕ) : Type 0 where
    pub right : Right layout.scope
    pub all : length layout.registers + left ≡ n

  within_one : (layout : Layout) (one : ParameterText) (left : ℕ) → IsParameter (parameter_name one) → Within layout (suc left) → Within (with_parameter layout one) left
  within_one layout (parameter.Number name) left is w = record {
    right = entries_with (IsNamedRight n IsParameter) layout.scope name _ w.right (tt, λ l. is);
    all = let a = w.all in omega (arith, length_push layout.registers, a);
  }
  within_one layout (parameter.Pointer name cells) left is w = record {
    right = entries_with (IsNamedRight n IsParameter) layout.scope name _ w.right ((let a = w.all in omega arith), λ l. is);
    all = let a = w.all in omega (arith, length_push layout.registers, a);
  }

  within_all : (parameters : List ParameterText) (layout : Layout) → ((i : ℕ) (one : ParameterText) → slice_get parameters i ≡ Some one → IsParameter (parameter_name one)) →
      Within layout (length parameters) → Within (with_parameters layout parameters) 0
  within_all [] layout each w = w
  within_all (one ∷ parameters) layout each w =
      within_all parameters (with_parameter layout one) (λ i other at. each (suc i) other at) (within_one layout one (length parameters) (each 0 one refl) w)

-- so the scope of each function is right
pub scope_right : (function : FunctionText) → Entries (IsNamedRight (length function.parameters) (IsParameterName function.parameters)) (layout_of function).scope
scope_right function =
    let n = length function.parameters in
    let given = within_all n (IsParameterName function.parameters) function.parameters no_layout (λ i one at. (i, one, at, refl)) (record { right = tt; all = omega arith }) in
    let past : n ≤ length (with_parameters no_layout function.parameters).registers = (let a = given.all in omega arith) in
    let behind = behind_blocks n (IsParameterName function.parameters) function.blocks 0 (with_parameters no_layout function.parameters) (record { right = given.right; past = past }) in
    labels_right n (IsParameterName function.parameters) function.blocks 0 (with_blocks 0 (with_parameters no_layout function.parameters) function.blocks) behind.right
