-- What the names of a function stand for: labels of blocks that are there, and registers of numbers that are pairwise different, each with what it holds.
use Rattle.std.proofs.Common.{◌≡◌, ◌≢◌, ℕ, suc, ◌+◌, ◌<◌, ◌≤◌, List, [], ◌∷◌, ◌++◌, length, Option, Some, None, Bool, true, false, is_some, refl, sym, ap, ◌∙◌, subst, arith}
use Rattle.std.specs.Prelude.{if◌then◌else◌, slice_get}
use Rattle.std.specs.Str.{bytes_eq}
use Rattle.std.proofs.lemmas.List.{length_push}
use Rattle.program.specs.declared.function.Alloca.{Alloca}
use Rattle.program.specs.declared.identifier.ObjectName.{ObjectName}
use Rattle.program.specs.declared.identifier.ObjectName.TheVariants as object
use Rattle.syntax.specs.declared.instruction.Address.{Address as AddressText}
use Rattle.syntax.specs.declared.instruction.Instruction.{Instruction as InstructionText}
use Rattle.syntax.specs.declared.instruction.Instruction.TheVariants as text
use Rattle.syntax.specs.declared.instruction.Operand.{Operand as OperandText}
use Rattle.syntax.specs.declared.instruction.Phi.{Phi as PhiText}
use Rattle.syntax.specs.declared.instruction.Step.{Step as StepText}
use Rattle.syntax.specs.declared.module.Block.{Block as BlockText}
use Rattle.syntax.specs.declared.module.Function.{Function as FunctionText}
use Rattle.syntax.specs.declared.module.Parameter.{Parameter as ParameterText}
use Rattle.syntax.specs.declared.module.Parameter.TheVariants as parameter
use Rattle.syntax.specs.declared.operator.Width.TheVariants.{Bits64}
use Rattle.types.specs.declared.names.layout.Layout.{Layout}
use Rattle.types.specs.declared.names.scope.Holding.{Holding}
use Rattle.types.specs.declared.names.scope.Holding.TheVariants as holding
use Rattle.types.specs.declared.names.scope.Named.{Named}
use Rattle.types.specs.declared.names.scope.Named.TheVariants as named
use Rattle.types.specs.declared.names.scope.Origin.{Origin}
use Rattle.types.specs.declared.names.scope.Origin.TheVariants as origin
use Rattle.types.specs.declared.names.scope.Register.{Register}
use Rattle.syntax.specs.Cells.{size_cells}
use Rattle.types.specs.names.Layout.{with_register, with_parameter, with_phi, with_alloca, with_call, with_instruction, with_step, with_phis, with_steps, with_block, with_parameters, with_blocks, with_label, with_labels, no_layout, layout_of, target_width}
use Rattle.types.specs.names.Scope.{Scope, is_parameter}
use Rattle.types.specs.names.Table.{look_up, with_name}
use Rattle.types.proofs.Scopes.{Entries, entries_with, entries_found, entries_push}
use Rattle.laws_schedule.proofs.typing.Lists.{in_first, at_last}
use Rattle.types.proofs.Defining.{bytes_same}

-- ---- entries of a table of names

pub entries_weaker : {A : Type 0} (P Q : List ℕ → A → Type 0) (entries : List (List ℕ × A)) → ((name : List ℕ) (a : A) → P name a → Q name a) → Entries P entries → Entries Q entries
entries_weaker P Q [] weaker h = tt
entries_weaker P Q (entry ∷ entries) weaker h = (weaker entry.0 entry.1 h.0, entries_weaker P Q entries weaker h.1)

-- what is kept by one more entry is kept by a definition
pub with_kept : {A : Type 0} (P : List (List ℕ × A) → Type 0) (entries : List (List ℕ × A)) (name : List ℕ) (meaning : A) → P entries → P (entries ++ (name, meaning) ∷ []) → P (with_name entries name meaning)
with_kept {A} P entries name meaning h k = from (is_some (look_up entries name))
  where
    from : (b : Bool) → P (if b then entries else entries ++ (name, meaning) ∷ [])
    from true = h
    from false = k

-- what a name stands for fits that very name
pub named_found : {A : Type 0} (P : List ℕ → A → Type 0) (entries : List (List ℕ × A)) (name : List ℕ) (meaning : A) → Entries P entries → look_up entries name ≡ Some meaning → P name meaning
named_found {A} P entries name meaning h e =
    let found = entries_found P entries name meaning h e in
    let Q : List ℕ → Type 0 = λ x. P x meaning in
    subst Q (sym (bytes_same name found.0 found.1)) found.2

-- ---- registers of different numbers

abbrev IsOther : Named → List ℕ → Named → Type 0
IsOther (named.Label block) name other = Unit {0}
IsOther (named.Register register) name (named.Label block) = Unit {0}
IsOther (named.Register register) name (named.Register other) = register.id.0 ≢ other.id.0

abbrev pub AreApart : Scope → Type 0
AreApart [] = Unit {0}
AreApart (entry ∷ entries) = Entries (IsOther entry.1) entries × AreApart entries

abbrev IsBelow : ℕ → List ℕ → Named → Type 0
IsBelow count name (named.Label block) = Unit {0}
IsBelow count name (named.Register register) = register.id.0 < count

apart_push : (scope : Scope) (name : List ℕ) (meaning : Named) → Entries (λ _ other. IsOther other name meaning) scope → AreApart scope → AreApart (scope ++ (name, meaning) ∷ [])
apart_push [] name meaning others h = (tt, tt)
apart_push (entry ∷ scope) name meaning others h = (entries_push (IsOther entry.1) scope name meaning h.0 others.0, apart_push scope name meaning others.1 h.1)

below_other : (register : Register) (name : List ℕ) (x : List ℕ) (other : Named) → IsBelow register.id.0 x other → IsOther other name (named.Register register)
below_other register name x (named.Label block) h = tt
below_other register name x (named.Register other) h = λ e. absurd (omega (arith, h, e))

label_other : (block : _) (name : List ℕ) (x : List ℕ) (other : Named) → Unit {0} → IsOther other name (named.Label block)
label_other block name x (named.Label other) h = tt
label_other block name x (named.Register other) h = tt

other_number : (entry : Named) (a b : Register) (x : List ℕ) → entry ≡ named.Register a → a.id.0 ≡ b.id.0 → IsOther entry x (named.Register b) → ⊥
other_number entry a b x is same h = let P : Named → Type 0 = λ k. IsOther k x (named.Register b) in let differs : a.id.0 ≢ b.id.0 = subst P is h in differs same

other_back : (entry : Named) (a b : Register) (x : List ℕ) → entry ≡ named.Register b → a.id.0 ≡ b.id.0 → IsOther entry x (named.Register a) → ⊥
other_back entry a b x is same h = other_number entry b a x is (sym same) h

-- two names of one register are one name
pub one_name : (scope : Scope) (x y : List ℕ) (a b : Register) → AreApart scope → look_up scope x ≡ Some (named.Register a) → look_up scope y ≡ Some (named.Register b) → a.id.0 ≡ b.id.0 → x ≡ y
one_name [] x y a b h e k same = absurd (cc)
one_name (entry ∷ scope) x y a b h e k same = from (bytes_eq x entry.0) (bytes_eq y entry.0) refl refl e k (λ e k. one_name scope x y a b h.1 e k same)
  where
    from : (p q : Bool) → bytes_eq x entry.0 ≡ p → bytes_eq y entry.0 ≡ q → (if p then Some entry.1 else look_up scope x) ≡ Some (named.Register a) → (if q then Some entry.1 else look_up scope y) ≡ Some (named.Register b) →
        (look_up scope x ≡ Some (named.Register a) → look_up scope y ≡ Some (named.Register b) → x ≡ y) → x ≡ y
    from true true is_x is_y e k later = bytes_same x entry.0 is_x ∙ sym (bytes_same y entry.0 is_y)
    from true false is_x is_y e k later =
        let here : entry.1 ≡ named.Register a = cc in
        absurd (other_number entry.1 a b y here same (named_found (IsOther entry.1) scope y (named.Register b) h.0 k))
    from false true is_x is_y e k later =
        let here : entry.1 ≡ named.Register b = cc in
        absurd (other_back entry.1 a b x here same (named_found (IsOther entry.1) scope x (named.Register a) h.0 e))
    from false false is_x is_y e k later = later e k

-- ---- what a register holds

-- the object is one of the function's own, and has so many cells
abbrev pub IsOwnObject : List ParameterText → List Alloca → ObjectName → ℕ → Type 0
IsOwnObject parameters allocas (object.Global id) cells = ⊥
IsOwnObject parameters allocas (object.Alloca id) cells = (one : Alloca) × (slice_get allocas id.0 ≡ Some one) × (one.cells ≡ cells)
IsOwnObject parameters allocas (object.Parameter id) cells = (name : List ℕ) × (slice_get parameters id.0 ≡ Some (parameter.Pointer name cells))

-- a `getelementptr` of the block of this origin defines the name
pub record IsElementStep (blocks : List BlockText) (name : List ℕ) (from : Origin) : Type 0 where
  pub place : ℕ
  pub step : ℕ
  pub block : BlockText
  pub line : StepText
  pub base : AddressText
  pub index : OperandText
  pub at_block : slice_get blocks place ≡ Some block
  pub at_step : slice_get block.steps step ≡ Some line
  pub is : line.instruction ≡ text.ElementPointer name base index
  pub from_there : from ≡ origin.Step place

abbrev pub HoldsRight : FunctionText → List Alloca → List ℕ → Origin → Holding → Type 0
HoldsRight function allocas name from (holding.Number width) = Unit {0}
HoldsRight function allocas name from holding.Truth = Unit {0}
HoldsRight function allocas name from (holding.Object o cells) = IsOwnObject function.parameters allocas o cells
HoldsRight function allocas name from holding.Element = IsElementStep function.blocks name from
HoldsRight function allocas name from holding.Region = Unit {0}

pub record IsRegisterRight (function : FunctionText) (count : ℕ) (allocas : List Alloca) (name : List ℕ) (register : Register) : Type 0 where
  pub within : register.id.0 < count
  pub parameter : is_parameter register.origin ≡ true → register.id.0 < length function.parameters
  pub holds : HoldsRight function allocas name register.origin register.holding

abbrev pub IsNamedRight : FunctionText → ℕ → List Alloca → List ℕ → Named → Type 0
IsNamedRight function count allocas name (named.Label block) = block.0 < length function.blocks
IsNamedRight function count allocas name (named.Register register) = IsRegisterRight function count allocas name register

abbrev Keeps : List Alloca → List Alloca → Type 0
Keeps before after = (a : ℕ) (one : Alloca) → slice_get before a ≡ Some one → slice_get after a ≡ Some one

own_kept : (parameters : List ParameterText) (before after : List Alloca) (o : ObjectName) (cells : ℕ) → Keeps before after → IsOwnObject parameters before o cells → IsOwnObject parameters after o cells
own_kept parameters before after (object.Global id) cells keeps h = h
own_kept parameters before after (object.Alloca id) cells keeps h = (h.0, keeps id.0 h.0 h.1, h.2)
own_kept parameters before after (object.Parameter id) cells keeps h = h

module _ (function : FunctionText) where
  holds_kept : (before after : List Alloca) (name : List ℕ) (from : Origin) (held : Holding) → Keeps before after → HoldsRight function before name from held → HoldsRight function after name from held
  holds_kept before after name from (holding.Number width) keeps h = tt
  holds_kept before after name from holding.Truth keeps h = tt
  holds_kept before after name from (holding.Object o cells) keeps h = own_kept function.parameters before after o cells keeps h
  holds_kept before after name from holding.Element keeps h = h
  holds_kept before after name from holding.Region keeps h = tt

  right_kept : (count more : ℕ) (before after : List Alloca) → count ≤ more → Keeps before after → (name : List ℕ) (meaning : Named) → IsNamedRight function count before name meaning → IsNamedRight function more after name meaning
  right_kept count more before after l keeps name (named.Label block) h = h
  right_kept count more before after l keeps name (named.Register register) h = record {
    within = (let w = h.within in omega arith);
    parameter = h.parameter;
    holds = holds_kept before after name register.origin register.holding keeps h.holds;
  }

  right_below : (count : ℕ) (allocas : List Alloca) (name : List ℕ) (meaning : Named) → IsNamedRight function count allocas name meaning → IsBelow count name meaning
  right_below count allocas name (named.Label block) h = tt
  right_below count allocas name (named.Register register) h = h.within

  -- the names of a layout, which has so many registers at least
  pub record Right (base : ℕ) (layout : Layout) : Type 0 where
    pub entries : Entries (IsNamedRight function (length layout.registers) layout.allocas) layout.scope
    pub apart : AreApart layout.scope
    pub past : base ≤ length layout.registers

  abbrev next : ℕ → Holding → Origin → Register
  next count held from = record { id = record { 0 = count }; holding = held; origin = from }

  next_right : (scope : Scope) (count : ℕ) (before after : List Alloca) (name : List ℕ) (held : Holding) (from : Origin) → Keeps before after → (is_parameter from ≡ true → count < length function.parameters) → HoldsRight function after name from held →
      Entries (IsNamedRight function count before) scope → Entries (IsNamedRight function (count + 1) after) (with_name scope name (named.Register (next count held from)))
  next_right scope count before after name held from keeps given h entries =
      entries_with (IsNamedRight function (count + 1) after) scope name (named.Register (next count held from))
      (entries_weaker (IsNamedRight function count before) (IsNamedRight function (count + 1) after) scope (right_kept count (count + 1) before after (omega arith) keeps) entries)
      (record { within = omega arith; parameter = given; holds = h })

  next_apart : (scope : Scope) (count : ℕ) (allocas : List Alloca) (name : List ℕ) (held : Holding) (from : Origin) → Entries (IsNamedRight function count allocas) scope → AreApart scope → AreApart (with_name scope name (named.Register (next count held from)))
  next_apart scope count allocas name held from entries apart =
      with_kept AreApart scope name (named.Register (next count held from)) apart
      (apart_push scope name (named.Register (next count held from))
      (entries_weaker (IsNamedRight function count allocas) (λ _ other. IsOther other name (named.Register (next count held from))) scope
      (λ x other h. below_other (next count held from) name x other (right_below count allocas x other h)) entries) apart)

  right_register : (base : ℕ) (layout : Layout) (name : List ℕ) (held : Holding) (from : Origin) → (is_parameter from ≡ true → length layout.registers < length function.parameters) → HoldsRight function layout.allocas name from held →
      Right base layout → Right base (with_register layout name held from)
  right_register base layout name held from given h r =
      let n : length (with_register layout name held from).registers ≡ length layout.registers + 1 = omega (arith, length_push layout.registers) in
      let P : ℕ → Type 0 = λ k. Entries (IsNamedRight function k layout.allocas) (with_register layout name held from).scope in
      record {
        entries = subst P (sym n) (next_right layout.scope (length layout.registers) layout.allocas layout.allocas name held from (λ a one e. e) given h r.entries);
        apart = next_apart layout.scope (length layout.registers) layout.allocas name held from r.entries r.apart;
        past = (let p = r.past in omega arith);
      }

  right_alloca : (base : ℕ) (layout : Layout) (line : ℕ) (name : List ℕ) (cells block : ℕ) → Right base layout → Right base (with_alloca layout line name cells (origin.Step block))
  right_alloca base layout line name cells block r =
      let held = holding.Object (object.Alloca (record { 0 = length layout.allocas })) cells in
      let one : Alloca = record { line = line; register = record { 0 = length layout.registers }; cells = cells } in
      let after = layout.allocas ++ one ∷ [] in
      let n : length (with_register layout name held (origin.Step block)).registers ≡ length layout.registers + 1 = omega (arith, length_push layout.registers) in
      let P : ℕ → Type 0 = λ k. Entries (IsNamedRight function k after) (with_register layout name held (origin.Step block)).scope in
      record {
        entries = subst P (sym n) (next_right layout.scope (length layout.registers) layout.allocas after name held (origin.Step block) (λ a old e. in_first layout.allocas (one ∷ []) a old e) (λ e. absurd (cc)) (one, at_last layout.allocas one, refl) r.entries);
        apart = next_apart layout.scope (length layout.registers) layout.allocas name held (origin.Step block) r.entries r.apart;
        past = (let p = r.past in omega arith);
      }

  right_call : (base : ℕ) (layout : Layout) (name : Option (List ℕ)) (block : ℕ) → Right base layout → Right base (with_call layout name (origin.Step block))
  right_call base layout None block r = r
  right_call base layout (Some name) block r = right_register base layout name (holding.Number Bits64) (origin.Step block) (λ e. absurd (cc)) tt r

  -- the step of this place of the block
  pub record StepIs (b s : ℕ) (step : StepText) : Type 0 where
    pub block : BlockText
    pub at_block : slice_get function.blocks b ≡ Some block
    pub at_step : slice_get block.steps s ≡ Some step

  right_instruction : (base : ℕ) (layout : Layout) (b s : ℕ) (step : StepText) (what : InstructionText) → StepIs b s step → step.instruction ≡ what → Right base layout → Right base (with_instruction layout step.line (origin.Step b) what)
  right_instruction base layout b s step (text.Binary register operator width left right) at is r = right_register base layout register (holding.Number width) (origin.Step b) (λ e. absurd (cc)) tt r
  right_instruction base layout b s step (text.Compare register predicate width left right) at is r = right_register base layout register holding.Truth (origin.Step b) (λ e. absurd (cc)) tt r
  right_instruction base layout b s step (text.Convert register conversion value) at is r = right_register base layout register (holding.Number (target_width conversion)) (origin.Step b) (λ e. absurd (cc)) tt r
  right_instruction base layout b s step (text.Alloca register size) at is r = right_alloca base layout step.line register (size_cells size) b r
  right_instruction base layout b s step (text.ElementPointer register at_base index) at is r =
      right_register base layout register holding.Element (origin.Step b) (λ e. absurd (cc))
      (record { place = b; step = s; block = at.block; line = step; base = at_base; index = index; at_block = at.at_block; at_step = at.at_step; is = is; from_there = refl }) r
  right_instruction base layout b s step (text.Load register address) at is r = right_register base layout register (holding.Number Bits64) (origin.Step b) (λ e. absurd (cc)) tt r
  right_instruction base layout b s step (text.Store value address) at is r = r
  right_instruction base layout b s step (text.StoreZeros cells address) at is r = r
  right_instruction base layout b s step (text.AtomicAdd address value) at is r = r
  right_instruction base layout b s step (text.Call register callee arguments) at is r = right_call base layout register b r
  right_instruction base layout b s step (text.StartRegion register) at is r = right_register base layout register holding.Region (origin.Step b) (λ e. absurd (cc)) tt r

  right_phis : (base : ℕ) (phis : List PhiText) (layout : Layout) → Right base layout → Right base (with_phis layout phis)
  right_phis base [] layout r = r
  right_phis base (phi ∷ phis) layout r = right_phis base phis (with_phi layout phi) (right_register base layout phi.register (holding.Number phi.width) origin.Phi (λ e. absurd (cc)) tt r)

  -- the steps of a block from one of them on
  right_steps : (base b s : ℕ) (block : BlockText) → slice_get function.blocks b ≡ Some block → (steps : List StepText) (layout : Layout) → ((i : ℕ) (step : StepText) → slice_get steps i ≡ Some step → slice_get block.steps (s + i) ≡ Some step) →
      Right base layout → Right base (with_steps b layout steps)
  right_steps base b s block at [] layout rest r = r
  right_steps base b s block at (step ∷ steps) layout rest r =
      let here : slice_get block.steps s ≡ Some step = ap (λ k. slice_get block.steps k) (omega arith) ∙ rest 0 step refl in
      right_steps base b (s + 1) block at steps (with_step b layout step) (λ i other e. ap (λ k. slice_get block.steps k) (omega arith) ∙ rest (suc i) other e)
      (right_instruction base layout b s step step.instruction (record { block = block; at_block = at; at_step = here }) refl r)

  right_blocks : (base place : ℕ) (blocks : List BlockText) (layout : Layout) → ((i : ℕ) (block : BlockText) → slice_get blocks i ≡ Some block → slice_get function.blocks (place + i) ≡ Some block) → Right base layout → Right base (with_blocks place layout blocks)
  right_blocks base place [] layout rest r = r
  right_blocks base place (block ∷ blocks) layout rest r =
      let here : slice_get function.blocks place ≡ Some block = ap (λ k. slice_get function.blocks k) (omega arith) ∙ rest 0 block refl in
      right_blocks base (place + 1) blocks (with_block place layout block) (λ i other e. ap (λ k. slice_get function.blocks k) (omega arith) ∙ rest (suc i) other e)
      (right_steps base place 0 block here block.steps (with_phis layout block.phis) (λ i step e. ap (λ k. slice_get block.steps k) (omega arith) ∙ e) (right_phis base block.phis layout r))

  right_labels : (base place : ℕ) (blocks : List BlockText) (layout : Layout) → place + length blocks ≡ length function.blocks → Right base layout → Right base (with_labels place layout blocks)
  right_labels base place [] layout e r = r
  right_labels base place (block ∷ blocks) layout e r =
      let label = named.Label (record { 0 = place }) in
      right_labels base (place + 1) blocks (with_label place layout block) (omega arith)
      (record {
        entries = entries_with (IsNamedRight function (length layout.registers) layout.allocas) layout.scope block.label label r.entries (omega arith);
        apart = with_kept AreApart layout.scope block.label label r.apart
            (apart_push layout.scope block.label label (entries_weaker (IsNamedRight function (length layout.registers) layout.allocas) (λ _ other. IsOther other block.label label) layout.scope (λ x other h. label_other (record { 0 = place }) block.label x other tt) r.entries) r.apart);
        past = r.past;
      })

  -- while the parameters are added
  parameter_count : (layout : Layout) (one : ParameterText) → length (with_parameter layout one).registers ≡ length layout.registers + 1
  parameter_count layout (parameter.Number name) = omega (arith, length_push layout.registers)
  parameter_count layout (parameter.Pointer name cells) = omega (arith, length_push layout.registers)

  right_parameter : (layout : Layout) (one : ParameterText) → slice_get function.parameters (length layout.registers) ≡ Some one → length layout.registers < length function.parameters → Right 0 layout → Right 0 (with_parameter layout one)
  right_parameter layout (parameter.Number name) here l r = right_register 0 layout name (holding.Number Bits64) origin.Parameter (λ e. l) tt r
  right_parameter layout (parameter.Pointer name cells) here l r = right_register 0 layout name (holding.Object (object.Parameter (record { 0 = length layout.registers })) cells) origin.Parameter (λ e. l) (name, here) r

  right_parameters : (parameters : List ParameterText) (layout : Layout) → ((i : ℕ) (one : ParameterText) → slice_get parameters i ≡ Some one → slice_get function.parameters (length layout.registers + i) ≡ Some one) → length layout.registers + length parameters ≡ length function.parameters →
      Right 0 layout → Right (length function.parameters) (with_parameters layout parameters)
  right_parameters [] layout rest all r = record { entries = r.entries; apart = r.apart; past = omega arith }
  right_parameters (one ∷ parameters) layout rest all r =
      let here : slice_get function.parameters (length layout.registers) ≡ Some one = ap (λ k. slice_get function.parameters k) (omega arith) ∙ rest 0 one refl in
      let n : length (with_parameter layout one).registers ≡ length layout.registers + 1 = parameter_count layout one in
      right_parameters parameters (with_parameter layout one)
      (λ i other e. ap (λ k. slice_get function.parameters k) (omega arith) ∙ rest (suc i) other e) (omega arith)
      (right_parameter layout one here (omega arith) r)

  pub layout_right : Right (length function.parameters) (layout_of function)
  layout_right =
      let given = right_parameters function.parameters no_layout (λ i one e. ap (λ k. slice_get function.parameters k) (omega arith) ∙ e) (omega arith) (record { entries = tt; apart = tt; past = omega arith }) in
      right_labels (length function.parameters) 0 function.blocks (with_blocks 0 (with_parameters no_layout function.parameters) function.blocks) (omega arith)
      (right_blocks (length function.parameters) 0 function.blocks (with_parameters no_layout function.parameters) (λ i block e. ap (λ k. slice_get function.blocks k) (omega arith) ∙ e) given)
