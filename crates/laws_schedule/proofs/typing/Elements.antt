-- The register of an element is that of a `getelementptr` before it in its block; with that, all that the laws on values ask for.
use Rattle.std.proofs.Common.{◌≡◌, inl, inr, ℕ, ◌<◌, List, [], Option, Some, true, sym, ap, ◌∙◌, subst, arith, Ok, nat_eq, None}
use Rattle.std.specs.Prelude.{slice_get}
use Rattle.std.specs.List.{Contains}
use Rattle.std.proofs.lemmas.Bool.{cases_lt}
use Rattle.std.proofs.lemmas.Bool.Decides.{nat_tests}
use Rattle.std.proofs.lemmas.List.Elements.{Contains-append_left, Contains-append_right}
use Rattle.linear.specs.declared.form.RegisterId.{RegisterId}
use Rattle.semantics.specs.Frames.{and_then, Does, item_of, item_at, cells_of}
use Rattle.semantics.proofs.Confluence.{one_result}
use Rattle.program.specs.declared.function.Alloca.{Alloca}
use Rattle.program.specs.declared.function.Block.{Block}
use Rattle.program.specs.declared.function.Program.{Program}
use Rattle.program.specs.declared.identifier.ObjectName.{ObjectName}
use Rattle.program.specs.declared.instruction.Address.{Address}
use Rattle.program.specs.declared.instruction.Address.TheVariants as address
use Rattle.program.specs.declared.instruction.Instruction.{Instruction}
use Rattle.program.specs.declared.instruction.Instruction.TheVariants as instruction
use Rattle.program.specs.declared.instruction.Operand.{Operand}
use Rattle.program.specs.declared.instruction.Step.{Step}
use Rattle.syntax.specs.declared.instruction.Address.{Address as AddressText}
use Rattle.syntax.specs.declared.instruction.Instruction.{Instruction as InstructionText}
use Rattle.syntax.specs.declared.instruction.Instruction.TheVariants as text
use Rattle.syntax.specs.declared.instruction.Operand.{Operand as OperandText}
use Rattle.syntax.specs.declared.module.Block.{Block as BlockText}
use Rattle.syntax.specs.declared.module.Function.{Function as FunctionText}
use Rattle.syntax.specs.declared.module.Module.{Module}
use Rattle.laws_phases.specs.definedness.declared.act.Act.TheVariants.{Needs}
use Rattle.laws_phases.specs.definedness.RegisterActs.{operand_needs, address_needs, instruction_needs}
use Rattle.ir_reader.specs.Kept.{IsKeptModule}
use Rattle.types.specs.declared.names.scope.Named.{Named as Meaning}
use Rattle.types.specs.declared.names.scope.Named.TheVariants as named_as
use Rattle.types.specs.declared.names.scope.Origin.{Origin}
use Rattle.types.specs.declared.names.scope.Origin.TheVariants as origin
use Rattle.types.specs.declared.names.scope.Register.{Register}
use Rattle.types.specs.names.Address.{Items}
use Rattle.types.specs.names.Item.{items_of}
use Rattle.types.specs.names.Layout.{layout_of}
use Rattle.types.specs.names.Scope.{Scope, is_step_of}
use Rattle.types.specs.names.Table.{look_up}
use Rattle.types.proofs.names.Inversion.{made_ok, both_ok}
use Rattle.types.specs.Call.{Named}
use Rattle.types.specs.Instruction.{instruction_of}
use Rattle.types.specs.Meaning.{Means}
use Rattle.laws_conditions.specs.rules.Moves.{dest_of}
use Rattle.laws_phases.specs.defined.Names.{StepDefines}
use Rattle.laws_phases.specs.defined.Stable.{IsStable}
use Rattle.laws_phases.specs.defined.Values.{Reads, IsElement, NamesObjects}
use Rattle.laws_phases.proofs.defined.Items.{block_is, item_there}
use Rattle.laws_phases.proofs.defined.Lists.{first_within}
use Rattle.laws_schedule.proofs.typing.Parts.{step_to}
use Rattle.laws_schedule.proofs.typing.Instructions.{Defines, defines}
use Rattle.laws_schedule.proofs.typing.Calls.{InstructionAt, instruction_at}
use Rattle.laws_schedule.proofs.typing.Registers.{kept_function}
use Rattle.laws_schedule.proofs.typing.Objects.{IsElementOf, cells_are}
use Rattle.laws_schedule.proofs.typing.Sized.{reads_address, own, large, zeros}
use Rattle.laws_schedule.proofs.typing.Positive.{object_positive}
use Rattle.laws_schedule.specs.kinds.Uses.{address_in}

-- ---- the text of an element

pub record PointsTo (scope : Scope) (name : List ℕ) (what : Instruction) : Type 0 where
  pub register : RegisterId
  pub base : ObjectName
  pub index : Operand
  pub is : what ≡ instruction.ElementPointer register base index
  pub meant : Defines scope name register.0

points_to : (items : Items) (functions : List FunctionText) (named : Named) (scope : Scope) (f b line : ℕ) (name : List ℕ) (base : AddressText) (index : OperandText) (what : Instruction) →
    instruction_of items functions named scope (record { function = f; block = b; line = line }) (text.ElementPointer name base index) ≡ Ok what → PointsTo scope name what
points_to items functions named scope f b line name base index what e =
    let made = made_ok _ _ what e in
    record { register = made.0.0; base = made.0.1.0.name; index = made.0.1.1; is = sym made.2; meant = defines scope line name made.0.0 (both_ok _ _ made.0 made.1).0 }

one_register : (o : Option Meaning) (a b : Register) → o ≡ Some (named_as.Register a) → o ≡ Some (named_as.Register b) → a ≡ b
one_register o a b h k = let e : Some (named_as.Register a) ≡ Some (named_as.Register b) = sym h ∙ k in cc

place_is : (b place : ℕ) (from : Origin) → from ≡ origin.Step place → is_step_of b from ≡ true → place ≡ b
place_is b place from is here =
    let P : Origin → Type 0 = λ x. is_step_of b x ≡ true in
    let e : nat_eq place b ≡ true = subst P is here in
    grind (arith, nat_tests)

register_same : (given r : RegisterId) (found element : Register) → found.id.0 ≡ given.0 → found ≡ element → element.id ≡ r → given ≡ r
register_same given r found element number one same =
    let numbered : ℕ → RegisterId = λ n. record { 0 = n } in
    ap numbered (sym number) ∙ ap (λ (x : Register). x.id) one ∙ same

element_is : (what : Instruction) (given r : RegisterId) (base : ObjectName) (index : Operand) → what ≡ instruction.ElementPointer given base index → given ≡ r → what ≡ instruction.ElementPointer r base index
element_is what given r base index is same = is ∙ ap (λ (x : RegisterId). instruction.ElementPointer x base index) same

-- ---- its register is needed

module _ (allocas : List Alloca) (line : ℕ) where
  at_needs : (at : Address) (r : RegisterId) → Some at ≡ Some (address.Element r) → Contains (address_needs allocas line at) (Needs r.0 line)
  at_needs (address.First name) r e = absurd (let k : address.First name ≡ address.Element r = cc in cc)
  at_needs (address.Element x) r e =
      let same : x ≡ r = (let k : address.Element x ≡ address.Element r = cc in cc) in
      let P : RegisterId → Type 0 = λ y. Contains (address_needs allocas line (address.Element x)) (Needs y.0 line) in
      subst P same (first_within (Needs x.0 line) [])

  no_address : (what : Instruction) (r : RegisterId) → None ≡ Some (address.Element r) → Contains (instruction_needs allocas line what) (Needs r.0 line)
  no_address what r e = absurd (cc)

  needs_element : (what : Instruction) (r : RegisterId) → address_in what ≡ Some (address.Element r) → Contains (instruction_needs allocas line what) (Needs r.0 line)
  needs_element (instruction.Binary d op w x y) r e = no_address (instruction.Binary d op w x y) r e
  needs_element (instruction.Compare d by w x y) r e = no_address (instruction.Compare d by w x y) r e
  needs_element (instruction.Convert d by x) r e = no_address (instruction.Convert d by x) r e
  needs_element (instruction.Alloca d a) r e = no_address (instruction.Alloca d a) r e
  needs_element (instruction.ElementPointer d base index) r e = no_address (instruction.ElementPointer d base index) r e
  needs_element (instruction.Load d at) r e = at_needs at r e
  needs_element (instruction.Store x at) r e = Contains-append_right (operand_needs line x) (address_needs allocas line at) (Needs r.0 line) (at_needs at r e)
  needs_element (instruction.StoreZeros n base) r e = no_address (instruction.StoreZeros n base) r e
  needs_element (instruction.AtomicAdd at x) r e = Contains-append_left (address_needs allocas line at) (operand_needs line x) (Needs r.0 line) (at_needs at r e)
  needs_element (instruction.Call d g given) r e = no_address (instruction.Call d g given) r e
  needs_element (instruction.StartRegion d) r e = no_address (instruction.StartRegion d) r e

-- ---- what reads an address names it

reads_named : (what : Instruction) (at : Address) → Reads what at → address_in what ≡ Some at
reads_named (instruction.Binary d op w x y) at reads = absurd reads
reads_named (instruction.Compare d by w x y) at reads = absurd reads
reads_named (instruction.Convert d by x) at reads = absurd reads
reads_named (instruction.Alloca d a) at reads = absurd reads
reads_named (instruction.ElementPointer d base index) at reads = absurd reads
reads_named (instruction.Load d x) at reads = ap (λ (y : Address). Some y) reads
reads_named (instruction.Store x y) at reads = absurd reads
reads_named (instruction.StoreZeros n base) at reads = absurd reads
reads_named (instruction.AtomicAdd x y) at reads = ap (λ (z : Address). Some z) reads
reads_named (instruction.Call d g given) at reads = absurd reads
reads_named (instruction.StartRegion d) at reads = absurd reads

module _ (whole : Module) (program : Program) (m : Means whole (Ok program)) where
  -- the step of the block that defines the register
  record PointsAt (f b s : ℕ) (block : Block) (r : RegisterId) : Type 0 where
    pub step : Step
    pub at_step : slice_get block.steps s ≡ Some step
    pub base : ObjectName
    pub index : Operand
    pub is : step.instruction ≡ instruction.ElementPointer r base index

  points_at : (f b i : ℕ) (what : Instruction) (at : InstructionAt whole program m f b i what) (r : RegisterId) (element : IsElementOf whole at.outer.text b r) → PointsAt f b element.step.step at.block r
  points_at f b i what at r element =
      let here : element.step.place ≡ b = place_is b element.step.place element.register.origin element.step.from_there element.here in
      let one : element.step.block ≡ at.from.text =
      one_result (slice_get at.outer.text.blocks b) element.step.block at.from.text (ap (λ k. slice_get at.outer.text.blocks k) (sym here) ∙ element.step.at_block) at.from.at_text in
      let at_line : slice_get at.from.text.steps element.step.step ≡ Some element.step.line = ap (λ (x : BlockText). slice_get x.steps element.step.step) (sym one) ∙ element.step.at_step in
      let found = step_to whole m.0 f b at.function at.block at.outer at.from element.step.step element.step.line at_line in
      let P : InstructionText → Type 0 = λ x. instruction_of (items_of whole) whole.functions m.0 (layout_of at.outer.text).scope (record { function = f; block = b; line = element.step.line.line }) x ≡ Ok found.0.instruction in
      let points = points_to (items_of whole) whole.functions m.0 (layout_of at.outer.text).scope f b element.step.line.line element.name element.step.base element.step.index found.0.instruction (subst P element.step.is found.2) in
      let register : points.meant.register ≡ element.register = one_register (look_up (layout_of at.outer.text).scope element.name) points.meant.register element.register points.meant.found element.found in
      let same : points.register ≡ r = register_same points.register r points.meant.register element.register points.meant.same register element.same in
      record {
        step = found.0;
        at_step = found.1;
        base = points.base;
        index = points.index;
        is = element_is found.0.instruction points.register r points.base points.index points.is same;
      }

  -- it stands before what uses it
  element_earlier : IsStable program → (f b i s : ℕ) (what : Instruction) (at : InstructionAt whole program m f b i what) (r : RegisterId) → PointsAt f b s at.block r → address_in what ≡ Some (address.Element r) → s < i
  element_earlier stable f b i s what at r points named = elim (cases_lt s i) [
    | inl l ↦ l
    | inr g ↦
        let defined : StepDefines at.function b s r.0 = record { block = at.block; step = points.step; at_block = at.is.at_block; at_step = points.at_step; defines = ap dest_of points.is } in
        let steady = stable.steps f b s r.0 at.function at.block at.is defined in
        let P : Instruction → Type 0 = λ x. Contains (instruction_needs at.function.allocas at.step.line x) (Needs r.0 at.step.line) in
        absurd (steady.uses i at.step g at.at_step (at.step.line, subst P (sym at.does) (needs_element at.function.allocas at.step.line what r named)))
  ]

  pub element_before : IsStable program → (f b i : ℕ) (what : Instruction) (r : RegisterId) (at : InstructionAt whole program m f b i what) → IsElementOf whole at.outer.text b r → address_in what ≡ Some (address.Element r) → IsElement program f b i r
  element_before stable f b i what r at element named =
      let points = points_at f b i what at r element in
      let item = item_there at.block.steps at.block.ending element.step.step points.step points.at_step in
      record {
        before = element.step.step;
        name = points.base;
        index = points.index;
        earlier = element_earlier stable f b i element.step.step what at r points named;
        is = ap (λ (o : Option Block). and_then o (λ (x : Block). item_of x.steps x.ending element.step.step)) (block_is program f b at.function at.block at.is) ∙ item ∙ ap (λ (x : Instruction). Some (Does x)) points.is;
      }

  elements : IsStable program → (f b i : ℕ) (what : Instruction) (r : RegisterId) → item_at program f b i ≡ Some (Does what) → Reads what (address.Element r) → IsElement program f b i r
  elements stable f b i what r e reads =
      let at = instruction_at whole program m f b i what e in
      let element = reads_address whole at.outer.text m.0 f b what (address.Element r) at.meant.uses reads in
      element_before stable f b i what r at element (reads_named what (address.Element r) reads)

  -- what is read by its name has a cell
  first : IsKeptModule whole → (f b i : ℕ) (what : Instruction) (name : ObjectName) → item_at program f b i ≡ Some (Does what) → Reads what (address.First name) → 0 < cells_of program f name
  first kept f b i what name e reads =
      let at = instruction_at whole program m f b i what e in
      let found = reads_address whole at.outer.text m.0 f b what (address.First name) at.meant.uses reads in
      let l : 0 < found.0 = object_positive whole kept at.outer.text (kept_function whole kept f at.outer.text at.outer.at_text) name found.0 found.1 in
      let same : cells_of program f name ≡ found.0 = cells_are whole program m f at.function at.is.at_function at.outer name found.0 found.1 in
      omega arith

  pub names_objects : IsKeptModule whole → IsStable program → NamesObjects program
  names_objects kept stable = record {
    own = own whole program m;
    large = large whole program m;
    zeros = zeros whole program m;
    first = first kept;
    elements = elements stable;
  }
