-- Where all that an instruction or terminator reads is there, the registers that it reads hold values of their kinds.
use Rattle.std.proofs.Common.{◌≡◌, ◌∙◌, inl, inr, ℕ, zero, suc, List, [], ◌∷◌, Option, Some, None, true, cond, refl, sym, ap, subst, slice_get, ℤ}
use Rattle.std.proofs.lemmas.List.Elements.{All-contains}
use Rattle.linear.specs.declared.form.RegisterId.{RegisterId}
use Rattle.semantics.specs.Paths.{Path}
use Rattle.semantics.specs.Cells.{Object, Cell, Memory}
use Rattle.semantics.specs.Frames.{Value, Word, Pointer, Registers, Frame, Item, Does, Ends, and_then, item_at, block_phis, phis_at, word_of, truth_of, cell_of, region_of, set_register, word_at, object_at, first_cell, cell_at}
use Rattle.semantics.specs.Effect.{phi_value, with_phis, registers_along, case_for, argument_value, argument_values}
use Rattle.program.specs.declared.function.Block.{Block}
use Rattle.program.specs.declared.function.Function.{Function}
use Rattle.program.specs.declared.function.Program.{Program}
use Rattle.program.specs.declared.function.RegisterKind.{RegisterKind}
use Rattle.program.specs.declared.function.RegisterKind.TheVariants as kind
use Rattle.program.specs.declared.identifier.ObjectName.{ObjectName}
use Rattle.program.specs.declared.identifier.ObjectName.TheVariants.{Global, Alloca, Parameter}
use Rattle.program.specs.declared.instruction.Address.{Address}
use Rattle.program.specs.declared.instruction.Address.TheVariants.{First, Element}
use Rattle.program.specs.declared.instruction.Argument.{Argument}
use Rattle.program.specs.declared.instruction.Argument.TheVariants as argument
use Rattle.program.specs.declared.instruction.Instruction.{Instruction}
use Rattle.program.specs.declared.instruction.Instruction.TheVariants as instruction
use Rattle.program.specs.declared.instruction.Operand.{Operand}
use Rattle.program.specs.declared.instruction.Operand.TheVariants.{Number, Register}
use Rattle.program.specs.declared.instruction.Phi.{Phi}
use Rattle.program.specs.declared.instruction.PhiEntry.{PhiEntry}
use Rattle.program.specs.declared.instruction.Terminator.{Terminator}
use Rattle.program.specs.declared.instruction.Terminator.TheVariants as terminator
use Rattle.syntax.specs.declared.operator.Width.{Width}
use Rattle.syntax.specs.declared.operator.Width.TheVariants.{Bits64}
use Rattle.types.specs.Apart.{AddressNames, InstructionNames}
use Rattle.program.specs.Widths.{source_width}
use Rattle.laws_phases.specs.facts.Traps.{IsThere, FindsAll, MayEnd, MayDo}
use Rattle.laws_schedule.specs.typing.Kinds.{IsOfKind, IsNumber, IsArgument, IsKinded, IsKindedEnd, HasKinds}
use Rattle.laws_schedule.specs.kinds.Holding.{holds_kind, HasKindedRegisters}
use Rattle.laws_schedule.specs.kinds.Uses.{address_in, HasKindedUses}
use Rattle.laws_schedule.proofs.kinds.Needed.{entry_of}
use Rattle.laws_schedule.specs.safe.Reads.{OperandReads, ObjectReads, AddressReads, ArgumentReads, InstructionReads, EdgeReads, TerminatorReads, ItemReads, HoldsKind}

-- ---- values behind what is there

word_there : (o : Option Value) → IsThere (word_of o) → IsThere o
word_there None h = h
word_there (Some v) h = refl

truth_there : (o : Option Value) → IsThere (truth_of o) → IsThere o
truth_there None h = h
truth_there (Some v) h = refl

cell_there : (o : Option Value) → IsThere (cell_of o) → IsThere o
cell_there None h = h
cell_there (Some v) h = refl

region_there : (o : Option Value) (p : Path) → region_of o ≡ Some p → IsThere o
region_there None p h = absurd (cc)
region_there (Some v) p h = refl

first_there : {A B : Type 0} (o : Option A) (next : A → Option B) → IsThere (and_then o next) → IsThere o
first_there None next h = h
first_there (Some a) next h = refl

there_is : {A : Type 0} (o : Option A) → IsThere o → (a : A) × (o ≡ Some a)
there_is None h = absurd (cc)
there_is (Some a) h = (a, refl)

pub first_named : (a : Address) (name : ObjectName) → a ≡ First name → AddressNames a name
first_named a name same = subst (λ (x : Address). AddressNames x name) (sym same) refl

-- each argument of a call has a value
each_argument : (f : Frame) (arguments : List Argument) → IsThere (argument_values f arguments) → (k : ℕ) (one : Argument) → slice_get arguments k ≡ Some one → IsThere (argument_value f one)
each_argument f [] h k one at = absurd (cc)
each_argument f (a ∷ more) h zero one at = let same : a ≡ one = cc in subst (λ (x : Argument). IsThere (argument_value f x)) same (first_there (argument_value f a) (λ v. and_then (argument_values f more) (λ vs. Some (v ∷ vs))) h)
each_argument f (a ∷ more) h (suc k) one at = by (argument_value f a) h (λ e. each_argument f more e k one at)
  where
    by : (o : Option Value) → IsThere (and_then o (λ v. and_then (argument_values f more) (λ vs. Some (v ∷ vs)))) → (IsThere (argument_values f more) → IsThere (argument_value f one)) → IsThere (argument_value f one)
    by None e rest = absurd (cc)
    by (Some v) e rest = rest (first_there (argument_values f more) (λ vs. Some (v ∷ vs)) e)

-- each phi of an edge takes a value
each_phi : (before : Registers) (from : ℕ) (phis : List Phi) (r : Registers) → IsThere (with_phis before from phis r) → (i : ℕ) (phi : Phi) → slice_get phis i ≡ Some phi → IsThere (phi_value before from phi)
each_phi before from [] r h i phi at = absurd (cc)
each_phi before from (x ∷ phis) r h zero phi at =
    let same : x ≡ phi = cc in
    subst (λ (y : Phi). IsThere (phi_value before from y)) same (first_there (phi_value before from x) (λ z. with_phis before from phis (set_register r x.register (Word z))) h)
each_phi before from (x ∷ phis) r h (suc i) phi at = by (phi_value before from x) h (λ z e. each_phi before from phis (set_register r x.register (Word z)) e i phi at)
  where
    by : (o : Option ℤ) → IsThere (and_then o (λ z. with_phis before from phis (set_register r x.register (Word z)))) → ((z : ℤ) → IsThere (with_phis before from phis (set_register r x.register (Word z))) → IsThere (phi_value before from phi)) → IsThere (phi_value before from phi)
    by None e rest = absurd (cc)
    by (Some z) e rest = rest z e

module _ (prog : Program) (kinds : HasKinds prog) (uses : HasKindedUses prog) (p : Path) (f : Frame) (m : Memory) (kinded : HasKindedRegisters prog f) (function : Function) (at : slice_get prog.functions f.function ≡ Some function) where
  abbrev Holds : ℕ → Type 0
  Holds r = HoldsKind function f r

  holds : (r : ℕ) (kind : RegisterKind) → IsOfKind function.registers r kind → IsThere (f.registers r) → Holds r
  holds r kind is there =
      let (v, held) = there_is (f.registers r) there in
      record { kind = kind; is = is; value = v; held = held; of_kind = subst (λ (o : Option Value). holds_kind kind o ≡ true) held (kinded.holds function at r kind is) }

  named : (x : RegisterId) (r : ℕ) (kind : RegisterKind) → IsOfKind function.registers x.0 kind → IsThere (f.registers x.0) → x.0 ≡ r → Holds r
  named x r kind is there same = subst Holds same (holds x.0 kind is there)

  operand : (w : Width) (a : Operand) (r : ℕ) → IsNumber function.registers w a → IsThere (word_at f.registers a) → OperandReads a r → Holds r
  operand w (Number z) r is there reads = absurd reads
  operand w (Register x) r is there reads = named x r (kind.Number w) is (word_there (f.registers x.0) there) reads

  object : (name : ObjectName) (r : ℕ) → ((x : RegisterId) → name ≡ Parameter x → IsOfKind function.registers x.0 kind.Object) → IsThere (object_at f name) → ObjectReads name r → Holds r
  object (Global g) r is there reads = absurd reads
  object (Alloca a) r is there reads = absurd reads
  object (Parameter x) r is there reads = named x r kind.Object (is x refl) (cell_there (f.registers x.0) (first_there (cell_of (f.registers x.0)) (λ (c : Cell). Some c.object) there)) reads

  module _ (what : Instruction) (here : item_at prog f.function f.block f.index ≡ Some (Does what)) where
    names_object : (name : ObjectName) → InstructionNames what name → (x : RegisterId) → name ≡ Parameter x → IsOfKind function.registers x.0 kind.Object
    names_object name names x same = uses.objects f.function f.block f.index what x function here at (subst (InstructionNames what) same names)

    address : (a : Address) (r : ℕ) → address_in what ≡ Some a → ((name : ObjectName) → a ≡ First name → InstructionNames what name) → IsThere (cell_at f a) → AddressReads a r → Holds r
    address (First name) r is names there reads = object name r (names_object name (names name refl)) (first_there (object_at f name) (λ (o : Object). Some (first_cell o)) there) reads
    address (Element x) r is names there reads = named x r kind.Element (uses.elements f.function f.block f.index what x function here at is) (cell_there (f.registers x.0) there) reads

  passed : (d : Option RegisterId) (g : _) (arguments : List Argument) → item_at prog f.function f.block f.index ≡ Some (Does (instruction.Call d g arguments)) → (one : Argument) (k r : ℕ) → slice_get arguments k ≡ Some one → IsArgument function.registers one → IsThere (argument_value f one) → ArgumentReads one r → Holds r
  passed d g arguments here (argument.Number a) k r there is value reads = operand Bits64 a r is (first_there (word_at f.registers a) (λ z. Some (Word z)) value) reads
  passed d g arguments here (argument.Object name) k r there is value reads =
      object name r (names_object (instruction.Call d g arguments) here name (k, there)) (first_there (object_at f name) (λ o. Some (Pointer (first_cell o))) value) reads

  by_instruction : (what : Instruction) → item_at prog f.function f.block f.index ≡ Some (Does what) → IsKinded function.registers what → FindsAll f m what → (r : ℕ) → InstructionReads what r → Holds r
  by_instruction (instruction.Binary d op w a b) here is there r reads = elim reads [ inl h ↦ operand w a r is.1 there.0 h | inr h ↦ operand w b r is.2 there.1 h ]
  by_instruction (instruction.Compare d by w a b) here is there r reads = elim reads [ inl h ↦ operand w a r is.1 there.0 h | inr h ↦ operand w b r is.2 there.1 h ]
  by_instruction (instruction.Convert d by a) here is there r reads = operand (source_width by) a r is.1 there reads
  by_instruction (instruction.Alloca d a) here is there r reads = absurd reads
  by_instruction (instruction.ElementPointer d name i) here is there r reads = elim reads [
    | inl h ↦ object name r (names_object (instruction.ElementPointer d name i) here name refl) there.0 h
    | inr h ↦ operand Bits64 i r is.1 there.1 h
  ]
  by_instruction (instruction.Load d a) here is there r reads = address (instruction.Load d a) here a r refl (first_named a) there.0 reads
  by_instruction (instruction.Store x a) here is there r reads = elim reads [ inl h ↦ address (instruction.Store x a) here a r refl (first_named a) there.0 h | inr h ↦ operand Bits64 x r is there.1 h ]
  by_instruction (instruction.StoreZeros n name) here is there r reads = object name r (names_object (instruction.StoreZeros n name) here name refl) there reads
  by_instruction (instruction.AtomicAdd a x) here is there r reads = elim reads [ inl h ↦ address (instruction.AtomicAdd a x) here a r refl (first_named a) there.0 h | inr h ↦ operand Bits64 x r is there.1 h ]
  by_instruction (instruction.Call d g arguments) here is there r reads =
      let (k, one, stands, h) = reads in
      passed d g arguments here one k r stands (is.1 k one stands) (each_argument f arguments there k one stands) h
  by_instruction (instruction.StartRegion d) here is there r reads = absurd reads

  -- ---- edges

  phi_kind : (target i : ℕ) (phi : Phi) → slice_get (phis_at prog f.function target) i ≡ Some phi → (block : Block) × (slice_get function.blocks target ≡ Some block) × (slice_get block.phis i ≡ Some phi)
  phi_kind target i phi there = by_block (slice_get function.blocks target) refl (ap (λ o. slice_get (block_phis (and_then o (λ (g : Function). slice_get g.blocks target))) i) (sym at) ∙ there)
    where
      by_block : (o : Option Block) → slice_get function.blocks target ≡ o → slice_get (block_phis o) i ≡ Some phi → (block : Block) × (slice_get function.blocks target ≡ Some block) × (slice_get block.phis i ≡ Some phi)
      by_block None is h = absurd (cc)
      by_block (Some block) is h = (block, is, h)

  edge : (target : ℕ) → IsThere (registers_along prog f target) → (r : ℕ) → EdgeReads prog f target r → Holds r
  edge target there r reads =
      let (i, phi, from, stands, entry, h) = reads in
      let (block, in_function, in_block) = phi_kind target i phi stands in
      let phi_is = kinds.phis f.function target i function block phi at in_function in_block in
      let e = entry_of phi.entries f.block from entry in
      let number : IsNumber function.registers phi.width e.entry.value = All-contains (λ (y : PhiEntry). IsNumber function.registers phi.width y.value) phi.entries e.entry phi_is.entries e.within in
      let value : IsThere (phi_value f.registers f.block phi) = each_phi f.registers f.block (phis_at prog f.function target) f.registers there i phi stands in
      operand phi.width from r (subst (λ (a : Operand). IsNumber function.registers phi.width a) e.value_is number)
      (subst (λ (o : Option Operand). IsThere (and_then o (word_at f.registers))) entry value) h

  by_terminator : (t : Terminator) → IsKindedEnd function.registers t → MayEnd prog p f t → (r : ℕ) → TerminatorReads prog f t r → Holds r
  by_terminator (terminator.Jump target) is there r reads = edge target.0 there r reads
  by_terminator (terminator.Branch test x y) is there r reads = elim reads [
    | inl h ↦ named test r kind.Truth is (truth_there (f.registers test.0) there.0) h
    | inr h ↦ edge (cond h.0 x.0 y.0) (there.1 h.0 h.1) r h.2
  ]
  by_terminator (terminator.Switch w a default cases) is there r reads = elim reads [
    | inl h ↦ operand w a r is there.0 h
    | inr h ↦ edge (case_for h.0 default.0 cases) (there.1 h.0 h.1) r h.2
  ]
  by_terminator (terminator.Return None) is there r reads = absurd reads
  by_terminator (terminator.Return (Some a)) is there r reads = operand Bits64 a r is there.1 reads
  by_terminator (terminator.Detach region body continuation) is there r reads = named region r kind.Region is (region_there (f.registers region.0) p there) reads
  by_terminator (terminator.Reattach region continuation) is there r reads = absurd reads
  by_terminator (terminator.Sync region target) is there r reads = elim reads [
    | inl h ↦ named region r kind.Region is (region_there (f.registers region.0) p there.0) h
    | inr h ↦ edge target.0 there.1 r h
  ]

  pub reads_hold : (x : Item) → item_at prog f.function f.block f.index ≡ Some x → MayDo prog p f m x → (r : ℕ) → ItemReads prog f x r → Holds r
  reads_hold (Does i) here there r reads = by_instruction i here (kinds.steps f.function f.block f.index i function here at) there r reads
  reads_hold (Ends t) here there r reads = by_terminator t (kinds.ends f.function f.block f.index t function here at) there r reads
