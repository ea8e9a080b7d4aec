-- All that an instruction reads is there, where registers that are defined hold values of their kinds.
use Rattle.std.proofs.Common.{◌≡◌, inl, inr, ℕ, suc, List, [], ◌∷◌, Option, Some, None, Bool, true, false, cond, refl, sym, ap, ◌∙◌, subst, slice_get, is_some, ℤ}
use Rattle.std.specs.List.{Contains}
use Rattle.std.proofs.lemmas.List.Elements.{Contains-append_left, Contains-append_right}
use Rattle.semantics.specs.Paths.{Path}
use Rattle.semantics.specs.Cells.{Object, Cell, Memory}
use Rattle.semantics.specs.Frames.{Value, Word, Truth, Pointer, Region, Registers, Frame, Item, Does, Ends, and_then, block_phis, phis_at, item_at, word_of, truth_of, cell_of, region_of, set_register, word_at, object_at, first_cell, cell_at}
use Rattle.semantics.specs.Effect.{phi_value, with_phis, registers_along, case_for, argument_value, argument_values}
use Rattle.program.specs.Phis.{entry_for}
use Rattle.semantics.proofs.Confluence.{one_result}
use Rattle.linear.specs.declared.form.RegisterId.{RegisterId}
use Rattle.syntax.specs.declared.operator.Width.{Width}
use Rattle.syntax.specs.declared.operator.Width.TheVariants.{Bits64}
use Rattle.program.specs.declared.function.Alloca.{Alloca as AllocaOf}
use Rattle.program.specs.declared.function.Block.{Block}
use Rattle.program.specs.declared.function.Function.{Function}
use Rattle.program.specs.declared.function.Program.{Program}
use Rattle.program.specs.declared.function.RegisterKind.{RegisterKind}
use Rattle.program.specs.declared.function.RegisterKind.TheVariants as kind
use Rattle.program.specs.declared.identifier.BlockId.{BlockId}
use Rattle.program.specs.declared.identifier.ObjectName.{ObjectName}
use Rattle.program.specs.declared.identifier.ObjectName.TheVariants as object
use Rattle.program.specs.declared.instruction.Address.{Address}
use Rattle.program.specs.declared.instruction.Address.TheVariants as address
use Rattle.program.specs.declared.instruction.Argument.{Argument}
use Rattle.program.specs.declared.instruction.Argument.TheVariants as argument
use Rattle.program.specs.declared.instruction.Instruction.{Instruction}
use Rattle.program.specs.declared.instruction.Instruction.TheVariants as instruction
use Rattle.program.specs.declared.instruction.Operand.{Operand}
use Rattle.program.specs.declared.instruction.Operand.TheVariants as operand
use Rattle.program.specs.declared.instruction.Phi.{Phi}
use Rattle.program.specs.declared.instruction.Terminator.{Terminator}
use Rattle.program.specs.declared.instruction.Terminator.TheVariants as terminator
use Rattle.types.specs.Apart.{InstructionNames}
use Rattle.laws_phases.specs.cfg.declared.structure.Way.{Way}
use Rattle.laws_phases.specs.cfg.declared.structure.Way.TheVariants as way
use Rattle.laws_phases.specs.definedness.declared.act.Act.TheVariants.{Needs}
use Rattle.laws_phases.specs.definedness.RegisterActs.{operand_needs, object_needs, address_needs, argument_needs, instruction_needs, terminator_needs}
use Rattle.laws_phases.specs.defined.Leads.{LeadsTo}
use Rattle.laws_phases.specs.defined.Placed.{RolesFit}
use Rattle.laws_phases.specs.defined.Values.{Reads}
use Rattle.laws_phases.proofs.defined.Lists.{first_within, at_within, flat_within}
use Rattle.laws_phases.proofs.defined.Placed.{places_have_items}
use Rattle.laws_phases.proofs.defined.Registers.{uses_are_defined}
use Rattle.laws_phases.proofs.defined.Roles.{roles_fit}
use Rattle.laws_phases.specs.facts.Traps.{FindsAll, MayEnd, MayDo}
use Rattle.laws_schedule.specs.typing.Kinds.{IsOfKind, IsNumber, IsKindedPhi}
use Rattle.laws_schedule.specs.kinds.Holding.{holds_kind}
use Rattle.laws_schedule.specs.kinds.Uses.{address_in}
use Rattle.laws_schedule.specs.kinds.Ready.{IsReadByRules, HoldsAll, FramesAreReady}
use Rattle.laws_schedule.proofs.kinds.Registers.{entry_kinded}
use Rattle.laws_schedule.proofs.kinds.Needed.{entry_there, end_at, end_defined, value_defined, edge_at}
use Rattle.laws_conditions.proofs.rules.Moves.{case_to}

-- ---- values of their kinds

word_some : (w : Width) (o : Option Value) → holds_kind (kind.Number w) o ≡ true → is_some o ≡ true → is_some (word_of o) ≡ true
word_some w None h there = absurd (cc)
word_some w (Some (Word z)) h there = refl
word_some w (Some (Truth b)) h there = absurd (cc)
word_some w (Some (Pointer c)) h there = absurd (cc)
word_some w (Some (Region p)) h there = absurd (cc)

truth_some : (o : Option Value) → holds_kind kind.Truth o ≡ true → is_some o ≡ true → is_some (truth_of o) ≡ true
truth_some None h there = absurd (cc)
truth_some (Some (Word z)) h there = absurd (cc)
truth_some (Some (Truth b)) h there = refl
truth_some (Some (Pointer c)) h there = absurd (cc)
truth_some (Some (Region p)) h there = absurd (cc)

object_some : (o : Option Value) → holds_kind kind.Object o ≡ true → is_some o ≡ true → is_some (cell_of o) ≡ true
object_some None h there = absurd (cc)
object_some (Some (Word z)) h there = absurd (cc)
object_some (Some (Truth b)) h there = absurd (cc)
object_some (Some (Pointer c)) h there = refl
object_some (Some (Region p)) h there = absurd (cc)

element_some : (o : Option Value) → holds_kind kind.Element o ≡ true → is_some o ≡ true → is_some (cell_of o) ≡ true
element_some None h there = absurd (cc)
element_some (Some (Word z)) h there = absurd (cc)
element_some (Some (Truth b)) h there = absurd (cc)
element_some (Some (Pointer c)) h there = refl
element_some (Some (Region p)) h there = absurd (cc)

then_some : {A B : Type 0} (o : Option A) (g : A → B) → is_some o ≡ true → is_some (and_then o (λ x. Some (g x))) ≡ true
then_some None g h = absurd (cc)
then_some (Some a) g h = refl

-- ---- lists of them

arguments_there : (f : Frame) (arguments : List Argument) → ((k : ℕ) (one : Argument) → slice_get arguments k ≡ Some one → is_some (argument_value f one) ≡ true) → is_some (argument_values f arguments) ≡ true
arguments_there f [] each = refl
arguments_there f (a ∷ more) each = by (argument_value f a) (argument_values f more) (each 0 a refl) (arguments_there f more (λ k one at. each (suc k) one at))
  where
    by : (o : Option Value) (os : Option (List Value)) → is_some o ≡ true → is_some os ≡ true → is_some (and_then o (λ v. and_then os (λ vs. Some (v ∷ vs)))) ≡ true
    by None os h k = absurd (cc)
    by (Some v) os h k = then_some os (λ vs. v ∷ vs) k

phis_there : (before : Registers) (from : ℕ) (phis : List Phi) (r : Registers) → ((i : ℕ) (phi : Phi) → slice_get phis i ≡ Some phi → is_some (phi_value before from phi) ≡ true) → is_some (with_phis before from phis r) ≡ true
phis_there before from [] r each = refl
phis_there before from (phi ∷ phis) r each = by (phi_value before from phi) (each 0 phi refl) (λ s. phis_there before from phis s (λ i x at. each (suc i) x at))
  where
    by : (o : Option ℤ) → is_some o ≡ true → ((s : Registers) → is_some (with_phis before from phis s) ≡ true) → is_some (and_then o (λ z. with_phis before from phis (set_register r phi.register (Word z)))) ≡ true
    by None h rest = absurd (cc)
    by (Some z) h rest = rest (set_register r phi.register (Word z))

-- ---- which register an operand, an object or an address needs

operand_within : (line : ℕ) (a : Operand) (x : RegisterId) → a ≡ operand.Register x → Contains (operand_needs line a) (Needs x.0 line)
operand_within line a x e = rw e (first_within (Needs x.0 line) [])

object_within : (allocas : List AllocaOf) (line : ℕ) (name : ObjectName) (r : RegisterId) → name ≡ object.Parameter r → Contains (object_needs allocas line name) (Needs r.0 line)
object_within allocas line name r e = rw e (first_within (Needs r.0 line) [])

-- the register that an address stands in, or that names its object
abbrev InAddress : Address → RegisterId → Type 0
InAddress (address.First name) r = name ≡ object.Parameter r
InAddress (address.Element x) r = x ≡ r

address_within : (allocas : List AllocaOf) (line : ℕ) (at : Address) (r : RegisterId) → InAddress at r → Contains (address_needs allocas line at) (Needs r.0 line)
address_within allocas line (address.First name) r e = object_within allocas line name r e
address_within allocas line (address.Element x) r e = subst (λ (y : RegisterId). Contains (address_needs allocas line (address.Element x)) (Needs y.0 line)) e (first_within (Needs x.0 line) [])

branch_leads : (test : RegisterId) (x y : BlockId) (b : Bool) → LeadsTo (terminator.Branch test x y) way.Branch (cond b x.0 y.0)
branch_leads test x y true = inl refl
branch_leads test x y false = inr refl

module _ (prog : Program) (rules : IsReadByRules prog) (p : Path) (f : Frame) (m : Memory) (held : HoldsAll prog p f m) where
  abbrev function : Function
  function = held.placed.function

  at_function : slice_get prog.functions f.function ≡ Some function
  at_function = held.placed.is.at_function

  holds : (r : ℕ) (k : RegisterKind) → IsOfKind function.registers r k → holds_kind k (f.registers r) ≡ true
  holds r k is = held.kinded.holds function at_function r k is

  word_there : (w : Width) (a : Operand) → IsNumber function.registers w a → ((x : RegisterId) → a ≡ operand.Register x → is_some (f.registers x.0) ≡ true) → is_some (word_at f.registers a) ≡ true
  word_there w (operand.Number z) is there = refl
  word_there w (operand.Register x) is there = word_some w (f.registers x.0) (holds x.0 (kind.Number w) is) (there x refl)

  object_there : (name : ObjectName) → ((r : RegisterId) → name ≡ object.Parameter r → IsOfKind function.registers r.0 kind.Object) → ((r : RegisterId) → name ≡ object.Parameter r → is_some (f.registers r.0) ≡ true) → is_some (object_at f name) ≡ true
  object_there (object.Global g) is there = refl
  object_there (object.Alloca a) is there = refl
  object_there (object.Parameter r) is there = then_some (cell_of (f.registers r.0)) (λ (c : Cell). c.object) (object_some (f.registers r.0) (holds r.0 kind.Object (is r refl)) (there r refl))

  -- ---- instructions

  module _ (what : Instruction) (at : item_at prog f.function f.block f.index ≡ Some (Does what)) where
    defined : (n : ℕ) → ((allocas : List AllocaOf) (line : ℕ) → Contains (instruction_needs allocas line what) (Needs n line)) → is_some (f.registers n) ≡ true
    defined n needed = held.registers n (uses_are_defined prog rules.defined f.function f.block f.index what n at (λ (function : Function) line there. needed function.allocas line))

    named : (name : ObjectName) → InstructionNames what name → ((allocas : List AllocaOf) (line : ℕ) (r : RegisterId) → name ≡ object.Parameter r → Contains (instruction_needs allocas line what) (Needs r.0 line)) → is_some (object_at f name) ≡ true
    named name names needed =
        object_there name (λ r e. rules.uses.objects f.function f.block f.index what r function at at_function (subst (λ (x : ObjectName). InstructionNames what x) e names))
        (λ r e. defined r.0 (λ allocas line. needed allocas line r e))

    addressed : (x : Address) → address_in what ≡ Some x → ((name : ObjectName) → x ≡ address.First name → InstructionNames what name) →
        ((allocas : List AllocaOf) (line : ℕ) (r : RegisterId) → InAddress x r → Contains (instruction_needs allocas line what) (Needs r.0 line)) → is_some (cell_at f x) ≡ true
    addressed (address.First name) is names needed = then_some (object_at f name) first_cell (named name (names name refl) (λ allocas line r e. needed allocas line r e))
    addressed (address.Element r) is names needed =
        element_some (f.registers r.0) (holds r.0 kind.Element (rules.uses.elements f.function f.block f.index what r function at at_function is)) (defined r.0 (λ allocas line. needed allocas line r refl))

    read : (x : Address) → Reads what x → (c : Cell) → cell_at f x ≡ Some c → is_some (m c) ≡ true
    read x reads c is = held.values what x c at reads is

  finds : (what : Instruction) → item_at prog f.function f.block f.index ≡ Some (Does what) → FindsAll f m what
  finds (instruction.Binary d op w a b) at =
      let what : Instruction = instruction.Binary d op w a b in
      let k = rules.kinds.steps f.function f.block f.index what function at at_function in (
        word_there w a k.1 (λ x e. defined what at x.0 (λ allocas line. Contains-append_left (operand_needs line a) (operand_needs line b) (Needs x.0 line) (operand_within line a x e))),
        word_there w b k.2 (λ x e. defined what at x.0 (λ allocas line. Contains-append_right (operand_needs line a) (operand_needs line b) (Needs x.0 line) (operand_within line b x e))),
      )
  finds (instruction.Compare d by w a b) at =
      let what : Instruction = instruction.Compare d by w a b in
      let k = rules.kinds.steps f.function f.block f.index what function at at_function in (
        word_there w a k.1 (λ x e. defined what at x.0 (λ allocas line. Contains-append_left (operand_needs line a) (operand_needs line b) (Needs x.0 line) (operand_within line a x e))),
        word_there w b k.2 (λ x e. defined what at x.0 (λ allocas line. Contains-append_right (operand_needs line a) (operand_needs line b) (Needs x.0 line) (operand_within line b x e))),
      )
  finds (instruction.Convert d by a) at =
      let what : Instruction = instruction.Convert d by a in
      let k = rules.kinds.steps f.function f.block f.index what function at at_function in
      word_there _ a k.1 (λ x e. defined what at x.0 (λ allocas line. operand_within line a x e))
  finds (instruction.Alloca d a) at = tt
  finds (instruction.ElementPointer d name i) at =
      let what : Instruction = instruction.ElementPointer d name i in
      let k = rules.kinds.steps f.function f.block f.index what function at at_function in (
        named what at name refl (λ allocas line r e. Contains-append_left (object_needs allocas line name) (operand_needs line i) (Needs r.0 line) (object_within allocas line name r e)),
        word_there Bits64 i k.1 (λ x e. defined what at x.0 (λ allocas line. Contains-append_right (object_needs allocas line name) (operand_needs line i) (Needs x.0 line) (operand_within line i x e))),
      )
  finds (instruction.Load d a) at =
      let what : Instruction = instruction.Load d a in
      (addressed what at a refl (λ name e. subst (λ (x : Address). InstructionNames (instruction.Load d x) name) (sym e) refl) (λ allocas line r e. address_within allocas line a r e), λ c is. read what at a refl c is)
  finds (instruction.Store v a) at =
      let what : Instruction = instruction.Store v a in
      let k = rules.kinds.steps f.function f.block f.index what function at at_function in (
        addressed what at a refl (λ name e. subst (λ (x : Address). InstructionNames (instruction.Store v x) name) (sym e) refl) (λ allocas line r e. Contains-append_right (operand_needs line v) (address_needs allocas line a) (Needs r.0 line) (address_within allocas line a r e)),
        word_there Bits64 v k (λ x e. defined what at x.0 (λ allocas line. Contains-append_left (operand_needs line v) (address_needs allocas line a) (Needs x.0 line) (operand_within line v x e))),
      )
  finds (instruction.StoreZeros cells name) at = named (instruction.StoreZeros cells name) at name refl (λ allocas line r e. object_within allocas line name r e)
  finds (instruction.AtomicAdd a v) at =
      let what : Instruction = instruction.AtomicAdd a v in
      let k = rules.kinds.steps f.function f.block f.index what function at at_function in (
        addressed what at a refl (λ name e. subst (λ (x : Address). InstructionNames (instruction.AtomicAdd x v) name) (sym e) refl) (λ allocas line r e. Contains-append_left (address_needs allocas line a) (operand_needs line v) (Needs r.0 line) (address_within allocas line a r e)),
        word_there Bits64 v k (λ x e. defined what at x.0 (λ allocas line. Contains-append_right (address_needs allocas line a) (operand_needs line v) (Needs x.0 line) (operand_within line v x e))),
        λ c is. read what at a refl c is,
      )
  finds (instruction.Call d g arguments) at = arguments_there f arguments (λ k one there. by k one there)
    where
      what : Instruction
      what = instruction.Call d g arguments

      within : (k : ℕ) (one : Argument) (n : ℕ) → slice_get arguments k ≡ Some one → ((allocas : List AllocaOf) (line : ℕ) → Contains (argument_needs allocas line one) (Needs n line)) → is_some (f.registers n) ≡ true
      within k one n there needed = defined what at n (λ allocas line. flat_within (argument_needs allocas line) arguments one (Needs n line) (at_within arguments k one there) (needed allocas line))

      by : (k : ℕ) (one : Argument) → slice_get arguments k ≡ Some one → is_some (argument_value f one) ≡ true
      by k (argument.Number a) there =
          let number : IsNumber function.registers Bits64 a = (rules.kinds.steps f.function f.block f.index what function at at_function).1 k (argument.Number a) there in
          then_some (word_at f.registers a) Word (word_there Bits64 a number (λ x e. within k (argument.Number a) x.0 there (λ allocas line. operand_within line a x e)))
      by k (argument.Object name) there =
          then_some (object_at f name) (λ (o : Object). Pointer (first_cell o))
          (object_there name
          (λ r e. rules.uses.objects f.function f.block f.index what r function at at_function (k, there ∙ ap (λ (x : ObjectName). Some (argument.Object x)) e))
          (λ r e. within k (argument.Object name) r.0 there (λ allocas line. object_within allocas line name r e)))
  finds (instruction.StartRegion d) at = tt

  -- ---- terminators

  module _ (t : Terminator) (at : item_at prog f.function f.block f.index ≡ Some (Ends t)) where
    needed_there : (n : ℕ) → ((line : ℕ) → Contains (terminator_needs line t) (Needs n line)) → is_some (f.registers n) ≡ true
    needed_there n needed = held.registers n (end_defined prog rules.defined f.function f.block f.index t at n needed)

    -- each phi of the block that it leads to takes a value
    module _ (w : Way) (to : ℕ) (target : Block) (there : slice_get function.blocks to ≡ Some target) (leads : LeadsTo t w to) where
      same_function : (end_at prog rules.defined f.function f.block f.index t at).function ≡ function
      same_function = one_result (slice_get prog.functions f.function) (end_at prog rules.defined f.function f.block f.index t at).function function (end_at prog rules.defined f.function f.block f.index t at).is.at_function at_function

      there_at_end : slice_get (end_at prog rules.defined f.function f.block f.index t at).function.blocks to ≡ Some target
      there_at_end = subst (λ (x : Function). slice_get x.blocks to ≡ Some target) (sym same_function) there

      taken : (i : ℕ) (phi : Phi) → slice_get target.phis i ≡ Some phi → is_some (phi_value f.registers f.block phi) ≡ true
      taken i phi at_phi =
          by (entry_for f.block phi.entries) refl
          (entry_there prog rules.graph f.function f.block to i (end_at prog rules.defined f.function f.block f.index t at).function target w phi (end_at prog rules.defined f.function f.block f.index t at).is.at_function there_at_end
          (edge_at prog rules.defined f.function f.block f.index t at w to target there_at_end leads) at_phi)
        where
          is : IsKindedPhi function.registers phi
          is = rules.kinds.phis f.function to i function target phi at_function there at_phi

          by : (o : Option Operand) → entry_for f.block phi.entries ≡ o → is_some o ≡ true → is_some (and_then o (word_at f.registers)) ≡ true
          by None e h = absurd (cc)
          by (Some a) e h =
              word_there phi.width a (entry_kinded function.registers phi.width f.block phi.entries a is.entries e)
              (λ x same. held.registers x.0 (value_defined prog rules.defined f.function f.block f.index t at to i target phi x there_at_end at_phi (e ∙ ap (λ (y : Operand). Some y) same)))

    along_there : (w : Way) (to : ℕ) → LeadsTo t w to → is_some (registers_along prog f to) ≡ true
    along_there w to leads = by (slice_get function.blocks to) refl
      where
        read_phis : phis_at prog f.function to ≡ block_phis (slice_get function.blocks to)
        read_phis = rw at_function refl

        by : (o : Option Block) → slice_get function.blocks to ≡ o → is_some (registers_along prog f to) ≡ true
        by None is =
            let none : phis_at prog f.function to ≡ [] = read_phis ∙ ap block_phis is in
            rw none refl
        by (Some target) is =
            let all : phis_at prog f.function to ≡ target.phis = read_phis ∙ ap block_phis is in
            rw all (phis_there f.registers f.block target.phis f.registers (λ i phi at_phi. taken w to target is leads i phi at_phi))

  roles : RolesFit prog f
  roles = roles_fit prog rules.regions f held.placed

  ends : (t : Terminator) → item_at prog f.function f.block f.index ≡ Some (Ends t) → MayEnd prog p f t
  ends (terminator.Jump target) at = along_there (terminator.Jump target) at way.Branch target.0 refl
  ends (terminator.Branch test x y) at =
      let t : Terminator = terminator.Branch test x y in (
        truth_some (f.registers test.0) (holds test.0 kind.Truth (rules.kinds.ends f.function f.block f.index t function at at_function)) (needed_there t at test.0 (λ line. first_within (Needs test.0 line) [])),
        λ b is. along_there t at way.Branch (cond b x.0 y.0) (branch_leads test x y b),
      )
  ends (terminator.Switch w a default cases) at =
      let t : Terminator = terminator.Switch w a default cases in (
        word_there w a (rules.kinds.ends f.function f.block f.index t function at at_function) (λ x e. needed_there t at x.0 (λ line. operand_within line a x e)),
        λ z is. along_there t at way.Branch (case_for z default.0 cases) (case_to z default cases),
      )
  ends (terminator.Return None) at = roles.returns None at
  ends (terminator.Return (Some a)) at =
      let t : Terminator = terminator.Return (Some a) in
      (roles.returns (Some a) at, word_there Bits64 a (rules.kinds.ends f.function f.block f.index t function at at_function) (λ x e. needed_there t at x.0 (λ line. operand_within line a x e)))
  ends (terminator.Detach region body continuation) at =
      let t : Terminator = terminator.Detach region body continuation in
      ap region_of (held.regions.detaches region body continuation at (needed_there t at region.0 (λ line. first_within (Needs region.0 line) [])))
  ends (terminator.Reattach region continuation) at = roles.reattaches region continuation at
  ends (terminator.Sync region target) at =
      let t : Terminator = terminator.Sync region target in
      (ap region_of (held.regions.syncs region target at (needed_there t at region.0 (λ line. first_within (Needs region.0 line) []))), along_there t at (way.Synced region) target.0 (refl, refl))

  may_do : (x : Item) → item_at prog f.function f.block f.index ≡ Some x → MayDo prog p f m x
  may_do (Does what) at = finds what at
  may_do (Ends t) at = ends t at

pub frames_are_ready : FramesAreReady
frames_are_ready prog rules p f m held =
    let x = places_have_items prog rules.graph f held.placed in
    (x.0, x.1, may_do prog rules p f m held x.0 x.1)
