-- What a frame loads, stores, zeroes or adds to lies within an object that is there, and what it loads or adds to holds a number.
use Rattle.std.proofs.Common.{◌≡◌, ◌∙◌, ℕ, suc, ◌<◌, Option, Some, None, refl, sym, subst, arith}
use Rattle.syntax.specs.declared.operator.Mode.{Mode}
use Rattle.syntax.specs.declared.operator.Mode.TheVariants.{Reads, Writes, Adds}
use Rattle.semantics.specs.Paths.{Path}
use Rattle.semantics.specs.Cells.{Object, Cell}
use Rattle.semantics.specs.Effect.{Effect, Plain, action_of}
use Rattle.semantics.specs.Frames.{Frame, Item, Does, and_then, item_at, cells_of, object_at, first_cell, cell_at}
use Rattle.semantics.specs.State.{State}
use Rattle.program.specs.declared.function.Program.{Program}
use Rattle.program.specs.declared.identifier.ObjectName.{ObjectName}
use Rattle.program.specs.declared.instruction.Address.{Address}
use Rattle.program.specs.declared.instruction.Address.TheVariants.{First, Element}
use Rattle.program.specs.declared.instruction.Instruction.{Instruction}
use Rattle.program.specs.declared.instruction.Instruction.TheVariants as instruction
use Rattle.types.specs.Apart.{InstructionNames}
use Rattle.laws_phases.specs.defined.Names.{IsNamed}
use Rattle.laws_phases.specs.defined.Values.{NamesObjects}
use Rattle.laws_phases.specs.facts.Traps.{FindsAll, MayDo, IsReady}
use Rattle.laws_phases.specs.zones.Uses.{Uses}
use Rattle.laws_phases.proofs.zones.Touching.{UsesBy, used_here}
use Rattle.laws_schedule.specs.kinds.Uses.{address_in}
use Rattle.laws_schedule.specs.safe.Sizes.{HasSizedUses}
use Rattle.laws_schedule.specs.safe.Objects.{HasCells, HasCell, KnowsObjects}
use Rattle.laws_schedule.proofs.safe.Objects.{object_cells}
use Rattle.laws_schedule.proofs.safe.Owners.{less_cells}
use Rattle.laws_schedule.specs.safe.Safe.{IsHeldFor}
use Rattle.laws_schedule.proofs.safe.Registers.{first_named}

module _ (prog : Program) (named : IsNamed prog) (objects : NamesObjects prog) (sized : HasSizedUses prog) (s : State) (p : Path) (f : Frame) (knows : KnowsObjects prog s p f) where
  module _ (what : Instruction) (here : item_at prog f.function f.block f.index ≡ Some (Does what)) where
    named_cells : (name : ObjectName) (o : Object) → InstructionNames what name → object_at f name ≡ Some o → HasCells prog s p (cells_of prog f.function name) o
    named_cells name o names at = object_cells prog named objects s p f knows name o (λ r same. objects.own f.function f.block f.index what r here (subst (InstructionNames what) same names)) at

    first_there : (name : ObjectName) (c : Cell) → InstructionNames what name → 0 < cells_of prog f.function name → (o : Option Object) → object_at f name ≡ o → and_then o (λ (q : Object). Some (first_cell q)) ≡ Some c → HasCell prog s p c
    first_there name c names some None is e = absurd (cc)
    first_there name c names some (Some q) is e =
        let same : first_cell q ≡ c = cc in
        subst (λ (x : Cell). HasCell prog s p x) same (less_cells prog s p 1 (cells_of prog f.function name) q (omega (arith, some)) (named_cells name q names is))

    address_there : (at : Address) → address_in what ≡ Some at → ((name : ObjectName) → at ≡ First name → InstructionNames what name) → (c : Cell) → cell_at f at ≡ Some c → HasCell prog s p c
    address_there (First name) is names c e = first_there name c (names name refl) (sized.first f.function f.block f.index what name here is) (object_at f name) refl e
    address_there (Element x) is names c e =
        let one = sized.elements f.function f.block f.index what x here is in
        knows.elements one.before x one.name one.index c one.earlier one.is e

  zeros_there : (n : ℕ) (name : ObjectName) → item_at prog f.function f.block f.index ≡ Some (Does (instruction.StoreZeros n name)) → (c : Cell) → object_at f name ≡ Some c.object → c.index < n → HasCell prog s p c
  zeros_there n name here c at low =
      let most = sized.zeros f.function f.block f.index n name here in
      less_cells prog s p (suc c.index) (cells_of prog f.function name) c.object (omega (arith, low, most)) (named_cells (instruction.StoreZeros n name) here name c.object refl at)

  held_for : (mode other : Mode) (c : Cell) → other ≡ mode → IsHeldFor other s.memory c → IsHeldFor mode s.memory c
  held_for mode other c same h = subst (λ (x : Mode). IsHeldFor x s.memory c) same h

  by_instruction : (what : Instruction) → item_at prog f.function f.block f.index ≡ Some (Does what) → FindsAll f s.memory what → (mode : Mode) (c : Cell) → UsesBy f what mode c → HasCell prog s p c × IsHeldFor mode s.memory c
  by_instruction (instruction.Binary d op w a b) here there mode c u = absurd u
  by_instruction (instruction.Compare d by w a b) here there mode c u = absurd u
  by_instruction (instruction.Convert d by a) here there mode c u = absurd u
  by_instruction (instruction.Alloca d a) here there mode c u = absurd u
  by_instruction (instruction.ElementPointer d name i) here there mode c u = absurd u
  by_instruction (instruction.Load d a) here there mode c u = (address_there (instruction.Load d a) here a refl (first_named a) c u.1, held_for mode Reads c u.0 (there.1 c u.1))
  by_instruction (instruction.Store x a) here there mode c u = (address_there (instruction.Store x a) here a refl (first_named a) c u.1, held_for mode Writes c u.0 tt)
  by_instruction (instruction.StoreZeros n name) here there mode c u = (zeros_there n name here c u.1 u.2, held_for mode Writes c u.0 tt)
  by_instruction (instruction.AtomicAdd a x) here there mode c u = (address_there (instruction.AtomicAdd a x) here a refl (first_named a) c u.1, held_for mode Adds c u.0 (there.2 c u.1))
  by_instruction (instruction.Call d g arguments) here there mode c u = absurd u
  by_instruction (instruction.StartRegion d) here there mode c u = absurd u

  pub uses_there : IsReady prog p f s.memory → (e : Effect) (mode : Mode) (c : Cell) → action_of prog p f s.memory ≡ Plain e → Uses e mode c → HasCell prog s p c × IsHeldFor mode s.memory c
  uses_there ready e mode c act u =
      let used = used_here prog p f s.memory e mode c u act in
      by_instruction used.what used.is (found ready.0 used.what (let both : Some ready.0 ≡ Some (Does used.what) = sym ready.1 ∙ used.is in cc) ready.2) mode c used.uses
    where
      found : (x : Item) (what : Instruction) → x ≡ Does what → MayDo prog p f s.memory x → FindsAll f s.memory what
      found x what same h = subst (λ (y : Item). MayDo prog p f s.memory y) same h
