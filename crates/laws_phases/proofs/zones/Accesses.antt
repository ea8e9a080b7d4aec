-- Each cell that an instruction uses lies in the zones of its place.
use Rattle.std.proofs.Common.{◌≡◌, ◌∙◌, ℕ, zero, suc, ◌<◌, List, [], ◌∷◌, Option, Some, None, Bool, true, false, cond, refl, sym, ap, subst, ℤ, pos, ◌+ℤ◌, ◌≤ℤ◌, arith}
use Rattle.std.specs.Prelude.{◌==◌, slice_get}
use Rattle.std.proofs.lemmas.Bool.{false≢true, eqb-true}
use Rattle.std.proofs.lemmas.Int.{ints}
use Rattle.syntax.specs.declared.operator.Mode.{Mode}
use Rattle.syntax.specs.declared.operator.Mode.TheVariants.{Reads, Writes, Adds}
use Rattle.linear.specs.declared.form.RegisterId.{RegisterId}
use Rattle.semantics.specs.Cells.{Object, Cell}
use Rattle.semantics.specs.Frames.{Frame, and_then, object_at, first_cell, cell_at}
use Rattle.program.specs.declared.identifier.ObjectName.{ObjectName}
use Rattle.program.specs.declared.function.Block.{Block}
use Rattle.program.specs.declared.function.Function.{Function}
use Rattle.program.specs.declared.function.Program.{Program}
use Rattle.program.specs.declared.instruction.Address.{Address}
use Rattle.program.specs.declared.instruction.Address.TheVariants.{First, Element}
use Rattle.program.specs.declared.instruction.Instruction.{Instruction}
use Rattle.program.specs.declared.instruction.Instruction.TheVariants as instruction
use Rattle.program.specs.declared.instruction.Operand.{Operand}
use Rattle.program.specs.declared.instruction.Operand.TheVariants.{Number, Register}
use Rattle.program.specs.declared.instruction.Step.{Step}
use Rattle.types.specs.Apart.{AddressNames, InstructionNames, IsNamedBy, in_instruction}
use Rattle.region_match.specs.declared.tables.Regions.{Regions}
use Rattle.ranges.specs.Places.{facts_at_step}
use Rattle.ranges.specs.Truth.{operand_value}
use Rattle.footprints.specs.declared.access.Cell.{Cell as NamedCell}
use Rattle.footprints.specs.footprints_zones.declared.place.Use.{Use}
use Rattle.footprints.specs.Zones.{as_written}
use Rattle.footprints.specs.Cells.{end_value, HasCell}
use Rattle.footprints.specs.Footprints.{Place, pointed, pointer_of, address_cell, form_at, cells_zone, access_use, cell_use, step_use, first_cell as first_named}
use Rattle.program.specs.Steps.{or_else}
use Rattle.footprints.specs.Rules.{place_in}
use Rattle.laws_conditions.specs.rules.Costs.{numbers}
use Rattle.laws_phases.specs.zones.Uses.{StandsIn, KnownHolds, NamesApart, IsAt, ElementsHold, task_of, MayUse}
use Rattle.footprints.specs.Rules.{AreZonesRightBy}
use Rattle.laws_phases.specs.zones.Accesses.{AccessesAreLet}
use Rattle.laws_phases.proofs.zones.Places.{step_here, step_covered, step_clear}
use Rattle.laws_phases.proofs.zones.Spans.{span_let, used_name}
use Rattle.laws_phases.proofs.zones.Touching.{UsesBy, UsedHere, used_here}

-- ---- the zone of an access has its cell

form_is : (v : ℕ → ℤ) (x : Operand) (n : ℕ) → end_value v [] (form_at x n) ≡ operand_value v x +ℤ pos n
form_is v (Number z) n = omega (arith, ints)
form_is v (Register r) n = omega (arith, ints)

low_end : (a z c : ℤ) (k : ℕ) → a ≡ z +ℤ pos 0 → (z +ℤ pos k) ≡ c → a ≤ℤ c
low_end a z c k e h = omega (arith, ints, e, h)

plain : (z : ℤ) (n : ℕ) → z ≡ pos n → (z +ℤ pos 0) ≡ pos n
plain z n e = omega (arith, ints, e)

from_zero : (n : ℕ) → (pos 0 +ℤ pos n) ≡ pos n
from_zero n = omega (arith, ints)

high_end : (a z c : ℤ) (k n : ℕ) → a ≡ z +ℤ pos n → (z +ℤ pos k) ≡ c → k < n → (c +ℤ pos 1) ≤ℤ a
high_end a z c k n e h lt = omega (arith, ints, e, h, lt)

cells_have : (v : ℕ → ℤ) (line : ℕ) (mode : Mode) (named : NamedCell) (count k : ℕ) (c : Cell) → (operand_value v named.index +ℤ pos k) ≡ pos c.index → k < count → HasCell v (as_written (cells_zone line mode named count)) named.object (pos c.index)
cells_have v line mode named count k c at lt = record {
  object_is = refl;
  from_low = low_end _ (operand_value v named.index) (pos c.index) k (form_is v named.index 0) at;
  before_high = high_end _ (operand_value v named.index) (pos c.index) k count (form_is v named.index count) at lt;
}

-- the `getelementptr` that is meant stands in the block
same_cell_held : (a b : Cell) → Some a ≡ Some b → a ≡ b
same_cell_held a b e = cc

same_cell_named : (a b : NamedCell) → Some a ≡ Some b → a ≡ b
same_cell_named a b e = cc

chosen_cell : (d x : RegisterId) (name : ObjectName) (index : Operand) (named : NamedCell) (b : Bool) → d.0 == x.0 ≡ b → cond b (Some (record { object = name; index = index })) None ≡ Some named →
    (instruction.ElementPointer d name index ≡ instruction.ElementPointer d named.object named.index) × (d.0 ≡ x.0)
chosen_cell d x name index named true is e = (ap (λ (n : NamedCell). instruction.ElementPointer d n.object n.index) (same_cell_named (record { object = name; index = index }) named e), eqb-true d.0 x.0 is)
chosen_cell d x name index named false is e = absurd (cc)

defines : (x : RegisterId) (what : Instruction) (named : NamedCell) → pointer_of x what ≡ Some named → (d : RegisterId) × (what ≡ instruction.ElementPointer d named.object named.index) × (d.0 ≡ x.0)
defines x (instruction.Binary d op w a b) named e = absurd (cc)
defines x (instruction.Compare d by w a b) named e = absurd (cc)
defines x (instruction.Convert d by a) named e = absurd (cc)
defines x (instruction.Alloca d a) named e = absurd (cc)
defines x (instruction.ElementPointer d name i) named e = let h = chosen_cell d x name i named (d.0 == x.0) refl e in (d, h.0, h.1)
defines x (instruction.Load d address) named e = absurd (cc)
defines x (instruction.Store a address) named e = absurd (cc)
defines x (instruction.StoreZeros cells name) named e = absurd (cc)
defines x (instruction.AtomicAdd address a) named e = absurd (cc)
defines x (instruction.Call d callee arguments) named e = absurd (cc)
defines x (instruction.StartRegion d) named e = absurd (cc)

abbrev pub PointedAt : RegisterId → List Step → NamedCell → Type 0
PointedAt x steps named = (s : ℕ) × (step : Step) × (d : RegisterId) × (slice_get steps s ≡ Some step) × (step.instruction ≡ instruction.ElementPointer d named.object named.index) × (d.0 ≡ x.0)

pub pointed_at : (x : RegisterId) (steps : List Step) (named : NamedCell) → pointed x steps ≡ Some named → PointedAt x steps named
pointed_at x [] named e = absurd (cc)
pointed_at x (step ∷ steps) named e = from (pointer_of x step.instruction) refl (λ k. pointed_at x steps named k) e
  where
    from : (o : Option NamedCell) → pointer_of x step.instruction ≡ o → (pointed x steps ≡ Some named → PointedAt x steps named) → or_else o (pointed x steps) ≡ Some named → PointedAt x (step ∷ steps) named
    from None at later k = let h = later k in (suc h.0, h.1, h.2, h.3, h.4, h.5)
    from (Some n) at later k = let h = defines x step.instruction named (at ∙ k) in (zero, step, h.0, refl, h.1, h.2)

module _ (prog : Program) (regions : Regions) (right : AreZonesRightBy prog regions) (f : Frame) (function : Function) (block : Block) (stands : StandsIn prog f function block)
    (known : KnownHolds prog f function block) (names : NamesApart prog f) (elements : ElementsHold f block) where
  named_in : (s : ℕ) (step : Step) (name : ObjectName) → slice_get block.steps s ≡ Some step → (what : Instruction) → step.instruction ≡ what → InstructionNames what name → IsNamedBy prog.functions f.function name
  named_in s step name at what is names_it =
      in_instruction f.block s what
      (record { block = block; step = step; at_block = record { function = function; at_function = stands.at_function; at_block = stands.at_block }; at_step = at; does = is }) names_it

  module _ (step : Step) (at : slice_get block.steps f.index ≡ Some step) where
    abbrev place : Place
    place = place_in function (task_of regions f) block (facts_at_step prog.functions function f.block block f.index)

    -- where a zone of cells is the use that was judged
    zone_let : (mode : Mode) (named : NamedCell) (count k : ℕ) (c : Cell) → (used : Use) → used ≡ access_use place (Some (cells_zone step.line mode named count)) → used.covered ≡ true → used.clear ≡ true →
        IsNamedBy prog.functions f.function named.object → object_at f named.object ≡ Some c.object → (operand_value (numbers f.registers) named.index +ℤ pos k) ≡ pos c.index → k < count → MayUse regions f function block mode c
    zone_let mode named count k c used is covered clear named_by object index lt =
        span_let prog regions f function block stands names (facts_at_step prog.functions function f.block block f.index) (known.at_step step at) (as_written (cells_zone step.line mode named count)) c object
        (cells_have (numbers f.registers) step.line mode named count k c index lt) (used_name prog.functions f.function named.object named_by) (sym (ap (λ (u : Use). u.covered) is) ∙ covered) (sym (ap (λ (u : Use). u.clear) is) ∙ clear)

    -- a use of one cell at an address
    address_let : (mode : Mode) (address : Address) (c : Cell) → IsAt step.instruction address → ((name : ObjectName) → address ≡ First name → IsNamedBy prog.functions f.function name) → cell_at f address ≡ Some c →
        (cell_use place step.line mode (address_cell block.steps address)).covered ≡ true → (cell_use place step.line mode (address_cell block.steps address)).clear ≡ true → MayUse regions f function block mode c
    address_let mode (First name) c used named_by is covered clear = from (object_at f name) refl is
      where
        from : (o : Option Object) → object_at f name ≡ o → and_then o (λ (x : Object). Some (first_cell x)) ≡ Some c → MayUse regions f function block mode c
        from None e k = absurd (cc)
        from (Some o) e k =
            let same = same_cell_held (first_cell o) c k in
            zone_let mode (first_named name) 1 0 c (cell_use place step.line mode (address_cell block.steps (First name))) refl covered clear (named_by name refl)
            (e ∙ ap (λ (x : Cell). Some x.object) same) (plain (pos 0) c.index (ap (λ (x : Cell). pos x.index) same)) (omega arith)
    address_let mode (Element x) c used named_by is covered clear = from (pointed x block.steps) refl covered clear
      where
        from : (o : Option NamedCell) → pointed x block.steps ≡ o → (cell_use place step.line mode o).covered ≡ true → (cell_use place step.line mode o).clear ≡ true → MayUse regions f function block mode c
        from None e a b = absurd (false≢true a)
        from (Some named) e a b =
            let there = pointed_at x block.steps named e in
            let holds = elements step x named c at used e is in
            zone_let mode named 1 0 c (cell_use place step.line mode (Some named)) refl a b (named_in there.0 there.1 named.object there.3 (instruction.ElementPointer there.2 named.object named.index) there.4 refl)
            holds.0 (plain (operand_value (numbers f.registers) named.index) c.index holds.1) (omega arith)

    -- what was judged of the instruction
    judged : (what : Instruction) → step.instruction ≡ what → ((step_use place prog.functions block.steps step.line what).covered ≡ true) × ((step_use place prog.functions block.steps step.line what).clear ≡ true)
    judged what is = (
      subst (λ (i : Instruction). (step_use place prog.functions block.steps step.line i).covered ≡ true) is (step_covered prog f function block stands regions right step at),
      subst (λ (i : Instruction). (step_use place prog.functions block.steps step.line i).clear ≡ true) is (step_clear prog f function block stands regions right step at),
    )

    names_first : (address : Address) (name : ObjectName) → address ≡ First name → AddressNames address name
    names_first address name e = subst (λ (a : Address). AddressNames a name) (sym e) refl

    instruction_let : (what : Instruction) (mode : Mode) (c : Cell) → step.instruction ≡ what → UsesBy f what mode c → MayUse regions f function block mode c
    instruction_let (instruction.Binary d op w a b) mode c is u = absurd u
    instruction_let (instruction.Compare d by w a b) mode c is u = absurd u
    instruction_let (instruction.Convert d by a) mode c is u = absurd u
    instruction_let (instruction.Alloca d a) mode c is u = absurd u
    instruction_let (instruction.ElementPointer d name i) mode c is u = absurd u
    instruction_let (instruction.Load d address) mode c is u =
        let what : Instruction = instruction.Load d address in
        let rule = judged what is in
        subst (λ (m : Mode). MayUse regions f function block m c) u.0 (address_let Reads address c (subst (λ (i : Instruction). IsAt i address) (sym is) refl) (λ name e. named_in f.index step name at what is (names_first address name e)) u.1 rule.0 rule.1)
    instruction_let (instruction.Store a address) mode c is u =
        let what : Instruction = instruction.Store a address in
        let rule = judged what is in
        subst (λ (m : Mode). MayUse regions f function block m c) u.0 (address_let Writes address c (subst (λ (i : Instruction). IsAt i address) (sym is) refl) (λ name e. named_in f.index step name at what is (names_first address name e)) u.1 rule.0 rule.1)
    instruction_let (instruction.StoreZeros cells name) mode c is u =
        let what : Instruction = instruction.StoreZeros cells name in
        let rule = judged what is in
        subst (λ (m : Mode). MayUse regions f function block m c) u.0
        (zone_let Writes (first_named name) cells c.index c (step_use place prog.functions block.steps step.line what) refl rule.0 rule.1 (named_in f.index step name at what is refl) u.1 (from_zero c.index) u.2)
    instruction_let (instruction.AtomicAdd address a) mode c is u =
        let what : Instruction = instruction.AtomicAdd address a in
        let rule = judged what is in
        subst (λ (m : Mode). MayUse regions f function block m c) u.0 (address_let Adds address c (subst (λ (i : Instruction). IsAt i address) (sym is) refl) (λ name e. named_in f.index step name at what is (names_first address name e)) u.1 rule.0 rule.1)
    instruction_let (instruction.Call d callee arguments) mode c is u = absurd u
    instruction_let (instruction.StartRegion d) mode c is u = absurd u

  used_let : (mode : Mode) (c : Cell) → UsedHere prog f mode c → MayUse regions f function block mode c
  used_let mode c here =
      let there = step_here prog f function block stands here.what here.is in
      instruction_let there.0 there.1 here.what mode c there.2 here.uses

pub accesses_let : AccessesAreLet
accesses_let prog regions right p f m function block stands known names elements e at mode c u = used_let prog regions right f function block stands known names elements mode c (used_here prog p f m e mode c u at)
