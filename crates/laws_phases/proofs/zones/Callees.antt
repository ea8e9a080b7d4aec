-- What a callee may touch, its caller may touch at the call.
use Rattle.std.proofs.Common.{◌≡◌, ◌∙◌, ℕ, zero, suc, ◌+◌, ◌<◌, ℤ, pos, ◌+ℤ◌, ◌*ℤ◌, ◌≤ℤ◌, List, [], ◌∷◌, length, Option, Some, None, true, inl, inr, refl, sym, ap, subst, arith}
use Rattle.std.specs.Prelude.{◌==◌, if◌then◌else◌, Contains, All, slice_get}
use Rattle.std.specs.Option.{option_map}
use Rattle.std.proofs.lemmas.Bool.{false≢true}
use Rattle.std.proofs.lemmas.Bool.Decides.{eqb_tells}
use Rattle.std.proofs.lemmas.List.Elements.{All-contains, All-head, All-tail}
use Rattle.linear.specs.declared.form.RegisterId.{RegisterId}
use Rattle.linear.specs.declared.form.Term.{Term}
use Rattle.linear.specs.Forms.{value_of, value}
use Rattle.linear.specs.Terms.{Combination}
use Rattle.semantics.specs.Paths.{Path}
use Rattle.semantics.specs.Cells.{Object, Cell}
use Rattle.semantics.specs.Written.{or_zero}
use Rattle.semantics.specs.Frames.{Value, Word, Pointer, Frame, and_then, cell_of, word_of, word_at, object_at, first_cell}
use Rattle.semantics.specs.Effect.{argument_value, argument_values}
use Rattle.semantics.specs.State.{called}
use Rattle.program.specs.declared.annotation.Zone.{Zone}
use Rattle.program.specs.declared.identifier.FunctionId.{FunctionId}
use Rattle.program.specs.declared.identifier.ObjectName.{ObjectName}
use Rattle.program.specs.declared.identifier.ObjectName.TheVariants.{Global, Alloca, Parameter}
use Rattle.program.specs.declared.function.Block.{Block}
use Rattle.program.specs.declared.function.Function.{Function}
use Rattle.program.specs.declared.function.Program.{Program}
use Rattle.program.specs.declared.instruction.Argument.{Argument}
use Rattle.program.specs.declared.instruction.Argument.TheVariants as argument
use Rattle.program.specs.declared.instruction.Instruction.{Instruction}
use Rattle.program.specs.declared.instruction.Instruction.TheVariants as instruction
use Rattle.program.specs.declared.instruction.Operand.{Operand}
use Rattle.program.specs.declared.instruction.Operand.TheVariants.{Number, Register}
use Rattle.program.specs.declared.instruction.Step.{Step}
use Rattle.types.specs.Apart.{IsInstructionAt, in_instruction, in_zone, itself, through}
use Rattle.cfg.specs.declared.structure.Move.{Move}
use Rattle.region_match.specs.declared.tables.Regions.{Regions}
use Rattle.ranges.specs.ranges_owed.Inequalities.{operand_for, argument_operand, argument_moves}
use Rattle.ranges.specs.Places.{facts_at_step}
use Rattle.ranges.specs.Truth.{operand_value}
use Rattle.footprints.specs.Zones.{span}
use Rattle.footprints.specs.Cells.{terms_value, end_value}
use Rattle.footprints.specs.Footprints.{Place, argument_object, put_object, put_in, is_put_allowed, is_put_clear, callee_use, call_use, step_use}
use Rattle.footprints.specs.Rules.{place_in}
use Rattle.laws_conditions.specs.rules.Costs.{numbers}
use Rattle.laws_conditions.proofs.rules.Moves.{calls_here}
use Rattle.laws_phases.specs.zones.Uses.{StandsIn, KnownHolds, IsUsed, NamesApart, HoldsCell, task_of, MayUse}
use Rattle.footprints.specs.Rules.{AreZonesRightBy}
use Rattle.laws_phases.specs.zones.Callees.{IsOverParameters, CalleesAreLet}
use Rattle.laws_phases.proofs.zones.Places.{get_is, all_pass, step_here, step_covered, step_clear}
use Rattle.laws_phases.proofs.zones.Spans.{span_let, used_name, turned}

-- ---- arguments

-- a value, and the operand that stands for it in forms
abbrev StandsFor : Frame → Argument → Value → Type 0
StandsFor f a v = or_zero (word_of (Some v)) ≡ operand_value (numbers f.registers) (argument_operand a)

word_stands : (f : Frame) (x : Operand) (z : ℤ) → word_at f.registers x ≡ Some z → z ≡ operand_value (numbers f.registers) x
word_stands f (Number n) z e = some_is n z e
  where
    some_is : (a b : ℤ) → Some a ≡ Some b → b ≡ a
    some_is a b e = cc
word_stands f (Register r) z e = sym (ap or_zero e)

argument_stands : (f : Frame) (a : Argument) (v : Value) → argument_value f a ≡ Some v → StandsFor f a v
argument_stands f (argument.Number x) v e = from (word_at f.registers x) refl e
  where
    from : (o : Option ℤ) → word_at f.registers x ≡ o → and_then o (λ z. Some (Word z)) ≡ Some v → or_zero (word_of (Some v)) ≡ operand_value (numbers f.registers) x
    from None at k = absurd (cc)
    from (Some z) at k = ap (λ w. or_zero (word_of w)) (sym k) ∙ word_stands f x z at
argument_stands f (argument.Object name) v e = from (object_at f name) e
  where
    from : (o : Option Object) → and_then o (λ x. Some (Pointer (first_cell x))) ≡ Some v → or_zero (word_of (Some v)) ≡ pos 0
    from None k = absurd (cc)
    from (Some o) k = ap (λ w. or_zero (word_of w)) (sym k)

-- the values of a call, one by one
record Parted (f : Frame) (a : Argument) (more : List Argument) (values : List Value) : Type 0 where
  value : Value
  rest : List Value
  value_is : argument_value f a ≡ Some value
  rest_are : argument_values f more ≡ Some rest
  whole : value ∷ rest ≡ values

parted : (f : Frame) (a : Argument) (more : List Argument) (values : List Value) → argument_values f (a ∷ more) ≡ Some values → Parted f a more values
parted f a more values e = from (argument_value f a) refl (argument_values f more) refl e
  where
    from : (o : Option Value) → argument_value f a ≡ o → (os : Option (List Value)) → argument_values f more ≡ os → and_then o (λ v. and_then os (λ vs. Some (v ∷ vs))) ≡ Some values → Parted f a more values
    from None at os rest k = absurd (cc)
    from (Some v) at None rest k = absurd (cc)
    from (Some v) at (Some vs) rest k = record { value = v; rest = vs; value_is = at; rest_are = rest; whole = cc }

moved_on : (n k : ℕ) → suc n + k ≡ n + suc k
moved_on n k = omega arith

-- what a register of the callee holds, from the arguments from this one on
register_is : (f : Frame) (n k : ℕ) (arguments : List Argument) (values : List Value) → argument_values f arguments ≡ Some values → k < length values →
    or_zero (word_of (slice_get values k)) ≡ operand_value (numbers f.registers) (operand_for (argument_moves n arguments) (record { 0 = n + k }))
register_is f n k [] values e lt = absurd (none values e lt)
  where
    none : (vs : List Value) → Some [] ≡ Some vs → k < length vs → ⊥
    none [] e lt = omega (arith, lt)
    none (v ∷ vs) e lt = absurd (cc)
register_is f n zero (a ∷ more) values e lt =
    let parts = parted f a more values e in
    subst (λ (vs : List Value). or_zero (word_of (slice_get vs 0)) ≡ operand_value (numbers f.registers) (operand_for (argument_moves n (a ∷ more)) (record { 0 = n + 0 }))) parts.whole
    (argument_stands f a parts.value parts.value_is ∙ ap (λ o. operand_value (numbers f.registers) o) (sym (chosen n (argument_operand a) (operand_for (argument_moves (suc n) more) (record { 0 = n + 0 })))))
  where
    chosen : (n : ℕ) (x y : Operand) → (if n == n + 0 then x else y) ≡ x
    chosen n x y = elim (eqb_tells n (n + 0)) [ inl e ↦ rw e.0 refl | inr e ↦ absurd (e.1 (omega arith)) ]
register_is f n (suc k) (a ∷ more) values e lt =
    let parts = parted f a more values e in
    subst (λ (vs : List Value). or_zero (word_of (slice_get vs (suc k))) ≡ operand_value (numbers f.registers) (operand_for (argument_moves n (a ∷ more)) (record { 0 = n + suc k }))) parts.whole
    (register_is f (suc n) k more parts.rest parts.rest_are (shorter parts.rest parts.value values parts.whole lt)
    ∙ ap (λ o. operand_value (numbers f.registers) o) (later n k (argument_operand a) (argument_moves (suc n) more)))
  where
    shorter : (rest : List Value) (v : Value) (vs : List Value) → v ∷ rest ≡ vs → suc k < length vs → k < length rest
    shorter rest v vs e lt = let l : length (v ∷ rest) ≡ length vs = ap length e in omega (arith, l, lt)

    later : (n k : ℕ) (x : Operand) (moves : List Move) → operand_for moves (record { 0 = suc n + k }) ≡ (if n == n + suc k then x else operand_for moves (record { 0 = n + suc k }))
    later n k x moves = elim (eqb_tells n (n + suc k)) [
      | inl e ↦ absurd (omega (arith, e.1))
      | inr e ↦ rw e.0 (ap (λ (j : ℕ). operand_for moves (record { 0 = j })) (moved_on n k))
    ]

nothing_more : (k : ℕ) → 0 + k ≡ k
nothing_more k = omega arith

parameter_is : (f : Frame) (arguments : List Argument) (values : List Value) → argument_values f arguments ≡ Some values → (k : ℕ) → k < length values →
    numbers (slice_get values) k ≡ operand_value (numbers f.registers) (operand_for (argument_moves 0 arguments) (record { 0 = k }))
parameter_is f arguments values e k lt =
    subst (λ (j : ℕ). or_zero (word_of (slice_get values k)) ≡ operand_value (numbers f.registers) (operand_for (argument_moves 0 arguments) (record { 0 = j }))) (nothing_more k) (register_is f 0 k arguments values e lt)

-- ---- ends put in

terms_called : (v w : ℕ → ℤ) (moves : List Move) (n : ℕ) → ((k : ℕ) → k < n → w k ≡ operand_value v (operand_for moves (record { 0 = k }))) → (ts : List Term) → All (λ t. t.register.0 < n) ts → terms_value v moves ts ≡ value_of w ts
terms_called v w moves n same [] all = refl
terms_called v w moves n same (t ∷ ts) all =
    ap (λ x. (t.coefficient *ℤ x) +ℤ terms_value v moves ts) (sym (same t.register.0 (All-head (λ (u : Term). u.register.0 < n) t ts all)))
    ∙ ap (λ x. (t.coefficient *ℤ w t.register.0) +ℤ x) (terms_called v w moves n same ts (All-tail (λ (u : Term). u.register.0 < n) t ts all))

end_called : (v w : ℕ → ℤ) (moves : List Move) (n : ℕ) → ((k : ℕ) → k < n → w k ≡ operand_value v (operand_for moves (record { 0 = k }))) → (e : Combination) → All (λ t. t.register.0 < n) e.terms → end_value v moves e ≡ value w e
end_called v w moves n same e all = ap (λ x. e.constant +ℤ x) (terms_called v w moves n same e.terms all) ∙ turned e.constant (value_of w e.terms)

-- ---- names put in

some_name : (a b : ObjectName) → Some a ≡ Some b → a ≡ b
some_name a b e = cc

-- the argument behind a pointer
pointer_from : (f : Frame) (arguments : List Argument) (values : List Value) (r : ℕ) (o : Object) → argument_values f arguments ≡ Some values → and_then (cell_of (slice_get values r)) (λ (c : Cell). Some c.object) ≡ Some o →
    (a : Argument) × (v : Value) × (slice_get arguments r ≡ Some a) × (argument_value f a ≡ Some v) × (and_then (cell_of (Some v)) (λ (c : Cell). Some c.object) ≡ Some o)
pointer_from f [] values r o e h = absurd (none values e h)
  where
    none : (vs : List Value) → Some [] ≡ Some vs → and_then (cell_of (slice_get vs r)) (λ (c : Cell). Some c.object) ≡ Some o → ⊥
    none [] e h = absurd (cc)
    none (v ∷ vs) e h = absurd (cc)
pointer_from f (a ∷ more) values zero o e h =
    let parts = parted f a more values e in
    (a, parts.value, refl, parts.value_is, subst (λ (vs : List Value). and_then (cell_of (slice_get vs 0)) (λ (c : Cell). Some c.object) ≡ Some o) (sym parts.whole) h)
pointer_from f (a ∷ more) values (suc r) o e h =
    let parts = parted f a more values e in
    pointer_from f more parts.rest r o parts.rest_are (subst (λ (vs : List Value). and_then (cell_of (slice_get vs (suc r))) (λ (c : Cell). Some c.object) ≡ Some o) (sym parts.whole) h)

-- an argument whose value is a pointer passes an object
passes : (f : Frame) (a : Argument) (v : Value) (o : Object) → argument_value f a ≡ Some v → and_then (cell_of (Some v)) (λ (c : Cell). Some c.object) ≡ Some o → (name : ObjectName) × (a ≡ argument.Object name) × (object_at f name ≡ Some o)
passes f (argument.Number x) v o e h = absurd (from (word_at f.registers x) e)
  where
    from : (w : Option ℤ) → and_then w (λ z. Some (Word z)) ≡ Some v → ⊥
    from None k = absurd (cc)
    from (Some z) k = let bad = subst (λ (y : Option Value). and_then (cell_of y) (λ (c : Cell). Some c.object) ≡ Some o) (sym k) h in absurd (cc)
passes f (argument.Object name) v o e h = from (object_at f name) refl e
  where
    from : (w : Option Object) → object_at f name ≡ w → and_then w (λ x. Some (Pointer (first_cell x))) ≡ Some v → (n : ObjectName) × (argument.Object name ≡ argument.Object n) × (object_at f n ≡ Some o)
    from None at k = absurd (cc)
    from (Some x) at k =
        (name, refl, at ∙ subst (λ (y : Option Value). and_then (cell_of y) (λ (c : Cell). Some c.object) ≡ Some o) (sym k) h)

module _ (prog : Program) (regions : Regions) (right : AreZonesRightBy prog regions) (f : Frame) (function : Function) (block : Block) (stands : StandsIn prog f function block)
    (known : KnownHolds prog f function block) (names : NamesApart prog f) where
  module _ (step : Step) (at : slice_get block.steps f.index ≡ Some step) (d : Option RegisterId) (callee : FunctionId) (arguments : List Argument) (is : step.instruction ≡ instruction.Call d callee arguments)
      (g : Function) (there : slice_get prog.functions callee.0 ≡ Some g) (p : Path) (values : List Value) (are : argument_values f arguments ≡ Some values) where
    abbrev place : Place
    place = place_in function (task_of regions f) block (facts_at_step prog.functions function f.block block f.index)

    this_call : IsInstructionAt prog.functions f.function f.block f.index (instruction.Call d callee arguments)
    this_call = record { block = block; step = step; at_block = record { function = function; at_function = stands.at_function; at_block = stands.at_block }; at_step = at; does = is }

    judged : ((callee_use place g arguments).covered ≡ true) × ((callee_use place g arguments).clear ≡ true)
    judged = (
      subst (λ (o : Option Function). (call_use place o arguments).covered ≡ true) there (subst (λ (i : Instruction). (step_use place prog.functions block.steps step.line i).covered ≡ true) is (step_covered prog f function block stands regions right step at)),
      subst (λ (o : Option Function). (call_use place o arguments).clear ≡ true) there (subst (λ (i : Instruction). (step_use place prog.functions block.steps step.line i).clear ≡ true) is (step_clear prog f function block stands regions right step at)),
    )

    passed_named : (r : ℕ) (name : ObjectName) → slice_get arguments r ≡ Some (argument.Object name) → IsUsed prog.functions f.function name
    passed_named r name e = used_name prog.functions f.function name (in_instruction f.block f.index (instruction.Call d callee arguments) this_call (r, e))

    zone_let : (z : Zone) → Contains g.zones z → IsOverParameters (length values) z → (c : Cell) → (o : Option ObjectName) → put_object arguments z.object ≡ o → ((name : ObjectName) → o ≡ Some name → IsUsed prog.functions f.function name × (object_at f name ≡ Some c.object)) →
        HoldsCell (called p f callee.0 values) z c → MayUse regions f function block z.mode c
    zone_let z in_g over c None put h holds =
        absurd (false≢true (subst (λ (x : Option ObjectName). is_put_allowed place (option_map (λ o. span o (argument_moves 0 arguments) z) x) ≡ true) put
        (All-contains (λ (y : Zone). is_put_allowed place (put_in arguments y) ≡ true) g.zones z (all_pass (λ (y : Zone). is_put_allowed place (put_in arguments y)) g.zones judged.0) in_g)))
    zone_let z in_g over c (Some name) put h holds =
        let y = span name (argument_moves 0 arguments) z in
        let behind = h name refl in
        let w = numbers (slice_get values) in
        let v = numbers f.registers in
        let low = end_called v w (argument_moves 0 arguments) (length values) (parameter_is f arguments values are) z.low over.low in
        let high = end_called v w (argument_moves 0 arguments) (length values) (parameter_is f arguments values are) z.high over.high in
        span_let prog regions f function block stands names (facts_at_step prog.functions function f.block block f.index) (known.at_step step at) y c behind.1
        (record { object_is = refl; from_low = subst (λ x. x ≤ℤ pos c.index) (sym low) holds.from_low; before_high = subst (λ x. (pos c.index +ℤ pos 1) ≤ℤ x) (sym high) holds.before_high }) behind.0
        (subst (λ (x : Option ObjectName). is_put_allowed place (option_map (λ o. span o (argument_moves 0 arguments) z) x) ≡ true) put
        (All-contains (λ (y : Zone). is_put_allowed place (put_in arguments y) ≡ true) g.zones z (all_pass (λ (y : Zone). is_put_allowed place (put_in arguments y)) g.zones judged.0) in_g))
        (subst (λ (x : Option ObjectName). is_put_clear place (option_map (λ o. span o (argument_moves 0 arguments) z) x) ≡ true) put
        (All-contains (λ (y : Zone). is_put_clear place (put_in arguments y) ≡ true) g.zones z (all_pass (λ (y : Zone). is_put_clear place (put_in arguments y)) g.zones judged.1) in_g))

    -- the caller's name behind the zone's
    name_behind : (z : Zone) (n : ObjectName) → z.object ≡ n → Contains g.zones z → (c : Cell) → object_at (called p f callee.0 values) n ≡ Some c.object → (name : ObjectName) → put_object arguments n ≡ Some name →
        IsUsed prog.functions f.function name × (object_at f name ≡ Some c.object)
    name_behind z (Global global) e in_g c object name put =
        let same : Global global ≡ name = some_name (Global global) name put in (
          subst (λ (n : ObjectName). IsUsed prog.functions f.function n) same
              (callee.0, through f.function f.block f.index d callee arguments itself this_call, in_zone in_g.0 g z there (get_is g.zones in_g.0 z in_g.1 ∙ ap (λ (y : Zone). Some y) in_g.2) e),
          subst (λ (n : ObjectName). object_at f n ≡ Some c.object) same object,
        )
    name_behind z (Alloca a) e in_g c object name put = absurd (cc)
    name_behind z (Parameter r) e in_g c object name put =
        let found = pointer_from f arguments values r.0 c.object are object in
        let passed = passes f found.0 found.1 c.object found.3 found.4 in
        let read : argument_object (slice_get arguments r.0) ≡ Some passed.0 = ap argument_object (found.2 ∙ ap (λ (a : Argument). Some a) passed.1) in
        let same : passed.0 ≡ name = some_name passed.0 name (sym read ∙ put) in (
          subst (λ (n : ObjectName). IsUsed prog.functions f.function n) same (passed_named r.0 passed.0 (found.2 ∙ ap (λ (a : Argument). Some a) passed.1)),
          subst (λ (n : ObjectName). object_at f n ≡ Some c.object) same passed.2,
        )

    callee_let : (z : Zone) → Contains g.zones z → IsOverParameters (length values) z → (c : Cell) → HoldsCell (called p f callee.0 values) z c → MayUse regions f function block z.mode c
    callee_let z in_g over c holds =
        zone_let z in_g over c (put_object arguments z.object) refl (λ name put. name_behind z z.object refl in_g c holds.object name put) holds

pub callees_let : CalleesAreLet
callees_let prog regions right p f m function block stands known names d callee values at g there z in_g over c holds =
    let call = calls_here prog p f m d callee values at in
    let step = step_here prog f function block stands (instruction.Call d call.function call.arguments) call.is in
    callee_let prog regions right f function block stands known names step.0 step.1 d call.function call.arguments step.2 g (subst (λ (n : ℕ). slice_get prog.functions n ≡ Some g) (sym call.number) there) p values call.values_are z in_g over c
    (subst (λ (n : ℕ). HoldsCell (called p f n values) z c) (sym call.number) holds)
