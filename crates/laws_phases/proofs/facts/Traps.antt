-- Where facts hold, no instruction traps for an index, a divisor, an overflow or a shift.
use Rattle.std.proofs.Common.{◌≡◌, ◌∙◌, ℕ, zero, suc, ℤ, pos, negsuc, ◌+ℤ◌, ◌-ℤ◌, ◌*ℤ◌, ◌≤ℤ◌, ◌<ℤ◌, Bool, true, false, cond, eqb, eq-eqb, ◌&&◌, List, [], ◌∷◌, Option, Some, None, ◌⊎◌, inl, inr, refl, sym, ap, subst, arith, slice_get}
use Rattle.std.specs.Prelude.{int_le, int_lt, not}
use Rattle.std.specs.List.{All, Any}
use Rattle.std.specs.Ordering.{int_eq}
use Rattle.std.proofs.lemmas.Bool.{and_from}
use Rattle.std.proofs.lemmas.Bool.Decides.{Decides-int_eq, Decides-ltb}
use Rattle.std.proofs.lemmas.Int.{ints}
use Rattle.std.proofs.lemmas.List.Elements.{All-head, All-tail, All-weaker}
use Rattle.semantics.specs.Paths.{Path, same_path}
use Rattle.semantics.specs.Cells.{Cell, Memory}
use Rattle.semantics.specs.Arithmetic.{Trap, Undefined, BadIndex, BadDivisor, Unmatched, Answer, Gives, Traps, least, greatest, fits, divides_signed, divides_unsigned, is_amount, binary}
use Rattle.semantics.specs.Frames.{Value, Registers, Frame, Role, Child, Body, Does, Ends, cells_in, cells_of, word_at, truth_of, region_of, object_at, cell_at}
use Rattle.semantics.specs.Frames.{global_cells as declared_global, alloca_cells as declared_alloca, parameter_cells as declared_parameter}
use Rattle.semantics.specs.Effect.{Effect, Action, Plain, Detach, Reattach, Sync, Call, Return, stops, sets, answers, given, points, loads, stores, stores_zeros, adds_to, enters, jumps, case_for, registers_along, traps, if_own, syncs, reattaches, argument_values, calls, returns, returns_value, instruction_action, terminator_action, item_action}
use Rattle.semantics.proofs.Actions.{same_path_itself}
use Rattle.linear.specs.declared.form.Fact.{Fact}
use Rattle.linear.specs.declared.form.RegisterId.{RegisterId}
use Rattle.linear.proofs.Values.{associates}
use Rattle.syntax.specs.declared.operator.Width.{Width}
use Rattle.syntax.specs.declared.operator.Width.TheVariants.{Bits64, Bits32}
use Rattle.syntax.specs.declared.operator.BinaryOperator.{BinaryOperator}
use Rattle.syntax.specs.declared.operator.BinaryOperator.TheVariants.{Add, Subtract, Multiply, AddNoWrap, SubtractNoWrap, MultiplyNoWrap, SignedDivide, UnsignedDivide, SignedRemainder, UnsignedRemainder, ShiftLeft, LogicalShiftRight, ArithmeticShiftRight, And, Or, ExclusiveOr}
use Rattle.program.specs.declared.identifier.ObjectName.{ObjectName}
use Rattle.program.specs.declared.identifier.ObjectName.TheVariants.{Global, Alloca, Parameter}
use Rattle.program.specs.declared.function.Alloca.{Alloca as AllocaKind}
use Rattle.program.specs.declared.function.Function.{Function}
use Rattle.program.specs.declared.function.Global.{Global as GlobalKind}
use Rattle.program.specs.declared.function.Parameter.{Parameter as ParameterKind}
use Rattle.program.specs.declared.function.Parameter.TheVariants as parameter
use Rattle.program.specs.declared.function.Program.{Program}
use Rattle.program.specs.declared.instruction.Instruction.{Instruction}
use Rattle.program.specs.declared.instruction.Instruction.TheVariants as instruction
use Rattle.program.specs.declared.instruction.Operand.{Operand}
use Rattle.program.specs.declared.instruction.Terminator.{Terminator}
use Rattle.program.specs.declared.instruction.Terminator.TheVariants as terminator
use Rattle.ranges.specs.ranges_owed.declared.sum.Part.{Part}
use Rattle.ranges.specs.ranges_owed.declared.sum.Sum.{Sum}
use Rattle.ranges.specs.ranges_owed.declared.sum.Obligation.{Obligation}
use Rattle.ranges.specs.ranges_owed.Sums.{one, two}
use Rattle.ranges.specs.Sums.{is_met}
use Rattle.ranges.specs.Truth.{operand_value, IsTrueAt}
use Rattle.ranges.specs.ranges_owed.Scales.{scale_of}
use Rattle.ranges.specs.ranges_owed.Owed.{must, half, last_bit, is_not_zero, is_not_least_by_minus_one, product_owed, binary_owed, index_owed, owed, greatest as greatest_owed, is_amount as amount_owed}
use Rattle.program.specs.Cells.{global_cells, alloca_cells, parameter_cells}
use Rattle.program.specs.Objects.{object_cells as cells_owed}
use Rattle.ranges.proofs.Truth.{met_true}
use Rattle.laws_conditions.specs.rules.Costs.{numbers}
use Rattle.laws_phases.specs.facts.Known.{known_at_place}
use Rattle.laws_phases.specs.facts.Traps.{IsThere, FindsAll, MayEnd, NoTraps}
use Rattle.laws_phases.proofs.facts.Sums.{word_value}
use Rattle.laws_phases.proofs.facts.Learning.{at_least_zero, scaled_is}
use Rattle.laws_phases.proofs.facts.Places.{StepAt, step_at, step_met, sole}
use Rattle.linear_shown.proofs.Tested.{true_from_T}

-- ---- choices

le_true : (x y : ℤ) → x ≤ℤ y → int_le x y ≡ true
le_true x y h = true_from_T (int_le x y) h.le

lt_true : (x y : ℤ) → x <ℤ y → int_lt x y ≡ true
lt_true x y h = true_from_T (int_lt x y) h.lt

not_equal : (x y : ℤ) → (x ≡ y → ⊥) → int_eq x y ≡ false
not_equal x y apart = from (int_eq x y) refl
  where
    from : (b : Bool) → int_eq x y ≡ b → b ≡ false
    from true e = absurd (apart ((Decides-int_eq x y).0 e))
    from false e = refl

one_of_two : {X : Type 0} (P : X → Type 0) (x y : X) → Any P (x ∷ (y ∷ [])) → P x ⊎ P y
one_of_two P x y (zero, z, l, e, p) = inl (subst P (sym e) p)
one_of_two P x y (suc zero, z, l, e, p) = inr (subst P (sym e) p)
one_of_two P x y (suc (suc k), z, l, e, p) = absurd (omega (arith, l))

one_of_three : {X : Type 0} (P : X → Type 0) (x y w : X) → Any P (x ∷ (y ∷ (w ∷ []))) → P x ⊎ (P y ⊎ P w)
one_of_three P x y w (zero, z, l, e, p) = inl (subst P (sym e) p)
one_of_three P x y w (suc zero, z, l, e, p) = inr (inl (subst P (sym e) p))
one_of_three P x y w (suc (suc zero), z, l, e, p) = inr (inr (subst P (sym e) p))
one_of_three P x y w (suc (suc (suc k)), z, l, e, p) = absurd (omega (arith, l))

none_of_none : {X : Type 0} (P : X → Type 0) → Any P [] → ⊥
none_of_none P (k, x, l, e, p) = absurd (omega (arith, l))

-- ---- numbers

in_width : (w : Width) (s : ℤ) → pos 0 ≤ℤ (half w +ℤ s) → pos 0 ≤ℤ (greatest_owed w +ℤ (negsuc 0 *ℤ s)) → fits w s ≡ true
in_width Bits64 s low high = and_from (int_le (least Bits64) s) (int_le s (greatest Bits64)) (le_true (least Bits64) s (omega (arith, ints, low))) (le_true s (greatest Bits64) (omega (arith, ints, high)))
in_width Bits32 s low high = and_from (int_le (least Bits32) s) (int_le s (greatest Bits32)) (le_true (least Bits32) s (omega (arith, ints, low))) (le_true s (greatest Bits32) (omega (arith, ints, high)))

sum_low : (h x y : ℤ) → pos 0 ≤ℤ (h +ℤ ((pos 1 *ℤ x) +ℤ ((pos 1 *ℤ y) +ℤ pos 0))) → pos 0 ≤ℤ (h +ℤ (x +ℤ y))
sum_low h x y l = omega (arith, ints)

sum_high : (h x y : ℤ) → pos 0 ≤ℤ (h +ℤ ((negsuc 0 *ℤ x) +ℤ ((negsuc 0 *ℤ y) +ℤ pos 0))) → pos 0 ≤ℤ (h +ℤ (negsuc 0 *ℤ (x +ℤ y)))
sum_high h x y l = omega (arith, ints)

difference_low : (h x y : ℤ) → pos 0 ≤ℤ (h +ℤ ((pos 1 *ℤ x) +ℤ ((negsuc 0 *ℤ y) +ℤ pos 0))) → pos 0 ≤ℤ (h +ℤ (x -ℤ y))
difference_low h x y l = omega (arith, ints)

difference_high : (h x y : ℤ) → pos 0 ≤ℤ (h +ℤ ((negsuc 0 *ℤ x) +ℤ ((pos 1 *ℤ y) +ℤ pos 0))) → pos 0 ≤ℤ (h +ℤ (negsuc 0 *ℤ (x -ℤ y)))
difference_high h x y l = omega (arith, ints)

alone : (h p : ℤ) → pos 0 ≤ℤ (h +ℤ (p +ℤ pos 0)) → pos 0 ≤ℤ (h +ℤ p)
alone h p l = omega (arith, ints)

above_zero : (y : ℤ) → pos 0 ≤ℤ (negsuc 0 +ℤ ((pos 1 *ℤ y) +ℤ pos 0)) → y ≡ pos 0 → ⊥
above_zero y h e = absurd (omega (arith, ints, h, e))

below_zero : (y : ℤ) → pos 0 ≤ℤ (negsuc 0 +ℤ ((negsuc 0 *ℤ y) +ℤ pos 0)) → y ≡ pos 0 → ⊥
below_zero y h e = absurd (omega (arith, ints, h, e))

not_minus_one : (y : ℤ) → pos 0 ≤ℤ (pos 0 +ℤ ((pos 1 *ℤ y) +ℤ pos 0)) → y ≡ negsuc 0 → ⊥
not_minus_one y h e = absurd (omega (arith, ints, h, e))

under_minus_one : (y : ℤ) → pos 0 ≤ℤ (negsuc 1 +ℤ ((negsuc 0 *ℤ y) +ℤ pos 0)) → y ≡ negsuc 0 → ⊥
under_minus_one y h e = absurd (omega (arith, ints, h, e))

above_least : (w : Width) (x : ℤ) → pos 0 ≤ℤ (greatest_owed w +ℤ ((pos 1 *ℤ x) +ℤ pos 0)) → x ≡ least w → ⊥
above_least Bits64 x h e = absurd (omega (arith, ints, h, e))
above_least Bits32 x h e = absurd (omega (arith, ints, h, e))

up_to : (high x : ℤ) → pos 0 ≤ℤ (high +ℤ ((negsuc 0 *ℤ x) +ℤ pos 0)) → x ≤ℤ high
up_to high x h = omega (arith, ints)

amount : (w : Width) (y : ℤ) → pos 0 ≤ℤ y → y ≤ℤ last_bit w → is_amount w y ≡ true
amount Bits64 (pos n) low high = (Decides-ltb n 64).1 (omega (arith, ints, high))
amount Bits32 (pos n) low high = (Decides-ltb n 32).1 (omega (arith, ints, high))
amount w (negsuc n) low high = absurd (low.le)

below_cells : (n : ℕ) (z : ℤ) → z ≤ℤ (pos n -ℤ pos 1) → z <ℤ pos n
below_cells n z h = omega (arith, ints)

-- ---- operators

not_zero : (v : ℕ → ℤ) (y : Operand) → Any (IsTrueAt v) (is_not_zero y).choices → int_eq (operand_value v y) (pos 0) ≡ false
not_zero v y any =
    elim (one_of_two (IsTrueAt v) (one (negsuc 0) (pos 1) y) (one (negsuc 0) (negsuc 0) y) any) [
      | inl h ↦ not_equal (operand_value v y) (pos 0) (above_zero (operand_value v y) h)
      | inr h ↦ not_equal (operand_value v y) (pos 0) (below_zero (operand_value v y) h)
    ]

not_both : (a b : Bool) → (a ≡ false) ⊎ (b ≡ false) → not (a && b) ≡ true
not_both true true (inl e) = sym e
not_both true true (inr e) = sym e
not_both true false e = refl
not_both false true e = refl
not_both false false e = refl

divides : (v : ℕ → ℤ) (w : Width) (x y : Operand) → Any (IsTrueAt v) (is_not_zero y).choices → Any (IsTrueAt v) (is_not_least_by_minus_one w x y).choices → divides_signed w (operand_value v x) (operand_value v y) ≡ true
divides v w x y first second =
    and_from (not (int_eq (operand_value v y) (pos 0))) (not (int_eq (operand_value v x) (least w) && int_eq (operand_value v y) (negsuc 0))) (ap not (not_zero v y first))
    (not_both (int_eq (operand_value v x) (least w)) (int_eq (operand_value v y) (negsuc 0))
    (elim (one_of_three (IsTrueAt v) (one (pos 0) (pos 1) y) (one (negsuc 1) (negsuc 0) y) (one (greatest_owed w) (pos 1) x) second) [
      | inl h ↦ inr (not_equal (operand_value v y) (negsuc 0) (not_minus_one (operand_value v y) h))
      | inr (inl h) ↦ inr (not_equal (operand_value v y) (negsuc 0) (under_minus_one (operand_value v y) h))
      | inr (inr h) ↦ inl (not_equal (operand_value v x) (least w) (above_least w (operand_value v x) h))
    ]))

-- an answer that is a number
IsGiven : Answer → Type 0
IsGiven (Gives z) = Unit {0}
IsGiven (Traps t) = ⊥

given_if : (b : Bool) (z : ℤ) (t : Trap) → b ≡ true → IsGiven (cond b (Gives z) (Traps t))
unfolding IsGiven
given_if true z t e = tt
given_if false z t e = cc

abbrev AreTrue : (ℕ → ℤ) → List Obligation → Type 0
AreTrue v obligations = All (λ (o : Obligation). Any (IsTrueAt v) o.choices) obligations

first_true : (v : ℕ → ℤ) (o : Obligation) (rest : List Obligation) → AreTrue v (o ∷ rest) → Any (IsTrueAt v) o.choices
first_true v o rest all = All-head (λ (o : Obligation). Any (IsTrueAt v) o.choices) o rest all

rest_true : (v : ℕ → ℤ) (o : Obligation) (rest : List Obligation) → AreTrue v (o ∷ rest) → AreTrue v rest
rest_true v o rest all = All-tail (λ (o : Obligation). Any (IsTrueAt v) o.choices) o rest all

-- of two sums that must be true
both_true : (v : ℕ → ℤ) (n m : ℕ) (s t : Sum) → AreTrue v (must n s ∷ (must m t ∷ [])) → IsTrueAt v s × IsTrueAt v t
both_true v n m s t all = (
  sole (IsTrueAt v) s (first_true v (must n s) (must m t ∷ []) all),
  sole (IsTrueAt v) t (first_true v (must m t) [] (rest_true v (must n s) (must m t ∷ []) all)),
)

product_fits : (v : ℕ → ℤ) (w : Width) (x y : Operand) (o : Option Part) → scale_of x y ≡ o → AreTrue v (product_owed w o) → fits w (operand_value v x *ℤ operand_value v y) ≡ true
product_fits v w x y None is all = absurd (none_of_none (IsTrueAt v) (first_true v (record { number = 503; choices = [] }) [] all))
product_fits v w x y (Some p) is all =
    let h = both_true v 503 503 (one (half w) p.factor p.operand) (one (greatest_owed w) (negsuc 0 *ℤ p.factor) p.operand) all in
    let q : ℤ = p.factor *ℤ operand_value v p.operand in
    let high : pos 0 ≤ℤ (greatest_owed w +ℤ ((negsuc 0 *ℤ q) +ℤ pos 0)) = subst (λ z. pos 0 ≤ℤ (greatest_owed w +ℤ (z +ℤ pos 0))) (associates (negsuc 0) p.factor (operand_value v p.operand)) h.1 in
    subst (λ z. fits w z ≡ true) (scaled_is v x y p is) (in_width w q (alone (half w) q h.0) (alone (greatest_owed w) (negsuc 0 *ℤ q) high))

shift_fine : (v : ℕ → ℤ) (w : Width) (y : Operand) → AreTrue v (amount_owed w y) → is_amount w (operand_value v y) ≡ true
shift_fine v w y all =
    let h = both_true v 504 504 (one (pos 0) (pos 1) y) (one (last_bit w) (negsuc 0) y) all in
    amount w (operand_value v y) (at_least_zero (operand_value v y) h.0) (up_to (last_bit w) (operand_value v y) h.1)

binary_fine : (v : ℕ → ℤ) (op : BinaryOperator) (w : Width) (x y : Operand) → AreTrue v (binary_owed op w x y) → IsGiven (binary op w (operand_value v x) (operand_value v y))
unfolding IsGiven
binary_fine v Add w x y all = tt
binary_fine v Subtract w x y all = tt
binary_fine v Multiply w x y all = tt
binary_fine v AddNoWrap w x y all =
    let h = both_true v 503 503 (two (half w) (pos 1) x (pos 1) y) (two (greatest_owed w) (negsuc 0) x (negsuc 0) y) all in
    given_if (fits w (operand_value v x +ℤ operand_value v y)) (operand_value v x +ℤ operand_value v y) Undefined
    (in_width w (operand_value v x +ℤ operand_value v y) (sum_low (half w) (operand_value v x) (operand_value v y) h.0) (sum_high (greatest_owed w) (operand_value v x) (operand_value v y) h.1))
binary_fine v SubtractNoWrap w x y all =
    let h = both_true v 503 503 (two (half w) (pos 1) x (negsuc 0) y) (two (greatest_owed w) (negsuc 0) x (pos 1) y) all in
    given_if (fits w (operand_value v x -ℤ operand_value v y)) (operand_value v x -ℤ operand_value v y) Undefined
    (in_width w (operand_value v x -ℤ operand_value v y) (difference_low (half w) (operand_value v x) (operand_value v y) h.0) (difference_high (greatest_owed w) (operand_value v x) (operand_value v y) h.1))
binary_fine v MultiplyNoWrap w x y all = given_if (fits w (operand_value v x *ℤ operand_value v y)) (operand_value v x *ℤ operand_value v y) Undefined (product_fits v w x y (scale_of x y) refl all)
binary_fine v SignedDivide w x y all =
    given_if (divides_signed w (operand_value v x) (operand_value v y)) _ BadDivisor
    (divides v w x y (first_true v (is_not_zero y) (is_not_least_by_minus_one w x y ∷ []) all) (first_true v (is_not_least_by_minus_one w x y) [] (rest_true v (is_not_zero y) (is_not_least_by_minus_one w x y ∷ []) all)))
binary_fine v UnsignedDivide w x y all = given_if (divides_unsigned (operand_value v y)) _ BadDivisor (ap not (not_zero v y (first_true v (is_not_zero y) [] all)))
binary_fine v SignedRemainder w x y all =
    given_if (divides_signed w (operand_value v x) (operand_value v y)) _ BadDivisor
    (divides v w x y (first_true v (is_not_zero y) (is_not_least_by_minus_one w x y ∷ []) all) (first_true v (is_not_least_by_minus_one w x y) [] (rest_true v (is_not_zero y) (is_not_least_by_minus_one w x y ∷ []) all)))
binary_fine v UnsignedRemainder w x y all = given_if (divides_unsigned (operand_value v y)) _ BadDivisor (ap not (not_zero v y (first_true v (is_not_zero y) [] all)))
binary_fine v ShiftLeft w x y all = given_if (is_amount w (operand_value v y)) _ Undefined (shift_fine v w y all)
binary_fine v LogicalShiftRight w x y all = given_if (is_amount w (operand_value v y)) _ Undefined (shift_fine v w y all)
binary_fine v ArithmeticShiftRight w x y all = given_if (is_amount w (operand_value v y)) _ Undefined (shift_fine v w y all)
binary_fine v And w x y all = tt
binary_fine v Or w x y all = tt
binary_fine v ExclusiveOr w x y all = tt

-- ---- objects

global_same : (o : Option GlobalKind) → global_cells o ≡ declared_global o
global_same None = refl
global_same (Some g) = refl

alloca_same : (o : Option AllocaKind) → alloca_cells o ≡ declared_alloca o
alloca_same None = refl
alloca_same (Some a) = refl

parameter_same : (o : Option ParameterKind) → parameter_cells o ≡ declared_parameter o
parameter_same None = refl
parameter_same (Some parameter.Number) = refl
parameter_same (Some (parameter.Pointer cells)) = refl

cells_same : (prog : Program) (function : Function) (name : ObjectName) → cells_owed prog function name ≡ cells_in prog (Some function) name
cells_same prog function (Global g) = global_same (slice_get prog.globals g.0)
cells_same prog function (Alloca a) = alloca_same (slice_get function.allocas a.0)
cells_same prog function (Parameter r) = parameter_same (slice_get function.parameters r.0)

in_object : (v : ℕ → ℤ) (cells : ℕ) (index : Operand) → AreTrue v (index_owed cells index) → int_le (pos 0) (operand_value v index) && int_lt (operand_value v index) (pos cells) ≡ true
in_object v cells index all =
    let h = both_true v 501 501 (one (pos 0) (pos 1) index) (one (pos cells -ℤ pos 1) (negsuc 0) index) all in
    and_from (int_le (pos 0) (operand_value v index)) (int_lt (operand_value v index) (pos cells))
    (le_true (pos 0) (operand_value v index) (at_least_zero (operand_value v index) h.0))
    (lt_true (operand_value v index) (pos cells) (below_cells cells (operand_value v index) (up_to (pos cells -ℤ pos 1) (operand_value v index) h.1)))

-- ---- effects

there : {A : Type 0} (f : Frame) (o : Option A) (next : A → Effect) → IsThere o → ((a : A) → o ≡ Some a → (next a).trap ≡ None) → (given f o next).trap ≡ None
there f None next some h = absurd (let e : false ≡ true = some in cc)
there f (Some a) next some h = h a refl

Calm : Action → Type 0
Calm (Plain e) = e.trap ≡ None
Calm (Call d callee values) = Unit {0}
Calm (Detach r b k) = Unit {0}
Calm (Reattach r) = Unit {0}
Calm (Sync r b rs) = Unit {0}
Calm (Return v) = Unit {0}

module _ (prog : Program) (p : Path) (f : Frame) (m : Memory) where
  answered : (d : RegisterId) (o : Answer) → IsGiven o → (answers f d o).trap ≡ None
  unfolding IsGiven
  answered d (Gives z) h = refl
  answered d (Traps t) h = absurd h

  pointed : (d : RegisterId) (u : Value) (b : Bool) → b ≡ true → (cond b (sets f d u) (stops BadIndex f)).trap ≡ None
  pointed d u true e = refl
  pointed d u false e = absurd (cc)

  loaded : (d : RegisterId) (c : Cell) (o : Option ℤ) → IsThere o → (loads f d c o).trap ≡ None
  loaded d c None some = absurd (let e : false ≡ true = some in cc)
  loaded d c (Some z) some = refl

  added : (c : Cell) (z : ℤ) (o : Option ℤ) → IsThere o → (adds_to f c z o).trap ≡ None
  added c z None some = absurd (let e : false ≡ true = some in cc)
  added c z (Some old) some = refl

  called : (d : Option RegisterId) (g : ℕ) (o : Option (List Value)) → IsThere o → Calm (calls f d g o)
  unfolding Calm
  called d g None some = absurd (let e : false ≡ true = some in cc)
  called d g (Some values) some = tt

  by_instruction : (function : Function) (i : Instruction) → slice_get prog.functions f.function ≡ Some function → AreTrue (numbers f.registers) (owed prog function i) → FindsAll f m i → Calm (instruction_action prog p f m i)
  unfolding Calm
  by_instruction function (instruction.Binary d op w a b) at all finds =
      there f (word_at f.registers a) _ finds.0
      (λ x is. there f (word_at f.registers b) _ finds.1
      (λ y is2. answered d (binary op w x y)
      (subst (λ n. IsGiven (binary op w n y)) (word_value f.registers a x is) (subst (λ n. IsGiven (binary op w (operand_value (numbers f.registers) a) n)) (word_value f.registers b y is2) (binary_fine (numbers f.registers) op w a b all)))))
  by_instruction function (instruction.Compare d by w a b) at all finds = there f (word_at f.registers a) _ finds.0 (λ x is. there f (word_at f.registers b) _ finds.1 (λ y is2. refl))
  by_instruction function (instruction.Convert d by a) at all finds = there f (word_at f.registers a) _ finds (λ x is. refl)
  by_instruction function (instruction.Alloca d a) at all finds = refl
  by_instruction function (instruction.ElementPointer d name i) at all finds =
      there f (object_at f name) _ finds.0
      (λ o is. there f (word_at f.registers i) (points f d (cells_of prog f.function name) o) finds.1
      (λ z is2.
      let size : cells_owed prog function name ≡ cells_of prog f.function name = cells_same prog function name ∙ ap (λ g. cells_in prog g name) (sym at) in
      let inside : int_le (pos 0) (operand_value (numbers f.registers) i) && int_lt (operand_value (numbers f.registers) i) (pos (cells_owed prog function name)) ≡ true = in_object (numbers f.registers) (cells_owed prog function name) i all in
      pointed d _ (int_le (pos 0) z && int_lt z (pos (cells_of prog f.function name)))
      (subst (λ n. int_le (pos 0) z && int_lt z (pos n) ≡ true) size (subst (λ n. int_le (pos 0) n && int_lt n (pos (cells_owed prog function name)) ≡ true) (word_value f.registers i z is2) inside))))
  by_instruction function (instruction.Load d address) at all finds = there f (cell_at f address) _ finds.0 (λ c is. loaded d c (m c) (finds.1 c is))
  by_instruction function (instruction.Store a address) at all finds = there f (cell_at f address) _ finds.0 (λ c is. there f (word_at f.registers a) (stores f c) finds.1 (λ z is2. refl))
  by_instruction function (instruction.StoreZeros cells name) at all finds = there f (object_at f name) (stores_zeros f cells) finds (λ o is. refl)
  by_instruction function (instruction.AtomicAdd address a) at all finds = there f (cell_at f address) _ finds.0 (λ c is. there f (word_at f.registers a) _ finds.1 (λ z is2. added c z (m c) (finds.2 c is)))
  by_instruction function (instruction.Call d g arguments) at all finds = called d g.0 (argument_values f arguments) finds
  by_instruction function (instruction.StartRegion d) at all finds = refl

  -- ---- terminators

  jumped : (target : ℕ) → IsThere (registers_along prog f target) → (jumps prog f target).trap ≡ None
  jumped target some = there f (registers_along prog f target) (enters f target) some (λ r is. refl)

  owned : (a : Action) (o : Option Path) → o ≡ Some p → Calm a → Calm (if_own p f a o)
  owned a None e h = absurd (cc)
  owned a (Some owner) e h =
      let same : owner ≡ p = cc in
      let itself : same_path owner p ≡ true = ap (λ q. same_path q p) same ∙ same_path_itself p in
      subst (λ b. Calm (cond b a (traps Unmatched f))) (sym itself) h

  synced : (region target : ℕ) (o : Option Registers) → IsThere o → Calm (syncs f region target o)
  unfolding Calm
  synced region target None some = absurd (let e : false ≡ true = some in cc)
  synced region target (Some r) some = tt

  returned : (role : Role) (v : Option ℤ) → role ≡ Body → Calm (returns f role v)
  unfolding Calm
  returned (Child r c) v e = absurd (cc)
  returned Body v e = tt

  returned_value : (o : Option ℤ) → f.role ≡ Body → IsThere o → Calm (returns_value f o)
  returned_value None e some = absurd (let h : false ≡ true = some in cc)
  returned_value (Some z) e some = returned f.role (Some z) e

  reattached : (region continuation : ℕ) (role : Role) → role ≡ Child region continuation → Calm (reattaches f region continuation role)
  unfolding Calm
  reattached region continuation Body e = absurd (cc)
  reattached region continuation (Child r c) e =
      let first : r ≡ region = cc in
      let second : c ≡ continuation = cc in
      let both : eqb r region && eqb c continuation ≡ true = and_from (eqb r region) (eqb c continuation) (eq-eqb r region first) (eq-eqb c continuation second) in
      subst (λ b. Calm (cond b (Reattach region) (traps Unmatched f))) (sym both) tt

  by_terminator : (t : Terminator) → MayEnd prog p f t → Calm (terminator_action prog p f t)
  unfolding Calm
  by_terminator (terminator.Jump target) h = jumped target.0 h
  by_terminator (terminator.Branch test x y) h = there f (truth_of (f.registers test.0)) (λ b. jumps prog f (cond b x.0 y.0)) h.0 (λ b is. jumped (cond b x.0 y.0) (h.1 b is))
  by_terminator (terminator.Switch w a default cases) h = there f (word_at f.registers a) (λ z. jumps prog f (case_for z default.0 cases)) h.0 (λ z is. jumped (case_for z default.0 cases) (h.1 z is))
  by_terminator (terminator.Return None) h = returned f.role None h
  by_terminator (terminator.Return (Some a)) h = returned_value (word_at f.registers a) h.0 h.1
  by_terminator (terminator.Detach region body continuation) h = owned (Detach region.0 body.0 continuation.0) (region_of (f.registers region.0)) h tt
  by_terminator (terminator.Reattach region continuation) h = reattached region.0 continuation.0 f.role h
  by_terminator (terminator.Sync region target) h =
      owned (syncs f region.0 target.0 (registers_along prog f target.0)) (region_of (f.registers region.0)) h.0 (synced region.0 target.0 (registers_along prog f target.0) h.1)

pub no_traps : NoTraps
unfolding Calm
no_traps prog right p f m e good (Does i, at, finds) act =
    let place : StepAt prog f.function f.block f.index i = step_at prog f.function f.block f.index i at in
    let known : List Fact = known_at_place prog f.function f.block f.index in
    let met : All (λ y. is_met known y ≡ true) (owed prog place.of.function i) = subst (λ j. All (λ y. is_met known y ≡ true) (owed prog place.of.function j)) place.is (step_met prog right f.function f.block place.of f.index place.step place.at_step) in
    let all : AreTrue (numbers f.registers) (owed prog place.of.function i) =
    All-weaker (λ (y : Obligation). is_met known y ≡ true) (λ (o : Obligation). Any (IsTrueAt (numbers f.registers)) o.choices) (λ y h. met_true known y h (numbers f.registers) good.facts) (owed prog place.of.function i) met in
    let calm : Calm (instruction_action prog p f m i) = by_instruction prog p f m place.of.function i place.of.at_function all finds in
    let is : instruction_action prog p f m i ≡ Plain e = sym (ap (item_action prog p f m) at) ∙ act in
    subst Calm is calm
no_traps prog right p f m e good (Ends t, at, ends) act =
    let calm : Calm (terminator_action prog p f t) = by_terminator prog p f m t ends in
    let is : terminator_action prog p f t ≡ Plain e = sym (ap (item_action prog p f m) at) ∙ act in
    subst Calm is calm
