-- What covers a span and is clear of it lets the frame use its cells.
use Rattle.std.proofs.Common.{◌≡◌, ◌∙◌, ℕ, ℤ, pos, ◌+ℤ◌, ◌*ℤ◌, ◌≤ℤ◌, List, [], ◌∷◌, Some, Bool, true, false, not, inl, inr, ◌⊎◌, refl, sym, ap, subst, arith}
use Rattle.std.specs.Prelude.{slice_index_or}
use Rattle.std.proofs.lemmas.Bool.{false≢true, not-true, or_cases}
use Rattle.std.proofs.lemmas.Int.{ints}
use Rattle.linear.specs.declared.form.Term.{Term}
use Rattle.linear.specs.declared.form.Fact.{Fact}
use Rattle.linear.specs.Forms.{value_of, value}
use Rattle.linear.specs.Terms.{Combination}
use Rattle.linear_shown.specs.Shown.{AllHold}
use Rattle.semantics.specs.Cells.{Cell}
use Rattle.semantics.specs.Frames.{Frame, object_at}
use Rattle.program.specs.declared.annotation.Pending.{Pending}
use Rattle.program.specs.declared.annotation.Zone.{Zone}
use Rattle.program.specs.declared.identifier.AllocaId.{AllocaId}
use Rattle.program.specs.declared.identifier.ObjectName.{ObjectName}
use Rattle.program.specs.declared.identifier.ObjectName.TheVariants.{Global, Alloca, Parameter}
use Rattle.program.specs.declared.function.Block.{Block}
use Rattle.program.specs.declared.function.Function.{Function}
use Rattle.program.specs.declared.function.Program.{Program}
use Rattle.types.specs.Apart.{IsNamedBy, in_pending, itself}
use Rattle.region_match.specs.declared.tables.Regions.{Regions}
use Rattle.footprints.specs.Zones.{Span, as_written, modes_agree, conflict, is_covered}
use Rattle.footprints.specs.Cells.{terms_value, end_value, HasCell}
use Rattle.footprints.specs.Footprints.{is_own, is_allowed, is_clear}
use Rattle.footprints.specs.Rules.{covering_of, is_own_block, place_in}
use Rattle.footprints.proofs.CellLaws.{covered_by_one, shared_cells}
use Rattle.laws_conditions.specs.rules.Costs.{numbers}
use Rattle.laws_phases.specs.zones.Uses.{StandsIn, IsUsed, NamesApart, HoldsCell, IsInOne, IsOwnCell, IsClearOf, task_of, MayUse}
use Rattle.laws_phases.proofs.zones.Places.{get_is, all_pass}

-- ---- ends as they are written

terms_are : (v : ℕ → ℤ) (ts : List Term) → terms_value v [] ts ≡ value_of v ts
terms_are v [] = refl
terms_are v (t ∷ ts) = ap (λ x. (t.coefficient *ℤ v t.register.0) +ℤ x) (terms_are v ts)

pub turned : (a b : ℤ) → a +ℤ b ≡ b +ℤ a
turned a b = omega (arith, ints)

pub end_is : (v : ℕ → ℤ) (e : Combination) → end_value v [] e ≡ value v e
end_is v e = ap (λ x. e.constant +ℤ x) (terms_are v e.terms) ∙ turned e.constant (value_of v e.terms)

-- what the text names is used
pub used_name : (functions : List Function) (f : ℕ) (name : ObjectName) → IsNamedBy functions f name → IsUsed functions f name
used_name functions f (Global g) named = (f, itself, named)
used_name functions f (Alloca a) named = tt
used_name functions f (Parameter r) named = named

own_is : (own : Bool) (o : ObjectName) → is_own own o ≡ true → (own ≡ true) × (a : AllocaId) × (o ≡ Alloca a)
own_is false o h = absurd (false≢true h)
own_is true (Global g) h = absurd (false≢true h)
own_is true (Alloca a) h = (refl, a, refl)
own_is true (Parameter r) h = absurd (false≢true h)

-- a cell of a zone as written is one of the zone in the frame, and the other way round
pub in_frame : (f : Frame) (z : Zone) (c : Cell) (o : ObjectName) → object_at f o ≡ Some c.object → HasCell (numbers f.registers) (as_written z) o (pos c.index) → HoldsCell f z c
in_frame f z c o object cell = record {
  object = subst (λ x. object_at f x ≡ Some c.object) cell.object_is object;
  from_low = subst (λ x. x ≤ℤ pos c.index) (end_is (numbers f.registers) z.low) cell.from_low;
  before_high = subst (λ x. (pos c.index +ℤ pos 1) ≤ℤ x) (end_is (numbers f.registers) z.high) cell.before_high;
}

pub as_cell : (f : Frame) (z : Zone) (c : Cell) (o : ObjectName) → o ≡ z.object → HoldsCell f z c → HasCell (numbers f.registers) (as_written z) o (pos c.index)
as_cell f z c o same h = record {
  object_is = same;
  from_low = subst (λ x. x ≤ℤ pos c.index) (sym (end_is (numbers f.registers) z.low)) h.from_low;
  before_high = subst (λ x. (pos c.index +ℤ pos 1) ≤ℤ x) (sym (end_is (numbers f.registers) z.high)) h.before_high;
}

module _ (prog : Program) (regions : Regions) (f : Frame) (function : Function) (block : Block) (stands : StandsIn prog f function block) (names : NamesApart prog f) (facts : List Fact) (hold : AllHold (numbers f.registers) facts) where
  module _ (y : Span) (c : Cell) (object : object_at f y.object ≡ Some c.object) (cell : HasCell (numbers f.registers) y y.object (pos c.index)) where
    in_one : is_covered facts (covering_of function (task_of regions f)) y ≡ true → IsInOne f (covering_of function (task_of regions f)) y.zone.mode c
    in_one h =
        let any = covered_by_one facts (covering_of function (task_of regions f)) y h (numbers f.registers) hold y.object (pos c.index) cell in
        (any.0, any.1, any.2, any.3, (in_frame f any.1 c y.object object any.4.0, any.4.1))

    span_covered : is_allowed (place_in function (task_of regions f) block facts) y ≡ true → IsOwnCell f (is_own_block (task_of regions f)) c ⊎ IsInOne f (covering_of function (task_of regions f)) y.zone.mode c
    unfolding is_allowed
    span_covered h = elim (or_cases (is_own (is_own_block (task_of regions f)) y.object) (is_covered facts (covering_of function (task_of regions f)) y) h) [
      | inl e ↦ let own = own_is (is_own_block (task_of regions f)) y.object e in inl (own.0, own.1, subst (λ o. object_at f o ≡ Some c.object) own.2 object)
      | inr e ↦ inr (in_one e)
    ]

    agrees : (q : Pending) → IsUsed prog.functions f.function y.object → IsNamedBy prog.functions f.function q.zone.object → not (conflict facts (as_written q.zone) y) ≡ true → HoldsCell f q.zone c → modes_agree q.zone.mode y.zone.mode ≡ true
    agrees q named other h holds =
        let same : y.object ≡ q.zone.object = names y.object q.zone.object c.object named (used_name prog.functions f.function q.zone.object other) object holds.object in
        shared_cells facts (as_written q.zone) y (not-true (conflict facts (as_written q.zone) y) h) (numbers f.registers) hold y.object (pos c.index) (as_cell f q.zone c y.object same holds) cell

    span_clear : IsUsed prog.functions f.function y.object → is_clear (place_in function (task_of regions f) block facts) y ≡ true → IsClearOf f block.pending y.zone.mode c
    unfolding is_clear
    span_clear named h k d lt holds =
        agrees (slice_index_or block.pending k d) named
        (in_pending f.block k block (slice_index_or block.pending k d) (record { function = function; at_function = stands.at_function; at_block = stands.at_block }) (get_is block.pending k d lt) refl)
        (all_pass (λ (q : Pending). not (conflict facts (as_written q.zone) y)) block.pending h k d lt) holds

    pub span_let : IsUsed prog.functions f.function y.object → is_allowed (place_in function (task_of regions f) block facts) y ≡ true → is_clear (place_in function (task_of regions f) block facts) y ≡ true → MayUse regions f function block y.zone.mode c
    span_let named a b = record { covered = span_covered a; clear = span_clear named b }
