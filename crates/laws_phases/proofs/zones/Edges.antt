-- What is pending goes on along each edge.
use Rattle.std.proofs.Common.{◌≡◌, ◌∙◌, ℕ, ℤ, pos, ◌+ℤ◌, ◌*ℤ◌, ◌≤ℤ◌, List, [], ◌∷◌, Some, Bool, true, false, not, ◌&&◌, ◌||◌, inl, inr, refl, sym, ap, subst}
use Rattle.std.specs.Prelude.{◌==◌, Contains, slice_get}
use Rattle.std.proofs.lemmas.Bool.{false≢true, eqb-true, or_cases, and_parts}
use Rattle.std.proofs.lemmas.List.Elements.{All-contains}
use Rattle.std.proofs.lemmas.List.Folds.{Any-from_list_any}
use Rattle.linear.specs.declared.form.RegisterId.{RegisterId}
use Rattle.linear.specs.declared.form.Term.{Term}
use Rattle.linear.specs.declared.form.Fact.{Fact}
use Rattle.linear.specs.Forms.{value_of, value}
use Rattle.linear.specs.Terms.{Combination}
use Rattle.linear_shown.specs.Shown.{AllHold}
use Rattle.semantics.specs.Cells.{Cell}
use Rattle.semantics.specs.Frames.{Frame, object_at}
use Rattle.program.specs.declared.annotation.Pending.{Pending}
use Rattle.program.specs.declared.annotation.Zone.{Zone}
use Rattle.program.specs.declared.function.Block.{Block}
use Rattle.program.specs.declared.function.Function.{Function}
use Rattle.program.specs.declared.function.Program.{Program}
use Rattle.program.specs.declared.instruction.Terminator.{Terminator}
use Rattle.program.specs.declared.instruction.Terminator.TheVariants as terminator
use Rattle.cfg.specs.declared.structure.Move.{Move}
use Rattle.cfg.specs.declared.structure.Way.{Way}
use Rattle.ranges.specs.declared.table.EdgeFacts.{EdgeFacts}
use Rattle.ranges.specs.ranges_owed.Inequalities.{operand_for}
use Rattle.ranges.specs.Truth.{operand_value}
use Rattle.footprints.specs.Zones.{span, as_written, is_empty, covers}
use Rattle.footprints.specs.Cells.{terms_value, end_value}
use Rattle.footprints.specs.Footprints.{foot_of, hands_on, is_passed, are_passed, foot_passed, child_passed_on, pending_of}
use Rattle.footprints.proofs.CellLaws.{empty_cells, covered_cells, covers_mode}
use Rattle.laws_conditions.specs.rules.Costs.{numbers}
use Rattle.types.specs.Apart.{in_pending}
use Rattle.laws_phases.specs.zones.Uses.{StandsIn, IsUsed, HoldsCell}
use Rattle.laws_phases.specs.zones.Edges.{GoesAlong, IsPendingFor, PendingGoesOn, FeetGoOn}
use Rattle.laws_phases.proofs.zones.Children.{foot_named}
use Rattle.laws_phases.proofs.zones.Places.{get_is, all_pass, edge_passes}
use Rattle.laws_phases.proofs.zones.Spans.{used_name, as_cell, turned}

-- ---- ends behind an edge

terms_behind : (v w : ℕ → ℤ) (moves : List Move) → ((x : RegisterId) → w x.0 ≡ operand_value v (operand_for moves x)) → (ts : List Term) → terms_value v moves ts ≡ value_of w ts
terms_behind v w moves same [] = refl
terms_behind v w moves same (t ∷ ts) = ap (λ x. (t.coefficient *ℤ x) +ℤ terms_value v moves ts) (sym (same t.register)) ∙ ap (λ x. (t.coefficient *ℤ w t.register.0) +ℤ x) (terms_behind v w moves same ts)

end_behind : (v w : ℕ → ℤ) (moves : List Move) → ((x : RegisterId) → w x.0 ≡ operand_value v (operand_for moves x)) → (e : Combination) → end_value v moves e ≡ value w e
end_behind v w moves same e = ap (λ x. e.constant +ℤ x) (terms_behind v w moves same e.terms) ∙ turned e.constant (value_of w e.terms)

module _ (prog : Program) (f g : Frame) (moves : List Move) (along : GoesAlong prog f g moves) (facts : List Fact) (hold : AllHold (numbers f.registers) facts) where
  -- a zone that covers it in front of the edge has the cell behind it
  behind : (q z : Zone) (c : Cell) → IsUsed prog.functions f.function z.object → covers facts (span q.object moves q) (as_written z) ≡ true → HoldsCell f z c → HoldsCell g q c
  behind q z c named h holds =
      let cell = covered_cells facts (span q.object moves q) (as_written z) h (numbers f.registers) hold z.object (pos c.index) (as_cell f z c z.object refl holds) in
      record {
        object = along.objects q.object (subst (IsUsed prog.functions f.function) cell.object_is named) ∙ subst (λ o. object_at f o ≡ Some c.object) cell.object_is holds.object;
        from_low = subst (λ x. x ≤ℤ pos c.index) (end_behind (numbers f.registers) (numbers g.registers) moves along.numbers_are q.low) cell.from_low;
        before_high = subst (λ x. (pos c.index +ℤ pos 1) ≤ℤ x) (end_behind (numbers f.registers) (numbers g.registers) moves along.numbers_are q.high) cell.before_high;
      }

module _ (prog : Program) (f g : Frame) (edge : EdgeFacts) (along : GoesAlong prog f g edge.moves) (hold : AllHold (numbers f.registers) edge.facts) where
  passed_let : (waiting : List Pending) (region : RegisterId) (z : Zone) (c : Cell) → IsUsed prog.functions f.function z.object → is_passed edge waiting region z ≡ true → HoldsCell f z c → IsPendingFor g waiting region z.mode c
  unfolding is_passed
  passed_let waiting region z c named h holds = elim (or_cases (is_empty edge.facts (as_written z)) _ h) [
    | inl e ↦ absurd (empty_cells edge.facts (as_written z) e (numbers f.registers) hold z.object (pos c.index) (as_cell f z c z.object refl holds))
    | inr e ↦
        let any = Any-from_list_any (λ (q : Pending). (q.region.0 == region.0) && covers edge.facts (span q.zone.object edge.moves q.zone) (as_written z)) waiting e in
        let parts = and_parts (any.1.region.0 == region.0) (covers edge.facts (span any.1.zone.object edge.moves any.1.zone) (as_written z)) any.4 in (
          any.0,
          any.1,
          any.2,
          any.3,
          (
            eqb-true any.1.region.0 region.0 parts.0,
            (behind prog f g edge.moves along edge.facts hold any.1.zone z c named parts.1 holds, covers_mode edge.facts (span any.1.zone.object edge.moves any.1.zone) (as_written z) parts.1),
          ),
        )
  ]

-- what hands on passes
handed : (hands passes : Bool) → (not hands || passes) ≡ true → hands ≡ true → passes ≡ true
handed true passes h e = h
handed false passes h e = absurd (false≢true e)

-- what is pending is in the text of its function
pub pending_used : (prog : Program) (f : Frame) (function : Function) (block : Block) → StandsIn prog f function block → (q : Pending) → Contains block.pending q → IsUsed prog.functions f.function q.zone.object
pending_used prog f function block stands q at =
    used_name prog.functions f.function q.zone.object
    (in_pending f.block at.0 block q (record { function = function; at_function = stands.at_function; at_block = stands.at_block }) (get_is block.pending at.0 q at.1 ∙ ap (λ (x : Pending). Some x) at.2) refl)

pub pending_goes_on : PendingGoesOn
pending_goes_on prog regions right f g function block ending stands is edge at hold along q waits hands c holds =
    let waiting = pending_of (slice_get function.blocks edge.to.0) in
    let rule = and_parts (are_passed edge waiting block.pending) (child_passed_on function.blocks edge waiting edge.way ending.terminator) (edge_passes prog f function block stands regions right ending is edge at) in
    let one = All-contains (λ (x : Pending). (not (hands_on edge.way x.region) || is_passed edge waiting x.region x.zone) ≡ true) block.pending q
    (all_pass (λ (x : Pending). not (hands_on edge.way x.region) || is_passed edge waiting x.region x.zone) block.pending rule.0) waits in
    passed_let prog f g edge along hold waiting q.region q.zone c (pending_used prog f function block stands q waits) (handed (hands_on edge.way q.region) (is_passed edge waiting q.region q.zone) one hands) holds

pub feet_go_on : FeetGoOn
feet_go_on prog regions right f g function block ending stands is edge at hold along region body continuation t way z in_foot c holds =
    let waiting = pending_of (slice_get function.blocks edge.to.0) in
    let rule = and_parts (are_passed edge waiting block.pending) (child_passed_on function.blocks edge waiting edge.way ending.terminator) (edge_passes prog f function block stands regions right ending is edge at) in
    let child : foot_passed edge waiting region (foot_of (slice_get function.blocks body.0)) ≡ true =
    subst (λ (w : Way). child_passed_on function.blocks edge waiting w (terminator.Detach region body continuation) ≡ true) way
    (subst (λ (x : Terminator). child_passed_on function.blocks edge waiting edge.way x ≡ true) t rule.1) in
    let one = All-contains (λ (x : Zone). is_passed edge waiting region x ≡ true) (foot_of (slice_get function.blocks body.0)) z
    (all_pass (λ (x : Zone). is_passed edge waiting region x) (foot_of (slice_get function.blocks body.0)) child) in_foot in
    passed_let prog f g edge along hold waiting region z c (used_name prog.functions f.function z.object (foot_named prog f function block stands body.0 z in_foot)) one holds
