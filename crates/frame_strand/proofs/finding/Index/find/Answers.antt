use Rattle.std.proofs.Common.{◌∙◌, ◌-◌, ap, sym, arith, rules, w64}
use Rattle.std.specs.Prelude.{FitsSigned, slice_get}
use Rattle.std.proofs.lemmas.Int.{to_z-of_z}
use mir.Val.{to_z, of_z}
use Rattle.frame_strand.proofs.Chained.{searching_first, searching_on, listed_at, not_listed}
use Rattle.frame_strand.proofs.finding.Index.find.Goals as goal

pub loop-next-init : goal.loop-next-init
loop-next-init c = searching_first c.self.inside.heads.items c.self.inside.entries.items c.args.at.now c.head_at-next.result c.self.invariant.chained (ap (λ k. slice_get c.self.inside.heads.items k) (sym c.slot.ensures.is) ∙ ap (λ xs. slice_get xs c.slot.result) (sym c.as_slice.ensures.value) ∙ c.head_at-next.ensures)

pub returns-then-entry-at-clause-found : goal.returns-then-entry-at-clause-found
returns-then-entry-at-clause-found c = ap (λ xs. slice_get xs (c.loop-next.next - 1)) (sym c.self.view_is) ∙ listed_at c.self.inside.entries.items (c.loop-next.next - 1) c.entry_at-entry.result c.args.at.now (ap (λ xs. slice_get xs (c.loop-next.next - 1)) (sym c.as_slice-in-loop-next.ensures.value) ∙ c.entry_at-entry.ensures) (let fit : FitsSigned w64 c.entry_at-entry.result.at = search rules in
    let fits : FitsSigned w64 c.args.at.now = search rules in
    sym (to_z-of_z w64 c.entry_at-entry.result.at fit) ∙ ap (to_z w64) c.if-entry-at.true ∙ to_z-of_z w64 c.args.at.now fits)

pub loop-next-preserved : goal.loop-next-preserved
loop-next-preserved c = (searching_on c.self.inside.heads.items c.self.inside.entries.items c.args.at.now c.loop-next.next (c.loop-next.next - 1) c.entry_at-entry.result c.self.invariant.chained c.loop-next.invariant (let h = c.loop-next-test.true in omega (arith, h)) (ap (λ xs. slice_get xs (c.loop-next.next - 1)) (sym c.as_slice-in-loop-next.ensures.value) ∙ c.entry_at-entry.ensures) (λ e. c.if-entry-at.false (ap (of_z w64) e))).0

pub returns-clause-absent : goal.returns-clause-absent
returns-clause-absent c = λ place h. not_listed c.self.inside.entries.items c.args.at.now c.loop-next.next c.loop-next.invariant (let g = c.loop-next-test.false in omega (arith, g)) place (ap (λ xs. slice_get xs place) c.self.view_is ∙ h)
