use Rattle.std.proofs.Common.{◌≡◌, ◌∙◌, ap, sym, arith, rules, ℤ, w64}
use Rattle.std.specs.Prelude.{FitsSigned}
use Rattle.std.proofs.lemmas.Bool.{or_parts}
use Rattle.std.proofs.lemmas.Int.{to_z-of_z}
use mir.Val.{to_z, of_z}
use Rattle.semantics.specs.Arithmetic.{cell_sum}
use Rattle.frame_strand.specs.declared.cells.Change.TheVariants.{Stored}
use Rattle.strand_pages.specs.Bits.{is_set}
use Rattle.strand_pages.specs.Pages.{changed_page}
use Rattle.strand_pages.specs.Paging.{kept_of, number_at}
use Rattle.strand_pages.proofs.Changing.{added_change, added_delta, raised_held}
use Rattle.strand_pages.proofs.Copied.{copied_unread, settled_unread}
use Rattle.strand_pages.proofs.page.Page.add.Goals as goal

pub returns-then-is_set : goal.returns-then-is_set
returns-then-is_set c =
    let x = c.args.self.now in
    let k = c.args.place in
    let change : FitsSigned w64 (number_at x.changes k) = search rules in
    let number : FitsSigned w64 c.args.number.now = search rules in
    let fit : FitsSigned w64 c.sum-sum.result = search rules in
    let sum : to_z w64 (of_z w64 c.sum-sum.result) ≡ cell_sum (number_at x.changes k) c.args.number.now =
    to_z-of_z w64 c.sum-sum.result fit ∙ c.sum-sum.ensures ∙ (λ i. cell_sum (to_z-of_z w64 (number_at x.changes k) change i) (to_z-of_z w64 c.args.number.now number i)) in
    c.store.ensures ∙ ap (changed_page (kept_of x) k) (ap (λ (z : ℤ). Stored z) sum ∙ raised_held x k (sym (x.known_is k) ∙ sym c.if-is_set.ensures) c.args.number.now)

pub returns-then-is_set-2 : goal.returns-then-is_set-2
returns-then-is_set-2 c =
    let x = c.args.self.now in
    let k = c.args.place in
    let off = or_parts (is_set x.read k) (is_set x.stored k) (sym (x.known_is k) ∙ sym c.if-is_set.ensures) in
    let fit : FitsSigned w64 c.sum.result = search rules in
    let change : FitsSigned w64 (number_at x.changes k) = search rules in
    let number : FitsSigned w64 c.args.number.now = search rules in
    let long = x.rows.1 in
    let within = c.requires in
    added_change x k off.1 (sym c.if-is_set-2.ensures) (omega (arith, long, within)) c.args.number.now _
    (to_z-of_z w64 c.sum.result fit ∙ c.sum.ensures ∙ (λ i. cell_sum (to_z-of_z w64 (number_at x.changes k) change i) (to_z-of_z w64 c.args.number.now number i)))

pub invariant_of-self-clause-copied : goal.invariant_of-self-clause-copied
invariant_of-self-clause-copied c =
    let x = c.args.self.now in
    let k = c.args.place in
    copied_unread x k (or_parts (is_set x.read k) (is_set x.stored k) (sym (x.known_is k) ∙ sym c.if-is_set.ensures)).0 _

pub returns-else-is_set-2 : goal.returns-else-is_set-2
returns-else-is_set-2 c =
    let x = c.args.self.now in
    let k = c.args.place in
    let off = or_parts (is_set x.read k) (is_set x.stored k) (sym (x.known_is k) ∙ sym c.if-is_set.ensures) in
    let number : FitsSigned w64 c.args.number.now = search rules in
    let long = x.rows.1 in
    let within = c.requires in
    added_delta x k off.1 (sym c.if-is_set-2.ensures) off.0 c.with_bit-self.result c.with_bit-self.ensures.set c.with_bit-self.ensures.others (omega (arith, long, within)) c.args.number.now _
    (to_z-of_z w64 c.args.number.now number)

pub invariant_of-self-else-is_set-2-clause-settled : goal.invariant_of-self-else-is_set-2-clause-settled
invariant_of-self-else-is_set-2-clause-settled c =
    let x = c.args.self.now in
    let k = c.args.place in
    settled_unread x k (or_parts (is_set x.read k) (is_set x.stored k) (sym (x.known_is k) ∙ sym c.if-is_set.ensures)).0 c.with_bit-self.result c.with_bit-self.ensures.others

pub invariant_of-self-else-is_set-2-clause-copied : goal.invariant_of-self-else-is_set-2-clause-copied
invariant_of-self-else-is_set-2-clause-copied c =
    let x = c.args.self.now in
    let k = c.args.place in
    copied_unread x k (or_parts (is_set x.read k) (is_set x.stored k) (sym (x.known_is k) ∙ sym c.if-is_set.ensures)).0 _
