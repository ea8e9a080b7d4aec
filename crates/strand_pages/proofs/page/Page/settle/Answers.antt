use Rattle.std.proofs.Common.{◌≡◌, ◌∙◌, arith, rules, false, w64}
use Rattle.std.specs.Prelude.{FitsSigned}
use Rattle.std.proofs.lemmas.Bool.{or_parts}
use Rattle.std.proofs.lemmas.Int.{to_z-of_z}
use Rattle.semantics.specs.Arithmetic.{cell_sum}
use Rattle.strand_pages.specs.Bits.{is_set}
use Rattle.strand_pages.specs.Paging.{number_at}
use Rattle.strand_pages.proofs.Changing.{loaded_delta}
use Rattle.strand_pages.proofs.Copied.{copied_stored, known_read, settled_stored}
use Rattle.strand_pages.proofs.page.Page.settle.Goals as goal

pub returns-clause-done : goal.returns-clause-done
returns-clause-done c =
    let x = c.args.self.now in
    let k = c.args.place in
    let fresh : is_set x.stored k ≡ false = (or_parts (is_set x.read k) (is_set x.stored k) c.requires.fresh).1 in
    let fit : FitsSigned w64 c.sum-number.result = search rules in
    let value : FitsSigned w64 (number_at x.values k) = search rules in
    let change : FitsSigned w64 (number_at x.changes k) = search rules in
    let long = x.rows.1 in
    let within = c.requires.place in
    loaded_delta x k fresh c.requires.near c.with_bit-self.result c.with_bit-self.ensures.set c.with_bit-self.ensures.others
    c.requires.added (omega (arith, long, within)) c.with_bit-self-2.result c.with_bit-self-2.ensures.set c.with_bit-self-2.ensures.others _
    (to_z-of_z w64 c.sum-number.result fit ∙ c.sum-number.ensures ∙ (λ i. cell_sum (to_z-of_z w64 (number_at x.values k) value i) (to_z-of_z w64 (number_at x.changes k) change i)))

pub invariant_of-self-clause-known_is : goal.invariant_of-self-clause-known_is
invariant_of-self-clause-known_is c =
    known_read c.args.self.now c.args.place c.with_bit-self-3.result c.with_bit-self.result c.with_bit-self-2.result c.with_bit-self-3.ensures.set c.with_bit-self-3.ensures.others c.with_bit-self.ensures.others c.with_bit-self-2.ensures.others c.with_bit-self.ensures.set

pub invariant_of-self-clause-settled : goal.invariant_of-self-clause-settled
invariant_of-self-clause-settled c =
    settled_stored c.args.self.now c.args.place c.with_bit-self.result c.with_bit-self.ensures.others c.with_bit-self-2.result c.with_bit-self-2.ensures.set c.with_bit-self-2.ensures.others

pub invariant_of-self-clause-copied : goal.invariant_of-self-clause-copied
invariant_of-self-clause-copied c =
    copied_stored c.args.self.now c.args.place c.with_bit-self.result c.with_bit-self.ensures.others c.with_bit-self-2.result c.with_bit-self-2.ensures.set c.with_bit-self-2.ensures.others _
