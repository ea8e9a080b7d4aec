use Rattle.std.proofs.Common.{refl, arith, rules, w64}
use Rattle.std.specs.Prelude.{FitsSigned}
use Rattle.std.proofs.lemmas.Int.{to_z-of_z}
use Rattle.strand_pages.proofs.Changing.{stored_here}
use Rattle.strand_pages.proofs.Copied.{copied_stored, known_stored, settled_stored}
use Rattle.strand_pages.proofs.page.Page.store.Goals as goal

pub returns : goal.returns
returns c =
    let x = c.args.self.now in
    let fit : FitsSigned w64 c.args.number.now = search rules in
    let long = x.rows.1 in
    let within = c.requires in
    stored_here x c.args.place c.with_bit-self.result c.with_bit-self.ensures.set c.with_bit-self.ensures.others (omega (arith, long, within)) _ c.args.number.now
    (to_z-of_z w64 c.args.number.now fit)

pub invariant_of-self-clause-settled : goal.invariant_of-self-clause-settled
invariant_of-self-clause-settled c =
    let x = c.args.self.now in
    settled_stored x c.args.place x.read (λ j off. refl) c.with_bit-self.result c.with_bit-self.ensures.set c.with_bit-self.ensures.others

pub invariant_of-self-clause-copied : goal.invariant_of-self-clause-copied
invariant_of-self-clause-copied c =
    let x = c.args.self.now in
    copied_stored x c.args.place x.read (λ j off. refl) c.with_bit-self.result c.with_bit-self.ensures.set c.with_bit-self.ensures.others _

pub invariant_of-self-clause-known_is : goal.invariant_of-self-clause-known_is
invariant_of-self-clause-known_is c =
    let x = c.args.self.now in
    known_stored x c.args.place c.with_bit-self-2.result x.read c.with_bit-self.result c.with_bit-self-2.ensures.set c.with_bit-self-2.ensures.others (λ j off. refl) c.with_bit-self.ensures.others c.with_bit-self.ensures.set
