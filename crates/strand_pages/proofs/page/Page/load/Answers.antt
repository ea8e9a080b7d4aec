use Rattle.std.proofs.Common.{refl, ◌≡◌, ◌≢◌, ◌<◌, ◌∙◌, ℕ, ℤ, ap, sym, arith, inl, inr, rules, true, false, w64, Some}
use Rattle.std.specs.Prelude.{FitsSigned}
use Rattle.std.proofs.lemmas.Bool.{or_parts}
use Rattle.std.proofs.lemmas.Bool.Decides.{eqb_tells}
use Rattle.std.proofs.lemmas.List.{length-set}
use Rattle.std.proofs.lemmas.Int.{to_z-of_z}
use Rattle.strand_pages.specs.Bits.{is_set}
use Rattle.strand_pages.specs.Paging.{number_at}
use Rattle.strand_pages.proofs.Changing.{loaded_absent, loaded_held, loaded_unwritten, value_held}
use Rattle.strand_pages.proofs.Copied.{copied_read, known_read, settled_read}
use Rattle.strand_pages.proofs.page.Page.load.Goals as goal

pub returns-then-is_set-clause-value : goal.returns-then-is_set-clause-value
returns-then-is_set-clause-value c =
    let x = c.args.self.now in
    let k = c.args.place in
    let change : FitsSigned w64 (number_at x.changes k) = search rules in
    ap (λ (z : ℤ). Some z) (to_z-of_z w64 (number_at x.changes k) change) ∙ value_held x k (sym (c.args.self.now.known_is c.args.place) ∙ sym c.if-is_set.ensures)

pub returns-then-is_set-clause-done : goal.returns-then-is_set-clause-done
returns-then-is_set-clause-done c =
    loaded_held c.args.self.now c.args.place (sym (c.args.self.now.known_is c.args.place) ∙ sym c.if-is_set.ensures)

pub returns-then-place-self-clause-done : goal.returns-then-place-self-clause-done
returns-then-place-self-clause-done c =
    let x = c.args.self.now in
    let k = c.args.place in
    loaded_absent x k ((or_parts (is_set x.read k) (is_set x.stored k) (sym (x.known_is k) ∙ sym c.if-is_set.ensures)).1) c.if-place-self.true

pub returns-clause-done : goal.returns-clause-done
returns-clause-done c =
    let x = c.args.self.now in
    let k = c.args.place in
    let long = x.rows.1 in
    let within = c.requires in
    let fresh : is_set x.stored k ≡ false = (or_parts (is_set x.read k) (is_set x.stored k) (sym (x.known_is k) ∙ sym c.if-is_set.ensures)).1 in
    loaded_unwritten x k fresh c.if-place-self.false c.with_bit-self.result c.with_bit-self.ensures.set c.with_bit-self.ensures.others
    (sym c.if-is_set-2.ensures) (omega (arith, long, within)) _

pub invariant_of-self-clause-settled : goal.invariant_of-self-clause-settled
invariant_of-self-clause-settled c =
    settled_read c.args.self.now c.args.place c.with_bit-self.result c.with_bit-self.ensures.others (sym c.if-is_set-2.ensures)

pub invariant_of-self-clause-copied : goal.invariant_of-self-clause-copied
invariant_of-self-clause-copied c =
    let x = c.args.self.now in
    let k = c.args.place in
    let value : FitsSigned w64 (number_at x.values k) = search rules in
    let long = x.rows.1 in
    let within = c.requires in
    copied_read x k c.with_bit-self.result c.with_bit-self.ensures.others (omega (arith, long, within)) _ (to_z-of_z w64 (number_at x.values k) value)

-- one more cell that is at hand was read
near_more : (read after place filled : ℕ) → ((k : ℕ) → k ≢ place → is_set after k ≡ is_set read k) → ((k : ℕ) → is_set read k ≡ true → k < filled) → place < filled → (k : ℕ) → is_set after k ≡ true → k < filled
near_more read after place filled others near low k on = elim (eqb_tells k place) [
  | inl q ↦ let same = q.1 in omega (arith, same, low)
  | inr q ↦ near k (sym (others k q.1) ∙ on)
]

pub invariant_of-self-clause-rows : goal.invariant_of-self-clause-rows
invariant_of-self-clause-rows c = (c.args.self.now.rows.0, length-set c.args.self.now.changes c.args.place _ ∙ c.args.self.now.rows.1)

pub invariant_of-self-clause-within : goal.invariant_of-self-clause-within
invariant_of-self-clause-within c = c.args.self.now.within

pub invariant_of-self-clause-read_near : goal.invariant_of-self-clause-read_near
invariant_of-self-clause-read_near c =
    let x = c.args.self.now in
    near_more x.read c.with_bit-self.result c.args.place x.filled c.with_bit-self.ensures.others x.read_near c.if-place-self.false

pub bounds-self-place : goal.bounds-self-place
bounds-self-place c = c.requires

pub bounds-self-place-2 : goal.bounds-self-place-2
bounds-self-place-2 c = c.requires

pub invariant_of-self-clause-known_is : goal.invariant_of-self-clause-known_is
invariant_of-self-clause-known_is c =
    let x = c.args.self.now in
    known_read x c.args.place c.with_bit-self-2.result c.with_bit-self.result x.stored c.with_bit-self-2.ensures.set c.with_bit-self-2.ensures.others c.with_bit-self.ensures.others (λ j off. refl) c.with_bit-self.ensures.set
