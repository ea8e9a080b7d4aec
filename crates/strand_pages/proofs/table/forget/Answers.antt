use Rattle.std.proofs.Common.{◌≡◌, ◌<◌, ◌∙◌, ℕ, zero, suc, ap, sym, refl, arith, length, set, inl, inr}
use Rattle.std.specs.Prelude.{slice_get, slice_index}
use Rattle.std.proofs.lemmas.Bool.Decides.{eqb_tells}
use Rattle.std.proofs.lemmas.List.{get_or-set_same, get_or-set_other, length-set}
use Rattle.std.proofs.lemmas.Option.{slice_get_read}
use Rattle.strand_pages.proofs.Paged.{index_within}
use Rattle.strand_pages.proofs.table.forget.Goals as goal

number_within : (c : goal.After-number-number) → c.number-number.result < length c.args.directory.now
number_within c =
    let p = c.index-pages-slot.result in
    let made = c.requires.made in
    let lt = c.loop-slot-test.true in
    let is = slice_get_read c.args.pages.now (length c.args.pages.now) c.loop-slot.slot p refl (omega (arith, made, lt)) c.index-pages-slot.is in
    index_within c.args.directory.now c.number-number.result c.loop-slot.slot (ap (slice_index c.args.directory.now) c.number-number.ensures ∙ c.requires.listed c.loop-slot.slot p lt is)

pub offset_bounds-directory-number : goal.offset_bounds-directory-number
offset_bounds-directory-number c = let lt = number_within c in let few = c.requires.numbers in record { fits = omega (arith, lt, few) }

pub bounds-directory-number : goal.bounds-directory-number
bounds-directory-number c = let lt = number_within c in let long = c.loop-slot.invariant.0 in omega (arith, lt, long)

pub loop-slot-preserved : goal.loop-slot-preserved
loop-slot-preserved c =
    let p = c.index-pages-slot.result in
    let made = c.requires.made in
    let lt = c.loop-slot-test.true in
    let directory = c.loop-slot.directory in
    let number = c.number-number.result in
    let is = slice_get_read c.args.pages.now (length c.args.pages.now) c.loop-slot.slot p refl (omega (arith, made, lt)) c.index-pages-slot.is in
    let long = c.loop-slot.invariant.0 in
    let inside = number_within c in (
      length-set directory number 0 ∙ long,
      λ n s e. elim (eqb_tells n number) [
        | inl q ↦ absurd (
            let gone : slice_index (set directory number 0) n ≡ 0 = ap (slice_index (set directory number 0)) q.1 ∙ get_or-set_same directory number 0 0 (omega (arith, long, inside)) in
            omega (arith, gone, e))
        | inr q ↦
            let old = c.loop-slot.invariant.1 n s (sym (get_or-set_other directory number n 0 0 q.1) ∙ e) in
            let le = old.1 in (
              old.0,
              elim (eqb_tells s c.loop-slot.slot) [
                | inl w ↦ absurd (q.1 (sym (c.requires.numbered n s p old.0 (ap (slice_get c.args.pages.now) w.1 ∙ is)) ∙ sym c.number-number.ensures))
                | inr w ↦ let off = w.1 in omega (arith, off, le)
              ],
            )
      ],
    )

pub returns-clause-none : goal.returns-clause-none
returns-clause-none c n = from (slice_index c.loop-slot.directory n) refl
  where
    from : (j : ℕ) → slice_index c.loop-slot.directory n ≡ j → slice_index c.loop-slot.directory n ≡ 0
    from zero e = e
    from (suc s) e = absurd (
        let old = c.loop-slot.invariant.1 n s e in
        let le = old.1 in
        let lt = c.requires.slots n s old.0 in
        let end = c.loop-slot-test.false in
        omega (arith, le, lt, end))
