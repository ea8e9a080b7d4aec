-- Which addresses are a segment's.
use Rattle.std.proofs.Common.{◌≡◌, ℕ, zero, suc, ◌+◌, ◌-◌, ◌≤◌, ◌<◌, List, [], ◌∷◌, length, refl, ap, sym, subst, arith, ℤ, pos, negsuc, ◌-ℤ◌, Option, Some, None}
use Rattle.std.specs.Prelude.{IsSome, slice_get}
use Rattle.std.proofs.lemmas.Int.{ints}
use Rattle.std.proofs.lemmas.Option.{slice_get_within}
use Rattle.frame_engine.specs.Flat.{cell_in}
use Rattle.strand.specs.Layouts.{IsOutside, Segment}
use Rattle.strand.specs.OwnCells.{own_cell, segment_of}
use Rattle.strand.specs.declared.cells.StrandCells.{StrandCells}
use Rattle.strand.proofs.Over.{IsAt}

get_within : (xs : List ℤ) (n : ℕ) → n < length xs → IsSome (slice_get xs n)
get_within [] n h = absurd (omega (arith, h))
get_within (x ∷ xs) zero h = refl
get_within (x ∷ xs) (suc n) h = get_within xs n (omega (arith, h))

-- the other addresses have no cell in it
pub outside_none : (x : StrandCells) (a : ℤ) → IsOutside (segment_of x) a → own_cell x a ≡ None
outside_none x a out = from (a -ℤ pos x.start) refl
  where
    gets : (n : ℕ) (o : Option ℤ) → a -ℤ pos x.start ≡ pos n → slice_get x.own.items n ≡ o → slice_get x.own.items n ≡ None
    gets n None e is = is
    gets n (Some v) e is = absurd (out n (slice_get_within x.own.items n v is) (omega (arith, ints, e)))

    from : (b : ℤ) → a -ℤ pos x.start ≡ b → cell_in x.own.items b ≡ None
    from (pos n) e = gets n (slice_get x.own.items n) e refl
    from (negsuc n) e = refl

-- its addresses have one
pub inside_some : (x : StrandCells) (s : Segment) (a : ℤ) (low high : ℕ) → segment_of x ≡ s → IsAt a low high → s.start ≤ low → high ≤ s.start + s.count → IsSome (own_cell x a)
inside_some x s a low high same at after before =
    let start : x.start ≡ s.start = ap (λ (y : Segment). y.start) same in
    let count : length x.own.items ≡ s.count = ap (λ (y : Segment). y.count) same in
    let is = at.is in
    let more = at.after in
    let less = at.before in
    let place : a -ℤ pos x.start ≡ pos (at.place - x.start) = omega (arith, ints, is, start, after, more) in
    subst (λ (b : ℤ). IsSome (cell_in x.own.items b)) (sym place) (get_within x.own.items (at.place - x.start) (omega (arith, start, count, more, less, before, after)))
