-- A memory for a strand: what is at hand of the machine's cells, what its own cells held first, 0 elsewhere in objects of the machine, and what it wrote.
use Rattle.std.proofs.Common.{◌≡◌, ℕ, refl, ap, sym, ◌∙◌, subst, ℤ, Option, Some, None, inl, inr, ◌⊎◌}
use Rattle.std.specs.Prelude.{IsSome}
use Rattle.std.specs.Option.{option_map}
use Rattle.std.proofs.lemmas.Option.{same_Some}
use Rattle.semantics.specs.Cells.{Cell, Memory}
use Rattle.semantics.specs.Written.{or_zero}
use Rattle.laws_strands.specs.stacks.Footprint.{Footprint, put, seen}
use Rattle.laws_strands.proofs.stacks.Keeping.{Agrees}
use Rattle.frame_engine.specs.Shows.{Layout, IsIn, ShowsCells, address}
use Rattle.strand.specs.frame_strand.Alone.{IsFull}
use Rattle.strand.specs.frame_strand.declared.cells.Change.{Change}
use Rattle.strand.specs.frame_strand.declared.cells.Change.TheVariants.{Stored, Delta}
use Rattle.strand_pages.specs.Known.{value_of}
use Rattle.strand_pages.specs.Logs.{Log, value_at}
use Rattle.strand_pages.specs.Tables.{log_of}
use Rattle.strand.specs.CellsKept.{ShowsKept, write_of}
use Rattle.strand.specs.Layouts.{IsOutside}
use Rattle.strand.specs.OwnCells.{any_cell, held_at, may_be, own_cell, own_or, segment_of}
use Rattle.strand.specs.declared.cells.StrandCells.{StrandCells}
use Rattle.strand.proofs.Over.{LiesOver, in_or_not}
use Rattle.strand.proofs.Segments.{outside_none}

put_some : (u : Option Change) (z : ℤ) → IsSome (put (option_map write_of u) (Some z))
put_some None z = refl
put_some (Some (Stored y)) z = refl
put_some (Some (Delta y)) z = refl

-- what is at hand is what it sees
put_value : (u : Option Change) (near : Option ℤ) (v : ℤ) → value_of u near ≡ Some v → put (option_map write_of u) (Some (or_zero near)) ≡ Some v
put_value None None v e = absurd cc
put_value None (Some w) v e = e
put_value (Some (Stored z)) near v e = e
put_value (Some (Delta z)) None v e = absurd cc
put_value (Some (Delta z)) (Some w) v e = e

module _ (l k : Layout) (first : Cell → ℤ) (f : Footprint) (b : Log) where
  abbrev first_seen : (c : Cell) → IsIn l c ⊎ (IsIn l c → ⊥) → IsIn k c ⊎ (IsIn k c → ⊥) → Option ℤ
  first_seen c (inl q) t = Some (or_zero (b.near (address l c)))
  first_seen c (inr q) (inl t) = Some (first c)
  first_seen c (inr q) (inr t) = f.reads c

  abbrev pub seen_by : Memory
  seen_by c = first_seen c (in_or_not l c) (in_or_not k c)

  within_seen : (c : Cell) → IsIn l c → seen_by c ≡ Some (or_zero (b.near (address l c)))
  within_seen c here = from (in_or_not l c) (in_or_not k c)
    where
      from : (a : IsIn l c ⊎ (IsIn l c → ⊥)) (t : IsIn k c ⊎ (IsIn k c → ⊥)) → first_seen c a t ≡ Some (or_zero (b.near (address l c)))
      from (inl q) t = refl
      from (inr q) t = absurd (q here)

  pub near_seen : (c : Cell) → IsIn l c → (v : ℤ) → b.near (address l c) ≡ Some v → seen_by c ≡ Some v
  near_seen c here v e = within_seen c here ∙ ap (λ o. Some (or_zero o)) e

  pub own_seen : (c : Cell) → (IsIn l c → ⊥) → IsIn k c → seen_by c ≡ Some (first c)
  own_seen c out here = from (in_or_not l c) (in_or_not k c)
    where
      from : (a : IsIn l c ⊎ (IsIn l c → ⊥)) (t : IsIn k c ⊎ (IsIn k c → ⊥)) → first_seen c a t ≡ Some (first c)
      from (inl q) t = absurd (out q)
      from (inr q) (inl t) = refl
      from (inr q) (inr t) = absurd (t here)

  gone_seen : (c : Cell) → (IsIn l c → ⊥) → (IsIn k c → ⊥) → seen_by c ≡ f.reads c
  gone_seen c out gone = from (in_or_not l c) (in_or_not k c)
    where
      from : (a : IsIn l c ⊎ (IsIn l c → ⊥)) (t : IsIn k c ⊎ (IsIn k c → ⊥)) → first_seen c a t ≡ f.reads c
      from (inl q) t = absurd (out q)
      from (inr q) (inl t) = absurd (gone t)
      from (inr q) (inr t) = refl

module _ (l k : Layout) (first : Cell → ℤ) (f : Footprint) (x : StrandCells) (s : ShowsKept l k first f x) where
  abbrev b : Log
  b = log_of x.log

  abbrev m : Memory
  m = seen_by l k first f b

  pub seen_agrees : Agrees m f
  seen_agrees c v e = from (in_or_not l c) (in_or_not k c)
    where
      from : (a : IsIn l c ⊎ (IsIn l c → ⊥)) (t : IsIn k c ⊎ (IsIn k c → ⊥)) → first_seen l k first f b c a t ≡ Some v
      from (inl q) t = ap (λ o. Some (or_zero o)) (s.log.near (address l c) v (sym (s.log.reads c q) ∙ e))
      from (inr q) (inl t) = (s.own c q t).read v e
      from (inr q) (inr t) = e

  -- what the segment's cell holds is what the memory does
  pub own_is : (c : Cell) (out : IsIn l c → ⊥) (here : IsIn k c) → own_cell x (address k c) ≡ seen m f c
  own_is c out here = (s.own c out here).is ∙ ap (put (f.writes c)) (sym (own_seen l k first f b c out here))

  put_is : (c : Cell) → IsIn l c → seen m f c ≡ put (option_map write_of (b.writes (address l c))) (Some (or_zero (b.near (address l c))))
  put_is c here = λ i. put (s.log.writes c here i) (within_seen l k first f b c here i)

  pub seen_full : IsFull k (seen m f)
  seen_full c here = elim (in_or_not l c) [
    | inl q ↦ subst IsSome (sym (put_is c q)) (put_some (b.writes (address l c)) (or_zero (b.near (address l c))))
    | inr q ↦ subst IsSome (own_is c q here) (s.own c q here).there
  ]

  module _ (start end : ℕ) (over : LiesOver l k start end) (outside : (c : Cell) → IsIn l c → IsOutside (segment_of x) (address l c)) where
    pub in_log : (c : Cell) → IsIn l c → own_cell x (address l c) ≡ None
    in_log c here = outside_none x (address l c) (outside c here)

    seen_inside : (c : Cell) (z : ℤ) → seen m f c ≡ Some z → IsIn k c
    seen_inside c z e = elim (in_or_not k c) [
      | inl q ↦ q
      | inr q ↦ absurd (
          let none : seen m f c ≡ None = ap (put (f.writes c)) (gone_seen l k first f b c (λ here. q (over.kept c here)) q) ∙ s.gone c q in
          let bad : None ≡ Some z = sym none ∙ e in cc)
    ]

    seen_value : (c : Cell) (z v : ℤ) → seen m f c ≡ Some z → held_at x (address k c) ≡ Some v → v ≡ z
    seen_value c z v e h = elim (in_or_not l c) [
      | inl q ↦
          let log : held_at x (address k c) ≡ value_at b (address l c) = (λ i. own_or (own_cell x (over.same c q i)) (value_at b (over.same c q i))) ∙ (λ i. own_or (in_log c q i) (value_at b (address l c))) in
          same_Some v z (sym (put_value (b.writes (address l c)) (b.near (address l c)) v (sym log ∙ h)) ∙ sym (put_is c q) ∙ e)
      | inr q ↦
          let mine : own_cell x (address k c) ≡ Some z = own_is c q (seen_inside c z e) ∙ e in
          same_Some v z (sym h ∙ ap (λ o. own_or o (value_at b (address k c))) mine)
    ]

    pub seen_shows : ShowsCells k (any_cell x) (may_be x) (seen m f)
    seen_shows = record {
      values = λ c z e v h. seen_value c z v e h;
      inside = seen_inside;
      reached = λ c here. refl;
      apart = over.apart;
    }
