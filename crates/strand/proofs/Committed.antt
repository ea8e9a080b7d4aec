-- The row into which a strand's cells were put holds what the machine that absorbed it has, with its frames' allocas in the segment.
use Rattle.std.proofs.Common.{◌≡◌, ◌+◌, ◌-◌, ◌≤◌, ◌<◌, ℕ, List, Option, Some, None, length, inl, inr, refl, sym, ap, ◌∙◌, subst, arith, ℤ, pos, negsuc}
use Rattle.std.specs.Prelude.{IsTrue, nat_lt}
use Rattle.std.specs.Option.{option_map}
use Rattle.std.proofs.lemmas.Bool.{lt-ltb}
use Rattle.semantics.specs.Cells.{Cell, Memory}
use Rattle.semantics.specs.State.{sum_in}
use Rattle.laws_strands.specs.stacks.Footprint.{Footprint, Write, put}
use Rattle.laws_strands.specs.stacks.Footprint as footprint
use Rattle.frame_engine.specs.Flat.{cell_in, is_cell}
use Rattle.frame_engine.specs.Shows.{Layout, IsIn, ShowsCells, address}
use Rattle.strand.specs.frame_strand.declared.cells.Change.{Change}
use Rattle.strand.specs.frame_strand.declared.cells.Change.TheVariants.{Stored, Delta}
use Rattle.strand_pages.specs.Known.{put_change}
use Rattle.strand_pages.specs.Tables.{log_of}
use Rattle.strand.specs.CellsKept.{ShowsKept, write_of}
use Rattle.strand.specs.Layouts.{IsOutside, Segment}
use Rattle.strand.specs.OwnCells.{segment_of}
use Rattle.strand.specs.Putting.{ArePutInto, IsOwnBelow}
use Rattle.strand.specs.declared.cells.StrandCells.{StrandCells}
use Rattle.strand.proofs.Over.{LiesOver, in_or_not}

below : (n k : ℕ) → n < k → IsTrue (nat_lt n k)
below n k h = lt-ltb n k h

-- what a write leaves without a number before it leaves the same with one
put_any : (u : Option Write) (z first : ℤ) → put u None ≡ Some z → put u (Some first) ≡ Some z
put_any None z first e = absurd cc
put_any (Some (footprint.Stored o)) z first e = e
put_any (Some (footprint.Delta y)) z first e = absurd cc

module _ (l k : Layout) (first : Cell → ℤ) (f : Footprint) (x : StrandCells) (kept : ShowsKept l k first f x) (s : Segment) (segment : segment_of x ≡ s) (end : ℕ) (over : LiesOver l k s.start end)
    (outside : (c : Cell) → IsIn l c → IsOutside s (address l c)) (room : end ≤ s.start + s.count) (m : Memory) (read : (c : Cell) (v : ℤ) → f.reads c ≡ Some v → m c ≡ Some v)
    (old new : List ℤ) (were : ShowsCells l (is_cell old) (λ a z. cell_in old a ≡ Some z) m) (within : end ≤ length old) (puts : ArePutInto x end old new)
  where
    abbrev pub later : Memory
    later c = put (f.writes c) (m c)

    start : x.start ≡ s.start
    start = ap (λ (y : Segment). y.start) segment

    -- the machine has no number at a cell of no object
    none_yet : (c : Cell) → (IsIn l c → ⊥) → m c ≡ None
    none_yet c out = from (m c) refl
      where
        from : (o : Option ℤ) → m c ≡ o → m c ≡ None
        from None e = e
        from (Some z) e = absurd (out (were.inside c z e))

    -- and so it read none there
    unread : (c : Cell) → (IsIn l c → ⊥) → f.reads c ≡ None
    unread c out = from (f.reads c) refl
      where
        from : (o : Option ℤ) → f.reads c ≡ o → f.reads c ≡ None
        from None e = e
        from (Some v) e = absurd (out (were.inside c v (read c v e)))

    inside_later : (c : Cell) (z : ℤ) → later c ≡ Some z → IsIn k c
    inside_later c z e = elim (in_or_not k c) [
      | inl q ↦ q
      | inr q ↦ absurd (
          let out : IsIn l c → ⊥ = λ h. q (over.kept c h) in
          let gone : put (f.writes c) None ≡ None = sym (ap (put (f.writes c)) (unread c out)) ∙ kept.gone c q in
          let bad : None ≡ Some z = sym gone ∙ sym (ap (put (f.writes c)) (none_yet c out)) ∙ e in cc)
    ]

    value_put : (c : Cell) (z : ℤ) (u : Option Change) → put (option_map write_of u) (m c) ≡ Some z → put_change u (cell_in old (address l c)) ≡ Some z
    value_put c z None e = were.values c z e
    value_put c z (Some (Stored y)) e = e
    value_put c z (Some (Delta y)) e = from (m c) refl e
      where
        from : (o : Option ℤ) → m c ≡ o → sum_in y o ≡ Some z → sum_in y (cell_in old (address l c)) ≡ Some z
        from None is h = absurd cc
        from (Some v) is h = ap (sum_in y) (were.values c v is) ∙ h

    -- a cell of the machine's
    not_own : (c : Cell) → IsIn l c → IsOwnBelow x end (address k c) → ⊥
    not_own c q (n, ge, lt, is) = outside c q (n - s.start) (omega (arith, start, ge, lt, room)) (sym (over.same c q) ∙ is ∙ (let same : s.start + (n - s.start) ≡ n = omega (arith, start, ge) in ap pos (sym same)))

    old_value : (c : Cell) (z : ℤ) → IsIn l c → later c ≡ Some z → cell_in new (address k c) ≡ Some z
    old_value c z q e =
        puts.others (address k c) (not_own c q) ∙ (λ i. put_change ((log_of x.log).writes (over.same c q i)) (cell_in old (over.same c q i))) ∙
        value_put c z ((log_of x.log).writes (address l c)) (ap (λ u. put u (m c)) (sym (kept.log.writes c q)) ∙ e)

    -- one of the frames' own
    is_own : (c : Cell) → (IsIn l c → ⊥) → IsIn k c → IsOwnBelow x end (address k c)
    is_own c out here = let t = over.own c out here in let ge = t.after in (t.place, omega (arith, start, ge), t.before, t.is)

    own_value : (c : Cell) (z : ℤ) → (IsIn l c → ⊥) → IsIn k c → later c ≡ Some z → cell_in new (address k c) ≡ Some z
    own_value c z out here e =
        puts.own (address k c) (is_own c out here) ∙ (kept.own c out here).is ∙ put_any (f.writes c) z (first c) (sym (ap (put (f.writes c)) (none_yet c out)) ∙ e)

    kept_cell : (a : ℤ) → IsTrue (is_cell old a) → IsTrue (is_cell new a)
    kept_cell (pos n) h = subst (λ (i : ℕ). IsTrue (nat_lt n i)) (sym puts.long) h
    kept_cell (negsuc n) h = h

    there : (a : ℤ) → IsOwnBelow x end a → IsTrue (is_cell old a)
    there a (n, ge, lt, is) = subst (λ (b : ℤ). IsTrue (is_cell old b)) (sym is) (below n (length old) (let a : n < length old = omega (arith, lt, within) in a))

    pub strand_shown : ShowsCells k (is_cell new) (λ a z. cell_in new a ≡ Some z) later
    strand_shown = record {
      values = λ c z e. elim (in_or_not l c) [ inl q ↦ old_value c z q e | inr q ↦ own_value c z q (inside_later c z e) e ];
      inside = inside_later;
      reached = λ c here. kept_cell (address k c) (elim (in_or_not l c) [
        | inl q ↦ subst (λ (a : ℤ). IsTrue (is_cell old a)) (sym (over.same c q)) (were.reached c q)
        | inr q ↦ there (address k c) (is_own c q here)
      ]);
      apart = over.apart;
    }
