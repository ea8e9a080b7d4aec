-- What loads, stores and adds make of a page.
use Rattle.std.proofs.Common.{◌≡◌, ◌≢◌, ◌<◌, ◌≤◌, ◌⊎◌, ◌||◌, ℕ, ℤ, refl, sym, ap, ◌∙◌, arith, Bool, true, false, length, set, Option, Some, None, inl, inr}
use Rattle.std.proofs.lemmas.Bool.{cases_Bool, or_cases}
use Rattle.semantics.specs.Arithmetic.{cell_sum}
use Rattle.frame_strand.specs.Buffers.{raised_change}
use Rattle.frame_strand.specs.declared.cells.Change.{Change}
use Rattle.frame_strand.specs.declared.cells.Change.TheVariants.{Stored, Delta}
use Rattle.strand_pages.specs.Bits.{is_set}
use Rattle.strand_pages.specs.Known.{at_place, read_after, settled_change, value_of}
use Rattle.strand_pages.specs.Pages.{Kept, changed_page, loaded_page}
use Rattle.strand_pages.specs.Paging.{change_by, kept_of, near_by, number_at, number_if, reads_by, writes_by}
use Rattle.strand_pages.specs.declared.page.Page.{Page}
use Rattle.strand_pages.proofs.Keeping.{below_is, below_tells, deltas_more, reads_more, renumbered, same_place, stores_more}

module _ (x : Page) (k : ℕ) where
  abbrev near : Option ℤ
  near = near_by x.filled x.values k

  abbrev read : Option ℤ
  read = reads_by x.read x.values k

  abbrev number : ℤ
  number = number_at x.changes k

  abbrev with_reads : (ℕ → Option ℤ) → (ℕ → Option Change) → Kept
  with_reads reads writes = record { number = x.number; near = near_by x.filled x.values; reads = reads; writes = writes }

  loaded_stored : is_set x.stored k ≡ true → kept_of x ≡ loaded_page (kept_of x) k
  loaded_stored stored = λ i. with_reads
      (same_place k (read_after (writes_by x.stored x.delta x.changes k) near read) (reads_by x.read x.values) (ap (λ t. read_after (change_by t (is_set x.delta k) number) near read) stored) i)
      (same_place k (settled_change (writes_by x.stored x.delta x.changes k) near) (writes_by x.stored x.delta x.changes)
      (ap (λ t. settled_change (change_by t (is_set x.delta k) number) near) stored ∙ sym (ap (λ t. change_by t (is_set x.delta k) number) stored)) i)

  at_hand : k < x.filled → near ≡ Some (number_at x.values k)
  at_hand here = ap (λ (t : Bool). number_if t (number_at x.values k)) (below_is k x.filled here)

  pub value_delta : is_set x.stored k ≡ false → is_set x.delta k ≡ true → k < x.filled → (z : ℤ) → z ≡ cell_sum (number_at x.values k) number →
      Some z ≡ value_of (writes_by x.stored x.delta x.changes k) near
  value_delta fresh delta here z e = ap (λ n. Some n) e ∙ sym (λ j. value_of (change_by (fresh j) (delta j) number) (at_hand here j))

  -- it is not at hand, and nothing was stored there
  pub loaded_absent : is_set x.stored k ≡ false → x.filled ≤ k → kept_of x ≡ loaded_page (kept_of x) k
  loaded_absent fresh past = elim (cases_Bool (is_set x.delta k)) [ inl d ↦ from true d | inr d ↦ from false d ]
    where
      none : near ≡ None
      none = elim (below_tells k x.filled) [
        | inl p ↦ let lt = p.1 in absurd (omega (arith, lt, past))
        | inr p ↦ ap (λ (t : Bool). number_if t (number_at x.values k)) p.0
      ]

      same_read : (t : Bool) → read_after (change_by false t number) None read ≡ read
      same_read true = refl
      same_read false = refl

      same_change : (t : Bool) → settled_change (change_by false t number) None ≡ change_by false t number
      same_change true = refl
      same_change false = refl

      from : (t : Bool) → is_set x.delta k ≡ t → kept_of x ≡ loaded_page (kept_of x) k
      from t e = λ i. with_reads
          (same_place k (read_after (writes_by x.stored x.delta x.changes k) near read) (reads_by x.read x.values)
          ((λ j. read_after (change_by (fresh j) (e j) number) (none j) read) ∙ same_read t) i)
          (same_place k (settled_change (writes_by x.stored x.delta x.changes k) near) (writes_by x.stored x.delta x.changes)
          ((λ j. settled_change (change_by (fresh j) (e j) number) (none j)) ∙ same_change t ∙ sym (λ j. change_by (fresh j) (e j) number)) i)

  module _ (fresh : is_set x.stored k ≡ false) (here : k < x.filled) (bits : ℕ) (on : is_set bits k ≡ true) (others : (j : ℕ) → j ≢ k → is_set bits j ≡ is_set x.read j) where
    there : near ≡ Some (number_at x.values k)
    there = at_hand here

    pub loaded_unwritten : is_set x.delta k ≡ false → k < length x.changes → (z : ℤ) → with_reads (reads_by bits x.values) (writes_by x.stored x.delta (set x.changes k z)) ≡ loaded_page (kept_of x) k
    loaded_unwritten plain lt z = λ i. with_reads
        ((reads_more k x.read bits on others x.values ∙ ap (λ o. at_place k o (reads_by x.read x.values)) (sym (λ j. read_after (change_by (fresh j) (plain j) number) (there j) read))) i)
        ((renumbered x.stored x.delta x.changes k z lt ∙
        ap (λ o. at_place k o (writes_by x.stored x.delta x.changes))
        ((λ j. change_by (fresh j) (plain j) z) ∙ sym (λ j. settled_change (change_by (fresh j) (plain j) number) near))) i)

    pub loaded_delta : is_set x.delta k ≡ true → k < length x.changes → (all : ℕ) → is_set all k ≡ true → ((j : ℕ) → j ≢ k → is_set all j ≡ is_set x.stored j) →
        (z : ℤ) → z ≡ cell_sum (number_at x.values k) number →
        with_reads (reads_by bits x.values) (writes_by all x.delta (set x.changes k z)) ≡ loaded_page (kept_of x) k
    loaded_delta delta lt all set_now rest z is = λ i. with_reads
        ((reads_more k x.read bits on others x.values ∙ ap (λ o. at_place k o (reads_by x.read x.values)) (sym (λ j. read_after (change_by (fresh j) (delta j) number) (there j) read))) i)
        ((stores_more k x.stored all set_now rest x.delta x.changes z lt ∙
        ap (λ o. at_place k o (writes_by x.stored x.delta x.changes))
        (ap (λ n. Some (Stored n)) is ∙ sym (λ j. settled_change (change_by (fresh j) (delta j) number) (there j)))) i)

  pub stored_here : (all : ℕ) → is_set all k ≡ true → ((j : ℕ) → j ≢ k → is_set all j ≡ is_set x.stored j) → k < length x.changes → (y z : ℤ) → y ≡ z →
      with_reads (reads_by x.read x.values) (writes_by all x.delta (set x.changes k y)) ≡ changed_page (kept_of x) k (Stored z)
  stored_here all set_now rest lt y z e = λ i. with_reads (reads_by x.read x.values)
      ((stores_more k x.stored all set_now rest x.delta x.changes y lt ∙ ap (λ n. at_place k (Some (Stored n)) (writes_by x.stored x.delta x.changes)) e) i)

  pub added_change : is_set x.stored k ≡ false → is_set x.delta k ≡ true → k < length x.changes → (n z : ℤ) → z ≡ cell_sum number n →
      with_reads (reads_by x.read x.values) (writes_by x.stored x.delta (set x.changes k z)) ≡ changed_page (kept_of x) k (raised_change n (writes_by x.stored x.delta x.changes k) read)
  added_change fresh delta lt n z e = λ i. with_reads (reads_by x.read x.values)
      ((renumbered x.stored x.delta x.changes k z lt ∙
      ap (λ o. at_place k o (writes_by x.stored x.delta x.changes))
      (ap (change_by (is_set x.stored k) (is_set x.delta k)) e ∙
      ((λ j. change_by (fresh j) (delta j) (cell_sum number n)) ∙ sym (λ j. Some (raised_change n (change_by (fresh j) (delta j) number) read))))) i)

  -- neither stored nor added to yet
  module _ (fresh : is_set x.stored k ≡ false) (plain : is_set x.delta k ≡ false) where
    raised_read : is_set x.read k ≡ true → (n : ℤ) → Stored (cell_sum (number_at x.values k) n) ≡ raised_change n (writes_by x.stored x.delta x.changes k) read
    raised_read on n = sym (λ j. raised_change n (change_by (fresh j) (plain j) number) (number_if (on j) (number_at x.values k)))

    pub added_delta : is_set x.read k ≡ false → (all : ℕ) → is_set all k ≡ true → ((j : ℕ) → j ≢ k → is_set all j ≡ is_set x.delta j) → k < length x.changes → (n z : ℤ) → z ≡ n →
        with_reads (reads_by x.read x.values) (writes_by x.stored all (set x.changes k z)) ≡ changed_page (kept_of x) k (raised_change n (writes_by x.stored x.delta x.changes k) read)
    added_delta unread all set_now rest lt n z e = λ i. with_reads (reads_by x.read x.values)
        ((deltas_more k x.delta all set_now rest x.stored x.changes z fresh lt ∙
        ap (λ u. at_place k (Some u) (writes_by x.stored x.delta x.changes))
        (ap (λ m. Delta m) e ∙ sym (λ j. raised_change n (change_by (fresh j) (plain j) number) (number_if (unread j) (number_at x.values k))))) i)

  -- loaded and not stored since: its value stands among the changes too
  module _ (fresh : is_set x.stored k ≡ false) (on : is_set x.read k ≡ true) where
    known : near ≡ Some (number_at x.values k)
    known = at_hand (x.read_near k on)

    loaded_read : kept_of x ≡ loaded_page (kept_of x) k
    loaded_read =
        let plain = x.settled k on fresh in
        λ i. with_reads
        (same_place k (read_after (writes_by x.stored x.delta x.changes k) near read) (reads_by x.read x.values)
        ((λ j. read_after (change_by (fresh j) (plain j) number) (known j) read) ∙ sym (λ j. number_if (on j) (number_at x.values k))) i)
        (same_place k (settled_change (writes_by x.stored x.delta x.changes k) near) (writes_by x.stored x.delta x.changes)
        ((λ j. settled_change (change_by (fresh j) (plain j) number) near) ∙ sym (λ j. change_by (fresh j) (plain j) number)) i)

    value_read : Some number ≡ value_of (writes_by x.stored x.delta x.changes k) near
    value_read =
        let plain = x.settled k on fresh in
        ap (λ n. Some n) (x.copied k on fresh) ∙ sym (λ j. value_of (change_by (fresh j) (plain j) number) (known j))

  module _ (held : (is_set x.read k || is_set x.stored k) ≡ true) where
    stored_or_read : (is_set x.stored k ≡ true) ⊎ ((is_set x.stored k ≡ false) × (is_set x.read k ≡ true))
    stored_or_read = elim (cases_Bool (is_set x.stored k)) [
      | inl s ↦ inl s
      | inr f ↦ elim (or_cases (is_set x.read k) (is_set x.stored k) held) [ inl on ↦ inr (f, on) | inr s ↦ absurd cc ]
    ]

    pub loaded_held : kept_of x ≡ loaded_page (kept_of x) k
    loaded_held = elim stored_or_read [ inl s ↦ loaded_stored s | inr r ↦ loaded_read r.0 r.1 ]

    pub value_held : Some number ≡ value_of (writes_by x.stored x.delta x.changes k) near
    value_held = elim stored_or_read [ inl s ↦ sym (ap (λ t. value_of (change_by t (is_set x.delta k) number) near) s) | inr r ↦ value_read r.0 r.1 ]

    pub raised_held : (n : ℤ) → Stored (cell_sum number n) ≡ raised_change n (writes_by x.stored x.delta x.changes k) read
    raised_held n = elim stored_or_read [
      | inl s ↦ sym (ap (λ t. raised_change n (change_by t (is_set x.delta k) number) read) s)
      | inr r ↦ ap (λ m. Stored (cell_sum m n)) (x.copied k r.1 r.0) ∙ raised_read r.0 (x.settled k r.1 r.0) r.1 n
    ]
