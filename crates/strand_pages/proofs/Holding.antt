-- What a cell may hold after an access.
use Rattle.std.proofs.Common.{◌≡◌, ◌≢◌, ◌+ℤ◌, ℕ, ℤ, refl, sym, ap, ◌∙◌, arith, Bool, true, false, cond, Option, Some, None, Result, Ok, Err, inl, inr, w64}
use Rattle.std.specs.Prelude.{OnOk, OnErr}
use Rattle.std.specs.Int.{int_wrap}
use Rattle.std.proofs.lemmas.Int.{ints, int_wrap-add_left, int_wrap-add_right}
use Rattle.std.proofs.lemmas.Option.{same_Some}
use Rattle.semantics.specs.Arithmetic.{cell_sum}
use Rattle.frame_strand.specs.Buffers.{raised_change}
use Rattle.frame_strand.specs.declared.cells.Change.{Change}
use Rattle.frame_strand.specs.declared.cells.Change.TheVariants.{Stored, Delta}
use Rattle.frame_strand.specs.declared.cells.CellStop.{CellStop}
use Rattle.strand_pages.specs.Bits.{is_set}
use Rattle.strand_pages.specs.Doing.{IsChanged, IsKept, IsLoaded, may_hold}
use Rattle.strand_pages.specs.Known.{settled_change, value_of}
use Rattle.strand_pages.specs.Logs.{Log, changed_log, loaded_log, place_of, value_at}
use Rattle.strand_pages.specs.Pages.{Kept}
use Rattle.strand_pages.specs.Paging.{kept_of, near_by, number_at, number_if}
use Rattle.strand_pages.specs.Tables.{PageTable, Table, entry_of, log_of, page_in, pages_log, told_by}
use Rattle.strand_pages.specs.declared.page.Page.{Page}
use Rattle.strand_pages.proofs.Addresses.{address_tells}
use Rattle.strand_pages.proofs.Keeping.{below_is}

-- ---- what was read is at hand

read_page : (p : Page) (k : ℕ) (v : ℤ) → (kept_of p).reads k ≡ Some v → (kept_of p).near k ≡ Some v
read_page p k v e = from (is_set p.read k) refl e
  where
    from : (b : Bool) → is_set p.read k ≡ b → number_if b (number_at p.values k) ≡ Some v → near_by p.filled p.values k ≡ Some v
    from true on h = ap (λ (t : Bool). number_if t (number_at p.values k)) (below_is k p.filled (p.read_near k on)) ∙ h
    from false on h = absurd cc

table_sound : (t : PageTable) (a v : ℤ) → (pages_log t).reads a ≡ Some v → (pages_log t).near a ≡ Some v
table_sound t a v e = from (page_in t.pages (entry_of t.directory a)) e
  where
    from : (o : Option Page) → told_by (λ (x : Kept). x.reads) o (place_of a) ≡ Some v → told_by (λ (x : Kept). x.near) o (place_of a) ≡ Some v
    from None h = absurd cc
    from (Some p) h = read_page p (place_of a) v h

-- ---- loads

settled_value : (u : Option Change) (near : Option ℤ) → value_of (settled_change u near) near ≡ value_of u near
settled_value None near = refl
settled_value (Some (Stored z)) near = refl
settled_value (Some (Delta z)) None = refl
settled_value (Some (Delta z)) (Some v) = refl

pub loaded_value : (x : Log) (a b : ℤ) → value_at (loaded_log x a) b ≡ value_at x b
loaded_value x a b = elim (address_tells b a) [
  | inl h ↦
      ap (λ (t : Bool). value_of (cond t (settled_change (x.writes a) (x.near a)) (x.writes b)) (x.near b)) h.0 ∙
      ap (λ (c : ℤ). value_of (settled_change (x.writes a) (x.near a)) (x.near c)) h.1 ∙ settled_value (x.writes a) (x.near a) ∙ ap (value_at x) (sym h.1)
  | inr h ↦ ap (λ (t : Bool). value_of (cond t (settled_change (x.writes a) (x.near a)) (x.writes b)) (x.near b)) h.0
]

-- ---- changes

changed_here : (x : Log) (a : ℤ) (u : Change) → value_at (changed_log x a u) a ≡ value_of (Some u) (x.near a)
changed_here x a u = elim (address_tells a a) [
  | inl h ↦ ap (λ (t : Bool). value_of (cond t (Some u) (x.writes a)) (x.near a)) h.0
  | inr h ↦ absurd (h.1 refl)
]

changed_there : (x : Log) (a : ℤ) (u : Change) (b : ℤ) → b ≢ a → value_at (changed_log x a u) b ≡ value_at x b
changed_there x a u b off = elim (address_tells b a) [
  | inl h ↦ absurd (off h.1)
  | inr h ↦ ap (λ (t : Bool). value_of (cond t (Some u) (x.writes b)) (x.near b)) h.0
]

joined : (n y z : ℤ) → (n +ℤ y) +ℤ z ≡ n +ℤ (y +ℤ z)
joined n y z = omega (arith, ints)

pub sums_join : (n y z : ℤ) → cell_sum (cell_sum n y) z ≡ cell_sum n (cell_sum y z)
sums_join n y z = int_wrap-add_left w64 (n +ℤ y) z ∙ (ap (λ x. int_wrap w64 x) (joined n y z) ∙ sym (int_wrap-add_right w64 n (y +ℤ z)))

summed : (n : ℤ) (u : Option Change) (near read : Option ℤ) → ((v : ℤ) → read ≡ Some v → near ≡ Some v) → (z : ℤ) → ((v : ℤ) → value_of u near ≡ Some v → v ≡ z) →
    (v : ℤ) → value_of (Some (raised_change n u read)) near ≡ Some v → v ≡ cell_sum z n
summed n (Some (Stored y)) near read sound z old v h = same_Some v (cell_sum y n) (sym h) ∙ ap (λ k. cell_sum k n) (old y refl)
summed n (Some (Delta y)) None read sound z old v h = absurd cc
summed n (Some (Delta y)) (Some w) read sound z old v h = same_Some v (cell_sum w (cell_sum y n)) (sym h) ∙ sym (sums_join w y n) ∙ ap (λ k. cell_sum k n) (old (cell_sum w y) refl)
summed n None near (Some y) sound z old v h = same_Some v (cell_sum y n) (sym h) ∙ ap (λ k. cell_sum k n) (old y (sound y refl))
summed n None None None sound z old v h = absurd cc
summed n None (Some w) None sound z old v h = same_Some v (cell_sum w n) (sym h) ∙ ap (λ k. cell_sum k n) (old w refl)

-- ---- as the engine's cells

module _ (x y : Table) where
  pub loads_keep : (r : Result ℤ CellStop) (a : ℤ) → OnOk r (IsLoaded (log_of x) a (log_of y)) → OnErr r (y ≡ x) → (b z : ℤ) → may_hold (log_of x) b z → may_hold (log_of y) b z
  loads_keep (Ok n) a done same b z old v h = old v (sym (loaded_value (log_of x) a b) ∙ ap (λ (l : Log). value_at l b) (sym done.is) ∙ h)
  loads_keep (Err s) a done same b z old v h = old v (ap (λ (t : Table). value_at (log_of t) b) (sym same) ∙ h)

  pub stored_here : (r : Result (Unit {0}) CellStop) (a z : ℤ) → OnOk r (IsChanged (log_of x) a (Stored z) (log_of y)) → OnOk r (may_hold (log_of y) a z)
  stored_here (Ok u) a z done = λ v h. same_Some v z (sym h ∙ ap (λ (l : Log). value_at l a) done.is ∙ changed_here (log_of x) a (Stored z))
  stored_here (Err s) a z done = tt

  pub others_stay : (r : Result (Unit {0}) CellStop) (a : ℤ) (u : Change) → OnOk r (IsChanged (log_of x) a u (log_of y)) → OnErr r (y ≡ x) → (b z : ℤ) → may_hold (log_of x) b z → b ≢ a → may_hold (log_of y) b z
  others_stay (Ok i) a u done same b z old off v h = old v (sym (changed_there (log_of x) a u b off) ∙ ap (λ (l : Log). value_at l b) (sym done.is) ∙ h)
  others_stay (Err s) a u done same b z old off v h = old v (ap (λ (t : Table). value_at (log_of t) b) (sym same) ∙ h)

  -- what is kept of a cell changed, whatever became of its page
  module _ (a : ℤ) (u : Change) (kept : IsKept (log_of x) a u (log_of y)) where
    value_kept : (b : ℤ) → value_at (log_of y) b ≡ value_at (changed_log (log_of x) a u) b
    value_kept b = λ i. value_of (kept.writes i b) (kept.near i b)

    kept_here : value_at (log_of y) a ≡ value_of (Some u) ((log_of x).near a)
    kept_here = value_kept a ∙ changed_here (log_of x) a u

    kept_there : (b z : ℤ) → may_hold (log_of x) b z → b ≢ a → may_hold (log_of y) b z
    kept_there b z old off v h = old v (sym (changed_there (log_of x) a u b off) ∙ sym (value_kept b) ∙ h)

  pub others_kept : (r : Result (Unit {0}) CellStop) (a : ℤ) (u : Change) → OnOk r (IsKept (log_of x) a u (log_of y)) → OnErr r (y ≡ x) → (b z : ℤ) → may_hold (log_of x) b z → b ≢ a → may_hold (log_of y) b z
  others_kept (Ok i) a u kept same b z old off v h = kept_there a u kept b z old off v h
  others_kept (Err s) a u kept same b z old off v h = old v (ap (λ (t : Table). value_at (log_of t) b) (sym same) ∙ h)

  pub added_here : (r : Result (Unit {0}) CellStop) (a n : ℤ) → OnOk r (IsKept (log_of x) a (raised_change n ((log_of x).writes a) ((log_of x).reads a)) (log_of y)) →
      OnOk r ((z : ℤ) → may_hold (log_of x) a z → may_hold (log_of y) a (cell_sum z n))
  added_here (Ok i) a n kept = λ z old v h. summed n ((log_of x).writes a) ((log_of x).near a) ((log_of x).reads a) (table_sound x.pages a) z old v
      (sym (kept_here a (raised_change n ((log_of x).writes a) ((log_of x).reads a)) kept) ∙ h)
  added_here (Err s) a n kept = tt
