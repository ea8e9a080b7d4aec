-- A table after one of its pages changed, after a page was put into use, and without pages in use.
use Rattle.std.proofs.Common.{◌≡◌, ◌≢◌, ◌<◌, ◌≤◌, ◌/◌, ◌⊎◌, ◌&&◌, ◌||◌, ℕ, zero, suc, ℤ, pos, negsuc, refl, sym, ap, ◌∙◌, arith, Bool, true, false, cond, nat_lt, List, length, set, Option, Some, None, inl, inr}
use Rattle.std.specs.Prelude.{slice_get, slice_index}
use Rattle.std.proofs.lemmas.Bool.Decides.{eqb_tells}
use Rattle.std.proofs.lemmas.List.{get_or-set_same, get_or-set_other, get_or_past, length-set}
use Rattle.std.proofs.lemmas.Option.{same_Some, slice_get_within}
use Rattle.frame_strand.specs.Buffers.{raised_change}
use Rattle.frame_strand.specs.declared.cells.Change.{Change}
use Rattle.strand_pages.specs.Known.{at_address, at_place, first_of, read_after, settled_change, value_of}
use Rattle.strand_pages.specs.Logs.{Log, empty_log, has_place, loaded_log, place_of, same_page, value_at, with_change, with_page, with_values}
use Rattle.strand_pages.specs.Pages.{Kept, blank_page, changed_page, filled_page, loaded_page}
use Rattle.strand_pages.specs.Paging.{kept_of}
use Rattle.strand_pages.specs.Tables.{IsTable, PageTable, entry_of, pages_log, page_in, told, told_by}
use Rattle.strand_pages.specs.declared.page.Page.{Page}
use Rattle.strand_pages.proofs.Addresses.{address_tells, get_set_other, get_set_same, same_number}
use Rattle.strand_pages.proofs.Keeping.{below_is, below_tells}

-- ---- what a table tells

pub told_at : {X : Type 0} (f : Kept → ℕ → Option X) (t : PageTable) (a : ℤ) (s : ℕ) (p : Page) → entry_of t.directory a ≡ suc s → slice_get t.pages s ≡ Some p → told f t a ≡ f (kept_of p) (place_of a)
told_at f t a s p at is = ap (λ (n : ℕ). told_by f (page_in t.pages n) (place_of a)) at ∙ ap (λ (o : Option Page). told_by f o (place_of a)) is

pub untold : {X : Type 0} (f : Kept → ℕ → Option X) (t : PageTable) (a : ℤ) → entry_of t.directory a ≡ 0 → told f t a ≡ None
untold f t a none = ap (λ (n : ℕ). told_by f (page_in t.pages n) (place_of a)) none

abbrev near_told : PageTable → ℤ → Option ℤ
near_told t = told (λ (x : Kept). x.near) t

pub value_absent : (t : PageTable) (a : ℤ) → entry_of t.directory a ≡ 0 → value_at (pages_log t) a ≡ None
value_absent t a none = λ i. value_of (untold (λ p. p.writes) t a none i) (untold (λ p. p.near) t a none i)

pub place_there : (t : PageTable) (a : ℤ) (s : ℕ) → entry_of t.directory a ≡ suc s → has_place (pages_log t) a ≡ true
place_there t (negsuc n) s at = absurd cc
place_there t (pos n) s at =
    let within : n / 64 < length t.directory = elim (below_tells (n / 64) (length t.directory)) [
      | inl p ↦ p.1
      | inr p ↦ absurd (let past = get_or_past t.directory (n / 64) 0 p.1 in omega (arith, past, at))
    ] in
    (λ i. below_is (n / 64) (length t.directory) within i && (nat_lt 0 (at i) || nat_lt t.used 512)) ∙ ap (λ (b : Bool). true && (b || nat_lt t.used 512)) (below_is 0 (suc s) (omega arith))

pub slot_used : (t : PageTable) → IsTable t → (a : ℤ) (s : ℕ) → entry_of t.directory a ≡ suc s → s < t.used
slot_used t ok (pos n) s at = ok.slots (n / 64) s at
slot_used t ok (negsuc n) s at = absurd cc

pub slot_within : (t : PageTable) → IsTable t → (a : ℤ) (s : ℕ) → entry_of t.directory a ≡ suc s → s < length t.pages
slot_within t ok a s at = let lt = slot_used t ok a s at in let made = ok.made in omega (arith, lt, made)

-- two cells with one slot and one place are one
same_cell : (t : PageTable) → IsTable t → (a b : ℤ) (s : ℕ) (p : Page) → slice_get t.pages s ≡ Some p → entry_of t.directory a ≡ suc s → entry_of t.directory b ≡ suc s → place_of b ≡ place_of a → b ≡ a
same_cell t ok (pos m) (pos n) s p is at also e = ap (λ (k : ℕ). pos k) (same_number m n (sym (ok.numbered (m / 64) s p at is) ∙ ok.numbered (n / 64) s p also is) e)
same_cell t ok (pos m) (negsuc n) s p is at also e = absurd cc
same_cell t ok (negsuc m) b s p is at also e = absurd cc

same_page_tells : (t : PageTable) → IsTable t → (a b : ℤ) (s : ℕ) (p : Page) → slice_get t.pages s ≡ Some p → entry_of t.directory a ≡ suc s →
    ((same_page a b ≡ true) × (entry_of t.directory b ≡ suc s)) ⊎ ((same_page a b ≡ false) × (entry_of t.directory b ≢ suc s))
same_page_tells t ok (pos m) (pos n) s p is at = elim (eqb_tells (n / 64) (m / 64)) [
  | inl q ↦ inl (q.0, ap (λ (k : ℕ). slice_index t.directory k) q.1 ∙ at)
  | inr q ↦ inr (q.0, λ also. q.1 (sym (ok.numbered (n / 64) s p also is) ∙ ok.numbered (m / 64) s p at is))
]
same_page_tells t ok (pos m) (negsuc n) s p is at = inr (refl, λ e. absurd cc)
same_page_tells t ok (negsuc m) b s p is at = absurd cc

pub index_within : (xs : List ℕ) (n s : ℕ) → slice_index xs n ≡ suc s → n < length xs
index_within xs n s e = elim (below_tells n (length xs)) [
  | inl q ↦ q.1
  | inr q ↦ absurd (let past = get_or_past xs n 0 q.1 in omega (arith, past, e))
]

-- ---- a page changes

module _ (t : PageTable) (ok : IsTable t) (s : ℕ) (p q : Page) (is : slice_get t.pages s ≡ Some p) where
  abbrev pub repaged : PageTable
  repaged = record t { pages = set t.pages s q }

  within : s < length t.pages
  within = slice_get_within t.pages s p is

  now : slice_get (set t.pages s q) s ≡ Some q
  now = get_set_same t.pages s q within

  before : q.number ≡ p.number → (j : ℕ) (r : Page) → slice_get (set t.pages s q) j ≡ Some r → (o : Page) × (slice_get t.pages j ≡ Some o) × (r.number ≡ o.number)
  before number j r h = elim (eqb_tells j s) [
    | inl e ↦ (p, ap (slice_get t.pages) e.1 ∙ is, ap (λ (x : Page). x.number) (same_Some r q (sym h ∙ ap (slice_get (set t.pages s q)) e.1 ∙ now)) ∙ number)
    | inr e ↦ (r, sym (get_set_other t.pages s j q e.1) ∙ h, refl)
  ]

  kept : q.number ≡ p.number → IsTable repaged
  kept number = record {
    made = let long = length-set t.pages s q in let made = ok.made in omega (arith, long, made);
    few = ok.few;
    numbers = ok.numbers;
    slots = ok.slots;
    numbered = λ n j r e h. let (o, there, same) = before number j r h in same ∙ ok.numbered n j o e there;
    listed = λ j r lt h. let (o, there, same) = before number j r h in ap (λ (k : ℕ). slice_index t.directory k) same ∙ ok.listed j o lt there;
  }

  -- by what the page tells at this place
  told_from : {X : Type 0} (f : Kept → ℕ → Option X) (b : ℤ) (same : (n : ℕ) → entry_of t.directory b ≡ suc s → f (kept_of q) (place_of b) ≡ f (kept_of p) (place_of b)) → told f repaged b ≡ told f t b
  told_from {X} f b same = from (entry_of t.directory b) refl
    where
      from : (n : ℕ) → entry_of t.directory b ≡ n → told_by f (page_in (set t.pages s q) n) (place_of b) ≡ told_by f (page_in t.pages n) (place_of b)
      from zero e = refl
      from (suc j) e = elim (eqb_tells j s) [
        | inl h ↦
            ap (λ (k : ℕ). told_by f (slice_get (set t.pages s q) k) (place_of b)) h.1 ∙ ap (λ (o : Option Page). told_by f o (place_of b)) now ∙ same 0 (e ∙ ap suc h.1) ∙
            sym (ap (λ (k : ℕ). told_by f (slice_get t.pages k) (place_of b)) h.1 ∙ ap (λ (o : Option Page). told_by f o (place_of b)) is)
        | inr h ↦ ap (λ (o : Option Page). told_by f o (place_of b)) (get_set_other t.pages s j q h.1)
      ]

  told_kept : {X : Type 0} (f : Kept → ℕ → Option X) → f (kept_of q) ≡ f (kept_of p) → told f repaged ≡ told f t
  told_kept f e = λ i b. told_from f b (λ n at. ap (λ g. g (place_of b)) e) i

  module _ (a : ℤ) (at : entry_of t.directory a ≡ suc s) where
    told_changed : {X : Type 0} (f : Kept → ℕ → Option X) (new : Option X) → f (kept_of q) ≡ at_place (place_of a) new (f (kept_of p)) → told f repaged ≡ at_address a new (told f t)
    told_changed {X} f new e = λ i b. cell b i
      where
        here : told f repaged a ≡ new
        here = told_at f repaged a s q at now ∙ ap (λ g. g (place_of a)) e ∙ elim (eqb_tells (place_of a) (place_of a)) [
          | inl h ↦ ap (λ (x : Bool). cond x new (f (kept_of p) (place_of a))) h.0
          | inr h ↦ absurd (h.1 refl)
        ]

        other : (b : ℤ) → b ≢ a → entry_of t.directory b ≡ suc s → f (kept_of q) (place_of b) ≡ f (kept_of p) (place_of b)
        other b off also = ap (λ g. g (place_of b)) e ∙ elim (eqb_tells (place_of b) (place_of a)) [
          | inl h ↦ absurd (off (same_cell t ok a b s p is at also h.1))
          | inr h ↦ ap (λ (x : Bool). cond x new (f (kept_of p) (place_of b))) h.0
        ]

        cell : (b : ℤ) → told f repaged b ≡ at_address a new (told f t) b
        cell b = elim (address_tells b a) [
          | inl h ↦ ap (told f repaged) h.1 ∙ here ∙ sym (ap (λ (x : Bool). cond x new (told f t b)) h.0)
          | inr h ↦ told_from f b (λ n also. other b h.1 also) ∙ sym (ap (λ (x : Bool). cond x new (told f t b)) h.0)
        ]

    abbrev k : ℕ
    k = place_of a

    writes_at : told (λ (x : Kept). x.writes) t a ≡ (kept_of p).writes k
    writes_at = told_at (λ (x : Kept). x.writes) t a s p at is

    near_at : told (λ (x : Kept). x.near) t a ≡ (kept_of p).near k
    near_at = told_at (λ (x : Kept). x.near) t a s p at is

    reads_at : told (λ (x : Kept). x.reads) t a ≡ (kept_of p).reads k
    reads_at = told_at (λ (x : Kept). x.reads) t a s p at is

    pub value_here : value_of ((kept_of p).writes k) ((kept_of p).near k) ≡ value_at (pages_log t) a
    value_here = sym (λ i. value_of (writes_at i) (near_at i))

    pub raised_here : (n : ℤ) → raised_change n ((kept_of p).writes k) ((kept_of p).reads k) ≡ raised_change n ((pages_log t).writes a) ((pages_log t).reads a)
    raised_here n = sym (λ i. raised_change n (writes_at i) (reads_at i))

    abbrev log_with : (ℤ → Option ℤ) → (ℤ → Option ℤ) → (ℤ → Option Change) → Log
    log_with near reads writes = record (pages_log t) { near = near; reads = reads; writes = writes }

    pub loaded_table : kept_of q ≡ loaded_page (kept_of p) k → IsTable repaged × (pages_log repaged ≡ loaded_log (pages_log t) a)
    loaded_table e = (
      kept (ap (λ (x : Kept). x.number) e),
      λ i. log_with
          (told_kept (λ (x : Kept). x.near) (ap (λ (x : Kept). x.near) e) i)
          ((told_changed (λ (x : Kept). x.reads) (read_after ((kept_of p).writes k) ((kept_of p).near k) ((kept_of p).reads k)) (ap (λ (x : Kept). x.reads) e) ∙
          ap (λ o. at_address a o (told (λ (x : Kept). x.reads) t)) (sym (λ j. read_after (writes_at j) (near_at j) (reads_at j)))) i)
          ((told_changed (λ (x : Kept). x.writes) (settled_change ((kept_of p).writes k) ((kept_of p).near k)) (ap (λ (x : Kept). x.writes) e) ∙
          ap (λ o. at_address a o (told (λ (x : Kept). x.writes) t)) (sym (λ j. settled_change (writes_at j) (near_at j)))) i),
    )

    pub changed_table : (u : Change) → kept_of q ≡ changed_page (kept_of p) k u → IsTable repaged × (pages_log repaged ≡ with_change (pages_log t) a u)
    changed_table u e = (
      kept (ap (λ (x : Kept). x.number) e),
      λ i. log_with
          (told_kept (λ (x : Kept). x.near) (ap (λ (x : Kept). x.near) e) i)
          (told_kept (λ (x : Kept). x.reads) (ap (λ (x : Kept). x.reads) e) i)
          (told_changed (λ (x : Kept). x.writes) (Some u) (ap (λ (x : Kept). x.writes) e) i),
    )

    pub filled_table : (values : List ℤ) → kept_of q ≡ filled_page (kept_of p) values → IsTable repaged × (pages_log repaged ≡ with_values (pages_log t) a values)
    filled_table values e = (
      kept (ap (λ (x : Kept). x.number) e),
      λ i. log_with
          (λ b. cell b i)
          (told_kept (λ (x : Kept). x.reads) (ap (λ (x : Kept). x.reads) e) i)
          (told_kept (λ (x : Kept). x.writes) (ap (λ (x : Kept). x.writes) e) i),
    )
      where
        cell : (b : ℤ) → told (λ (x : Kept). x.near) repaged b ≡ cond (same_page a b) (first_of (near_told t b) (slice_get values (place_of b))) (near_told t b)
        cell b = elim (same_page_tells t ok a b s p is at) [
          | inl h ↦
              told_at (λ (x : Kept). x.near) repaged b s q h.1 now ∙ ap (λ (x : Kept). x.near (place_of b)) e ∙
              ap (λ (o : Option ℤ). first_of o (slice_get values (place_of b))) (sym (told_at (λ (x : Kept). x.near) t b s p h.1 is)) ∙
              sym (ap (λ (x : Bool). cond x (first_of (near_told t b) (slice_get values (place_of b))) (near_told t b)) h.0)
          | inr h ↦
              told_from (λ (x : Kept). x.near) b (λ n also. absurd (h.1 also)) ∙ sym (ap (λ (x : Bool). cond x (first_of (near_told t b) (slice_get values (place_of b))) (near_told t b)) h.0)
        ]

-- ---- a page is put into use

module _ (t : PageTable) (ok : IsTable t) (n : ℕ) (room : t.used < 512) (inside : n / 64 < length t.directory) (free : slice_index t.directory (n / 64) ≡ 0)
    (pages : List Page) (q : Page) (page_now : slice_get pages t.used ≡ Some q) (earlier : (j : ℕ) → j < t.used → slice_get pages j ≡ slice_get t.pages j) (blank : kept_of q ≡ blank_page (n / 64))
    (v u : ℕ) (entry : v ≡ suc t.used) (one_more : u ≡ suc t.used)
  where
    abbrev pub opened : PageTable
    opened = record { directory = set t.directory (n / 64) v; pages = pages; used = u }

    entry_now : slice_index (set t.directory (n / 64) v) (n / 64) ≡ suc t.used
    entry_now = get_or-set_same t.directory (n / 64) v 0 inside ∙ entry

    entry_else : (m : ℕ) → m ≢ n / 64 → slice_index (set t.directory (n / 64) v) m ≡ slice_index t.directory m
    entry_else m off = get_or-set_other t.directory (n / 64) m v 0 off

    number : q.number ≡ n / 64
    number = ap (λ (x : Kept). x.number) blank

    last : (j : ℕ) → suc t.used ≡ suc j → j ≡ t.used
    last j e = omega (arith, e)

    slots : (m j : ℕ) → slice_index (set t.directory (n / 64) v) m ≡ suc j → ((m ≡ n / 64) × (j ≡ t.used)) ⊎ ((m ≢ n / 64) × (slice_index t.directory m ≡ suc j) × (j < t.used))
    slots m j e = elim (eqb_tells m (n / 64)) [
      | inl h ↦ inl (h.1, last j (sym entry_now ∙ ap (λ (k : ℕ). slice_index (set t.directory (n / 64) v) k) (sym h.1) ∙ e))
      | inr h ↦ let old : slice_index t.directory m ≡ suc j = sym (entry_else m h.1) ∙ e in inr (h.1, old, ok.slots m j old)
    ]

    is_q : (j : ℕ) (r : Page) → j ≡ t.used → slice_get pages j ≡ Some r → r ≡ q
    is_q j r e h = same_Some r q (sym h ∙ ap (slice_get pages) e ∙ page_now)

    pub opened_table : IsTable opened
    opened_table = record {
      made = let lt = slice_get_within pages t.used q page_now in omega (arith, lt, one_more);
      few = omega (arith, room, one_more);
      numbers = let long = length-set t.directory (n / 64) v in let few = ok.numbers in omega (arith, long, few);
      slots = λ m j e. elim (slots m j e) [
        | inl h ↦ let same = h.1 in omega (arith, same, one_more)
        | inr h ↦ let lt = h.2 in omega (arith, lt, one_more)
      ];
      numbered = λ m j r e h. elim (slots m j e) [
        | inl w ↦ ap (λ (x : Page). x.number) (is_q j r w.1 h) ∙ number ∙ sym w.0
        | inr w ↦ ok.numbered m j r w.1 (sym (earlier j w.2) ∙ h)
      ];
      listed = λ j r lt h. elim (eqb_tells j t.used) [
        | inl w ↦ ap (λ (k : ℕ). slice_index (set t.directory (n / 64) v) k) (ap (λ (x : Page). x.number) (is_q j r w.1 h) ∙ number) ∙ entry_now ∙ ap suc (sym w.1)
        | inr w ↦
            let off = w.1 in
            let less : j < t.used = elim (below_tells j t.used) [ inl x ↦ x.1 | inr x ↦ absurd (let ge = x.1 in off (omega (arith, ge, lt, one_more))) ] in
            let old = ok.listed j r less (sym (earlier j less) ∙ h) in
            entry_else r.number (λ same. let zero_now : slice_index t.directory r.number ≡ 0 = ap (λ (k : ℕ). slice_index t.directory k) same ∙ free in omega (arith, zero_now, old)) ∙ old
      ];
    }

    pub opened_entry : entry_of opened.directory (pos n) ≡ suc t.used
    opened_entry = entry_now

    told_still : {X : Type 0} (f : Kept → ℕ → Option X) → ((k : ℕ) → f (kept_of q) k ≡ None) → told f opened ≡ told f t
    told_still {X} f none = λ i b. cell b i
      where
        old_page : (e : ℕ) (k : ℕ) (m : ℕ) → slice_index t.directory m ≡ e → told_by f (page_in pages e) k ≡ told_by f (page_in t.pages e) k
        old_page zero k m e = refl
        old_page (suc j) k m e = ap (λ (o : Option Page). told_by f o k) (earlier j (ok.slots m j e))

        cell : (b : ℤ) → told f opened b ≡ told f t b
        cell (negsuc m) = refl
        cell (pos m) = elim (eqb_tells (m / 64) (n / 64)) [
          | inl h ↦
              ap (λ (e : ℕ). told_by f (page_in pages e) (place_of (pos m))) (ap (λ (x : ℕ). slice_index (set t.directory (n / 64) v) x) h.1 ∙ entry_now) ∙
              ap (λ (o : Option Page). told_by f o (place_of (pos m))) page_now ∙ none (place_of (pos m)) ∙
              sym (untold f t (pos m) (ap (λ (x : ℕ). slice_index t.directory x) h.1 ∙ free))
          | inr h ↦
              ap (λ (e : ℕ). told_by f (page_in pages e) (place_of (pos m))) (entry_else (m / 64) h.1) ∙
              old_page (slice_index t.directory (m / 64)) (place_of (pos m)) (m / 64) refl
        ]

    has_page_now : (m : ℕ) → nat_lt 0 (slice_index (set t.directory (n / 64) v) m) ≡ at_place (n / 64) true (λ j. nat_lt 0 (slice_index t.directory j)) m
    has_page_now m = elim (eqb_tells m (n / 64)) [
      | inl h ↦
          ap (λ (x : ℕ). nat_lt 0 x) (ap (λ (x : ℕ). slice_index (set t.directory (n / 64) v) x) h.1 ∙ entry_now) ∙ below_is 0 (suc t.used) (omega arith) ∙
          sym (ap (λ (x : Bool). cond x true (nat_lt 0 (slice_index t.directory m))) h.0)
      | inr h ↦ ap (λ (x : ℕ). nat_lt 0 x) (entry_else m h.1) ∙ sym (ap (λ (x : Bool). cond x true (nat_lt 0 (slice_index t.directory m))) h.0)
    ]

    pub opened_log : pages_log opened ≡ with_page (pages_log t) (pos n)
    opened_log = λ i. record {
      pages = length-set t.directory (n / 64) v i;
      used = (one_more ∙ sym (ap (λ (x : ℕ). cond (nat_lt 0 x) t.used (suc t.used)) free)) i;
      has_page = λ m. has_page_now m i;
      near = told_still (λ (x : Kept). x.near) (λ k. ap (λ (x : Kept). x.near k) blank) i;
      reads = told_still (λ (x : Kept). x.reads) (λ k. ap (λ (x : Kept). x.reads k) blank) i;
      writes = told_still (λ (x : Kept). x.writes) (λ k. ap (λ (x : Kept). x.writes k) blank) i;
    }

-- the page is in use already
pub opened_before : (t : PageTable) (a : ℤ) (s : ℕ) → entry_of t.directory a ≡ suc s → pages_log t ≡ with_page (pages_log t) a
opened_before t (negsuc n) s at = absurd cc
opened_before t (pos n) s at =
    let on : nat_lt 0 (slice_index t.directory (n / 64)) ≡ true = ap (λ (x : ℕ). nat_lt 0 x) at ∙ below_is 0 (suc s) (omega arith) in
    λ i. record (pages_log t) {
      used = sym (ap (λ (x : Bool). cond x t.used (suc t.used)) on) i;
      has_page = λ m. has_same on m i;
    }
  where
    has_same : nat_lt 0 (slice_index t.directory (n / 64)) ≡ true → (m : ℕ) → nat_lt 0 (slice_index t.directory m) ≡ at_place (n / 64) true (λ j. nat_lt 0 (slice_index t.directory j)) m
    has_same on m = elim (eqb_tells m (n / 64)) [
      | inl h ↦ ap (λ (k : ℕ). nat_lt 0 (slice_index t.directory k)) h.1 ∙ on ∙ sym (ap (λ (x : Bool). cond x true (nat_lt 0 (slice_index t.directory m))) h.0)
      | inr h ↦ sym (ap (λ (x : Bool). cond x true (nat_lt 0 (slice_index t.directory m))) h.0)
    ]

-- ---- no page is in use

pub zero_everywhere : (xs : List ℕ) → ((k : ℕ) → k < length xs → slice_index xs k ≡ 0) → (k : ℕ) → slice_index xs k ≡ 0
zero_everywhere xs all k = elim (below_tells k (length xs)) [ inl q ↦ all k q.1 | inr q ↦ get_or_past xs k 0 q.1 ]

module _ (directory : List ℕ) (pages : List Page) (none : (n : ℕ) → slice_index directory n ≡ 0) where
  abbrev pub unused : PageTable
  unused = record { directory = directory; pages = pages; used = 0 }

  pub unused_table : length directory ≤ 144115188075855872 → IsTable unused
  unused_table numbers = record {
    made = omega arith;
    few = omega arith;
    numbers = numbers;
    slots = λ n s e. absurd (let zero_there = none n in omega (arith, zero_there, e));
    numbered = λ n s p e h. absurd (let zero_there = none n in omega (arith, zero_there, e));
    listed = λ s p lt h. absurd (omega (arith, lt));
  }

  none_for : (a : ℤ) → entry_of directory a ≡ 0
  none_for (pos n) = none (n / 64)
  none_for (negsuc n) = refl

  pub unused_log : (count : ℕ) → length directory ≡ count → pages_log unused ≡ empty_log count
  unused_log count long = λ i. record {
    pages = long i;
    used = 0;
    has_page = λ n. nat_lt 0 (none n i);
    near = λ a. untold (λ (x : Kept). x.near) unused a (none_for a) i;
    reads = λ a. untold (λ (x : Kept). x.reads) unused a (none_for a) i;
    writes = λ a. untold (λ (x : Kept). x.writes) unused a (none_for a) i;
  }

-- ---- more pages may be in use

-- a directory to which zeros were added
pub same_index : (old new : List ℕ) → ((k : ℕ) → k < length old → slice_index new k ≡ slice_index old k) → ((k : ℕ) → length old ≤ k → k < length new → slice_index new k ≡ 0) →
    (k : ℕ) → slice_index new k ≡ slice_index old k
same_index old new kept added k = elim (below_tells k (length old)) [
  | inl p ↦ kept k p.1
  | inr p ↦ elim (below_tells k (length new)) [
    | inl q ↦ added k p.1 q.1 ∙ sym (get_or_past old k 0 p.1)
    | inr q ↦ get_or_past new k 0 q.1 ∙ sym (get_or_past old k 0 p.1)
  ]
]

module _ (t : PageTable) (ok : IsTable t) (directory : List ℕ) (same : (n : ℕ) → slice_index directory n ≡ slice_index t.directory n) where
  abbrev pub wider : PageTable
  wider = record t { directory = directory }

  pub wider_table : length directory ≤ 144115188075855872 → IsTable wider
  wider_table numbers = record {
    made = ok.made;
    few = ok.few;
    numbers = numbers;
    slots = λ n s e. ok.slots n s (sym (same n) ∙ e);
    numbered = λ n s p e h. ok.numbered n s p (sym (same n) ∙ e) h;
    listed = λ s p lt h. same p.number ∙ ok.listed s p lt h;
  }

  same_entry : (a : ℤ) → entry_of directory a ≡ entry_of t.directory a
  same_entry (pos n) = same (n / 64)
  same_entry (negsuc n) = refl

  same_told : {X : Type 0} (f : Kept → ℕ → Option X) (a : ℤ) → told f wider a ≡ told f t a
  same_told f a = ap (λ (e : ℕ). told_by f (page_in t.pages e) (place_of a)) (same_entry a)

  pub wider_log : (count : ℕ) → length directory ≡ count → pages_log wider ≡ record (pages_log t) { pages = count }
  wider_log count long = λ i. record (pages_log t) {
    pages = long i;
    has_page = λ n. nat_lt 0 (same n i);
    near = λ a. same_told (λ (x : Kept). x.near) a i;
    reads = λ a. same_told (λ (x : Kept). x.reads) a i;
    writes = λ a. same_told (λ (x : Kept). x.writes) a i;
  }
