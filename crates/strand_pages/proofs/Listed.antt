-- A log with the adds to cells whose pages are not in use.
use Rattle.std.proofs.Common.{◌≡◌, ◌≢◌, ◌/◌, ◌⊎◌, ◌&&◌, ℕ, zero, suc, ℤ, pos, negsuc, refl, sym, ap, ◌∙◌, subst, arith, Bool, true, false, cond, nat_lt, List, [], ◌∷◌, ◌++◌, length, Option, Some, None, inl, inr}
use Rattle.std.specs.Prelude.{IsSome, slice_index}
use Rattle.std.proofs.lemmas.Bool.{and_parts}
use Rattle.std.proofs.lemmas.Bool.Decides.{eqb_tells}
use Rattle.frame_strand.specs.Buffers.{raised_change}
use Rattle.frame_strand.specs.declared.cells.Change.{Change}
use Rattle.frame_strand.specs.declared.cells.Change.TheVariants.{Stored, Delta}
use Rattle.frame_strand.specs.declared.cells.CellStop.{CellStop}
use Rattle.frame_strand.specs.declared.cells.CellStop.TheVariants.{Full, Need}
use Rattle.strand_pages.specs.Doing.{IsKept, IsLoaded, IsMissing}
use Rattle.strand_pages.specs.Known.{at_address, at_place, read_after, settled_change, value_of}
use Rattle.strand_pages.specs.Logs.{Log, changed_log, empty_log, filled_log, has_place, is_open, loaded_log, same_page, value_at, with_change, with_page, with_values}
use Rattle.strand_pages.specs.Tables.{IsFresh, PageTable, entry_of, in_pages, pages_log, raised_all, raised_by, taken_in, with_adds}
use Rattle.strand_pages.specs.declared.added.Added.{Added}
use Rattle.strand_pages.proofs.Addresses.{address_tells}
use Rattle.strand_pages.proofs.Keeping.{below_is}
use Rattle.strand_pages.proofs.Opening.{has_place_open, opened}
use Rattle.strand_pages.proofs.Paged.{index_within, untold}

-- ---- pages in use

pub paged_tells : (t : PageTable) (a : ℤ) → ((in_pages (pages_log t).has_page a ≡ true) × (entry_of t.directory a ≢ 0)) ⊎ ((in_pages (pages_log t).has_page a ≡ false) × (entry_of t.directory a ≡ 0))
paged_tells t (negsuc n) = inr (refl, refl)
paged_tells t (pos n) = from (slice_index t.directory (n / 64)) refl
  where
    from : (j : ℕ) → slice_index t.directory (n / 64) ≡ j → ((nat_lt 0 (slice_index t.directory (n / 64)) ≡ true) × (slice_index t.directory (n / 64) ≢ 0)) ⊎ ((nat_lt 0 (slice_index t.directory (n / 64)) ≡ false) × (slice_index t.directory (n / 64) ≡ 0))
    from zero e = inr (ap (λ (x : ℕ). nat_lt 0 x) e, e)
    from (suc s) e = inl (ap (λ (x : ℕ). nat_lt 0 x) e ∙ below_is 0 (suc s) (omega arith), λ none. omega (arith, none, e))

and_false : (b : Bool) → (b && false) ≡ false
and_false true = refl
and_false false = refl

pub open_paged : (t : PageTable) (a : ℤ) → is_open (pages_log t) a ≡ in_pages (pages_log t).has_page a
open_paged t (negsuc n) = refl
open_paged t (pos n) = from (slice_index t.directory (n / 64)) refl
  where
    from : (j : ℕ) → slice_index t.directory (n / 64) ≡ j → (nat_lt (n / 64) (length t.directory) && nat_lt 0 (slice_index t.directory (n / 64))) ≡ nat_lt 0 (slice_index t.directory (n / 64))
    from zero e = (λ i. nat_lt (n / 64) (length t.directory) && nat_lt 0 (e i)) ∙ and_false (nat_lt (n / 64) (length t.directory)) ∙ sym (ap (λ (x : ℕ). nat_lt 0 x) e)
    from (suc s) e = ap (λ (b : Bool). b && nat_lt 0 (slice_index t.directory (n / 64))) (below_is (n / 64) (length t.directory) (index_within t.directory (n / 64) s e))

module _ (t : PageTable) (a : ℤ) (closed : in_pages (pages_log t).has_page a ≡ false) where
  none : entry_of t.directory a ≡ 0
  none = elim (paged_tells t a) [ inl q ↦ absurd (let bad : true ≡ false = sym q.0 ∙ closed in cc) | inr q ↦ q.1 ]

  pub closed_reads : (pages_log t).reads a ≡ None
  closed_reads = untold (λ p. p.reads) t a none

  pub closed_writes : (pages_log t).writes a ≡ None
  closed_writes = untold (λ p. p.writes) t a none

  pub closed_near : (pages_log t).near a ≡ None
  closed_near = untold (λ p. p.near) t a none

-- ---- a page in use

pub same_with_page : (x : Log) (a : ℤ) → in_pages x.has_page a ≡ true → with_page x a ≡ x
same_with_page x (negsuc n) e = absurd cc
same_with_page x (pos n) e = λ i. record x { used = ap (λ (b : Bool). cond b x.used (suc x.used)) e i; has_page = λ m. has_same m i }
  where
    has_same : (m : ℕ) → at_place (n / 64) true x.has_page m ≡ x.has_page m
    has_same m = elim (eqb_tells m (n / 64)) [
      | inl h ↦ ap (λ (b : Bool). cond b true (x.has_page m)) h.0 ∙ sym (ap x.has_page h.1 ∙ e)
      | inr h ↦ ap (λ (b : Bool). cond b true (x.has_page m)) h.0
    ]

module _ (x : Log) (adds : List Added) where
  pub paged_writes : (a : ℤ) → in_pages x.has_page a ≡ true → (with_adds x adds).writes a ≡ x.writes a
  paged_writes a e = ap (λ (b : Bool). cond b (x.writes a) (raised_all None adds a)) e

  pub paged_value : (a : ℤ) → in_pages x.has_page a ≡ true → value_at (with_adds x adds) a ≡ value_at x a
  paged_value a e = ap (λ (u : Option Change). value_of u (x.near a)) (paged_writes a e)

  -- a change of a cell whose page is in use
  put_paged : (a : ℤ) → in_pages x.has_page a ≡ true → (u : Option Change) (b : ℤ) →
      cond (in_pages x.has_page b) (at_address a u x.writes b) (raised_all None adds b) ≡ at_address a u (with_adds x adds).writes b
  put_paged a e u b = elim (address_tells b a) [
    | inl q ↦
        ap (λ (t : Bool). cond t (at_address a u x.writes b) (raised_all None adds b)) (ap (in_pages x.has_page) q.1 ∙ e) ∙
        ap (λ (t : Bool). cond t u (x.writes b)) q.0 ∙ sym (ap (λ (t : Bool). cond t u ((with_adds x adds).writes b)) q.0)
    | inr q ↦
        ap (λ (t : Bool). cond (in_pages x.has_page b) (cond t u (x.writes b)) (raised_all None adds b)) q.0 ∙
        sym (ap (λ (t : Bool). cond t u ((with_adds x adds).writes b)) q.0)
  ]

  pub change_paged : (a : ℤ) (u : Change) → in_pages x.has_page a ≡ true → with_adds (with_change x a u) adds ≡ with_change (with_adds x adds) a u
  change_paged a u e = λ i. record x { writes = λ b. put_paged a e (Some u) b i }

  pub load_paged : (a : ℤ) → in_pages x.has_page a ≡ true → with_adds (loaded_log x a) adds ≡ loaded_log (with_adds x adds) a
  load_paged a e = λ i. record x {
    reads = at_address a (read_after (sym (paged_writes a e) i) (x.near a) (x.reads a)) x.reads;
    writes = λ b. (put_paged a e (settled_change (x.writes a) (x.near a)) b ∙ ap (λ (u : Option Change). at_address a (settled_change u (x.near a)) (with_adds x adds).writes b) (sym (paged_writes a e))) i;
  }

  pub raised_paged : (a : ℤ) (n : ℤ) → in_pages x.has_page a ≡ true → raised_change n (x.writes a) (x.reads a) ≡ raised_change n ((with_adds x adds).writes a) (x.reads a)
  raised_paged a n e = ap (λ (u : Option Change). raised_change n u (x.reads a)) (sym (paged_writes a e))

-- ---- nothing is kept

pub either_way : {X : Type 0} (b : Bool) (x : X) → cond b x x ≡ x
either_way true x = refl
either_way false x = refl

pub none_listed : (n : ℕ) → with_adds (empty_log n) [] ≡ empty_log n
none_listed n = λ i. record (empty_log n) { writes = λ a. either_way {X = Option Change} (in_pages (λ m. false) a) None i }

-- ---- a cell whose page is not in use

unstored : (adds : List Added) (a : ℤ) (u : Option Change) → value_of u None ≡ None → value_of (raised_all u adds a) None ≡ None
unstored [] a u e = e
unstored (x ∷ more) a u e = unstored more a (raised_by x a u) (elim (address_tells a x.at) [
  | inl q ↦ ap (λ (t : Bool). value_of (cond t (Some (raised_change x.number u None)) u) None) q.0 ∙ raised u e
  | inr q ↦ ap (λ (t : Bool). value_of (cond t (Some (raised_change x.number u None)) u) None) q.0 ∙ e
])
  where
    raised : (w : Option Change) → value_of w None ≡ None → value_of (Some (raised_change x.number w None)) None ≡ None
    raised None h = refl
    raised (Some (Stored z)) h = absurd cc
    raised (Some (Delta z)) h = refl

pub closed_value : (t : PageTable) (adds : List Added) (a : ℤ) → in_pages (pages_log t).has_page a ≡ false → value_at (with_adds (pages_log t) adds) a ≡ None
closed_value t adds a closed =
    ap (λ (b : Bool). value_of (cond b ((pages_log t).writes a) (raised_all None adds a)) ((pages_log t).near a)) closed ∙
    ap (λ (near : Option ℤ). value_of (raised_all None adds a) near) (closed_near t a closed) ∙ unstored adds a None refl

pub raised_more : (adds : List Added) (u : Option Change) (e : Added) (b : ℤ) → raised_all u (adds ++ e ∷ []) b ≡ raised_by e b (raised_all u adds b)
raised_more [] u e b = refl
raised_more (x ∷ more) u e b = raised_more more (raised_by x b u) e b

module _ (t : PageTable) (adds : List Added) (e : Added) (closed : in_pages (pages_log t).has_page e.at ≡ false) where
  abbrev x : Log
  x = pages_log t

  abbrev more : List Added
  more = adds ++ e ∷ []

  abbrev change : Change
  change = raised_change e.number ((with_adds x adds).writes e.at) (x.reads e.at)

  change_is : change ≡ raised_change e.number (raised_all None adds e.at) None
  change_is = λ i. raised_change e.number (cond (closed i) (x.writes e.at) (raised_all None adds e.at)) (closed_reads t e.at closed i)

  listed_at : (b : ℤ) → (with_adds x more).writes b ≡ at_address e.at (Some change) (with_adds x adds).writes b
  listed_at b = ap (cond (in_pages x.has_page b) (x.writes b)) (raised_more adds None e b) ∙ elim (address_tells b e.at) [
    | inl q ↦
        ap (λ (s : Bool). cond s (x.writes b) (raised_by e b (raised_all None adds b))) (ap (in_pages x.has_page) q.1 ∙ closed) ∙
        ap (λ (s : Bool). cond s (Some (raised_change e.number (raised_all None adds b) None)) (raised_all None adds b)) q.0 ∙
        ap (λ (c : ℤ). Some (raised_change e.number (raised_all None adds c) None)) q.1 ∙ sym (ap Some change_is) ∙
        sym (ap (λ (s : Bool). cond s (Some change) ((with_adds x adds).writes b)) q.0)
    | inr q ↦
        ap (λ (s : Bool). cond (in_pages x.has_page b) (x.writes b) (cond s (Some (raised_change e.number (raised_all None adds b) None)) (raised_all None adds b))) q.0 ∙
        sym (ap (λ (s : Bool). cond s (Some change) ((with_adds x adds).writes b)) q.0)
  ]

  still : (b : ℤ) → is_open (with_change (with_adds x adds) e.at change) b ≡ true → is_open (with_adds x more) b ≡ true
  still (pos m) h = h
  still (negsuc m) h = h

  pub is_listed : IsKept (with_adds x adds) e.at change (with_adds x more)
  is_listed = record { near = refl; reads = refl; writes = λ i b. listed_at b i; in_use = still }

-- ---- a page is put in use and takes in its adds

module _ (x : Log) (a : ℤ) (place : has_place x a ≡ true) (closed : in_pages x.has_page a ≡ false) (adds : List Added) where
  pub taken_with_page : with_adds (taken_in (with_page x a) a adds) adds ≡ with_page (with_adds x adds) a
  taken_with_page = from a place closed
    where
      from : (c : ℤ) → has_place x c ≡ true → in_pages x.has_page c ≡ false → with_adds (taken_in (with_page x c) c adds) adds ≡ with_page (with_adds x adds) c
      from (negsuc n) p e = absurd cc
      from (pos n) p e = λ i. record (with_page x (pos n)) { writes = λ b. cell b i }
        where
          cell : (b : ℤ) → (with_adds (taken_in (with_page x (pos n)) (pos n) adds) adds).writes b ≡ (with_adds x adds).writes b
          cell (negsuc m) = refl
          cell (pos m) = elim (eqb_tells (m / 64) (n / 64)) [
            | inl q ↦
                ap (λ (s : Bool). cond (cond s true (x.has_page (m / 64))) (cond s (raised_all None adds (pos m)) (x.writes (pos m))) (raised_all None adds (pos m))) q.0 ∙
                sym (ap (λ (s : Bool). cond s (x.writes (pos m)) (raised_all None adds (pos m))) (ap x.has_page q.1 ∙ e))
            | inr q ↦ ap (λ (s : Bool). cond (cond s true (x.has_page (m / 64))) (cond s (raised_all None adds (pos m)) (x.writes (pos m))) (raised_all None adds (pos m))) q.0
          ]

pub fresh_page : (t : PageTable) (a : ℤ) → has_place (pages_log t) a ≡ true → in_pages (pages_log t).has_page a ≡ false → IsFresh (with_page (pages_log t) a) a
fresh_page t (negsuc n) p e = absurd cc
fresh_page t (pos n) p e = record {
  used = λ b s. open_now b s;
  reads = λ b s. closed_reads t b (other b s);
  writes = λ b s. closed_writes t b (other b s);
}
  where
    open_now : (b : ℤ) → same_page (pos n) b ≡ true → is_open (with_page (pages_log t) (pos n)) b ≡ true
    open_now (negsuc m) s = absurd cc
    open_now (pos m) s = elim (eqb_tells (m / 64) (n / 64)) [
      | inl q ↦
          ap (λ (k : Bool). nat_lt (m / 64) (length t.directory) && cond k true (nat_lt 0 (slice_index t.directory (m / 64)))) q.0 ∙
          ap (λ (j : ℕ). nat_lt j (length t.directory) && true) q.1 ∙
          ap (λ (k : Bool). k && true) (and_parts (nat_lt (n / 64) (length t.directory)) _ p).0
      | inr q ↦ absurd (let bad : true ≡ false = sym s ∙ q.0 in cc)
    ]

    other : (b : ℤ) → same_page (pos n) b ≡ true → in_pages (pages_log t).has_page b ≡ false
    other (negsuc m) s = refl
    other (pos m) s = elim (eqb_tells (m / 64) (n / 64)) [
      | inl q ↦ ap (λ (j : ℕ). nat_lt 0 (slice_index t.directory j)) q.1 ∙ e
      | inr q ↦ absurd (let bad : true ≡ false = sym s ∙ q.0 in cc)
    ]

-- ---- loads

pub load_listed : (t u : PageTable) (adds : List Added) (a : ℤ) → IsLoaded (pages_log t) a (pages_log u) → IsLoaded (with_adds (pages_log t) adds) a (with_adds (pages_log u) adds)
load_listed t u adds a done = elim (paged_tells t a) [
  | inl q ↦ record {
    there = subst IsSome (sym (paged_value (pages_log t) adds a q.0)) done.there;
    is = ap (λ (x : Log). with_adds x adds) done.is ∙ load_paged (pages_log t) adds a q.0;
  }
  | inr q ↦ absurd (
      let none : value_at (pages_log t) a ≡ None = λ i. value_of (closed_writes t a q.0 i) (closed_near t a q.0 i) in
      let bad = subst IsSome none done.there in cc)
]

pub same_place : (x : Log) (adds : List Added) (a : ℤ) → has_place (with_adds x adds) a ≡ has_place x a
same_place x adds (pos n) = refl
same_place x adds (negsuc n) = refl

pub missing_listed : (t : PageTable) (adds : List Added) (a : ℤ) (stop : CellStop) → IsMissing (pages_log t) a stop → IsMissing (with_adds (pages_log t) adds) a stop
missing_listed t adds a stop missing = record {
  absent = elim (paged_tells t a) [
    | inl q ↦ paged_value (pages_log t) adds a q.0 ∙ missing.absent
    | inr q ↦ closed_value t adds a q.0
  ];
  is = missing.is ∙ ap (λ (b : Bool). cond b (Need a) Full) (sym (same_place (pages_log t) adds a));
}

-- ---- what is done to a page in use is done to the log

same_open : (x : Log) (adds : List Added) (a : ℤ) → is_open (with_adds x adds) a ≡ is_open x a
same_open x adds (pos n) = refl
same_open x adds (negsuc n) = refl

pub in_page : (t : PageTable) (adds : List Added) (a : ℤ) → is_open (pages_log t) a ≡ true →
    (has_place (with_adds (pages_log t) adds) a ≡ true) × (with_adds (pages_log t) adds ≡ with_page (with_adds (pages_log t) adds) a)
in_page t adds a e = (
  has_place_open (with_adds (pages_log t) adds) a (same_open (pages_log t) adds a ∙ e),
  sym (same_with_page (with_adds (pages_log t) adds) a (sym (open_paged t a) ∙ e)),
)

-- in use, after it was put so in this log
module _ (t u : PageTable) (adds : List Added) (x : Log) (a : ℤ) (place : has_place x a ≡ true) (opens : with_adds (pages_log t) adds ≡ with_page x a) where
  pub now_open : is_open (pages_log t) a ≡ true
  now_open = sym (same_open (pages_log t) adds a) ∙ ap (λ (y : Log). is_open y a) opens ∙ opened x a place

  now_paged : in_pages (pages_log t).has_page a ≡ true
  now_paged = sym (open_paged t a) ∙ now_open

  pub put_in_page : (v : Change) → pages_log u ≡ with_change (pages_log t) a v → with_adds (pages_log u) adds ≡ changed_log x a v
  put_in_page v done =
      ap (λ (y : Log). with_adds y adds) done ∙ change_paged (pages_log t) adds a v now_paged ∙ ap (λ (y : Log). with_change y a v) opens

  pub add_in_page : (n : ℤ) → pages_log u ≡ with_change (pages_log t) a (raised_change n ((pages_log t).writes a) ((pages_log t).reads a)) →
      with_adds (pages_log u) adds ≡ changed_log x a (raised_change n (x.writes a) (x.reads a))
  add_in_page n done = put_in_page (raised_change n ((pages_log t).writes a) ((pages_log t).reads a)) done ∙
      ap (changed_log x a) (raised_paged (pages_log t) adds a n now_paged ∙ ap (λ (y : Log). raised_change n (y.writes a) (y.reads a)) opens)

  pub fill_in_page : (values : List ℤ) → pages_log u ≡ with_values (pages_log t) a values → with_adds (pages_log u) adds ≡ filled_log x a values
  fill_in_page values done = ap (λ (y : Log). with_adds y adds) done ∙ ap (λ (y : Log). with_values y a values) opens

pub written_listed : (t : PageTable) (adds : List Added) (a : ℤ) → (pages_log t).writes a ≢ None → (with_adds (pages_log t) adds).writes a ≢ None
written_listed t adds a some none = elim (paged_tells t a) [
  | inl q ↦ some (sym (paged_writes (pages_log t) adds a q.0) ∙ none)
  | inr q ↦ some (closed_writes t a q.0)
]
