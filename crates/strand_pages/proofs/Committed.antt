-- A table against a row of the board's cells, one page after the other.
use Rattle.std.proofs.Common.{◌≡◌, ◌≢◌, ◌<◌, ◌+◌, ◌*◌, ◌/◌, ◌%◌, ℕ, zero, suc, ℤ, pos, negsuc, refl, sym, ap, ◌∙◌, arith, Bool, true, false, cond, nat_le, nat_lt, List, [], ◌∷◌, length, Option, Some, None, inl, inr}
use Rattle.std.specs.Prelude.{IsTrue, slice_get, slice_index}
use Rattle.std.proofs.lemmas.Bool.Decides.{eqb_tells, leb_tells}
use Rattle.std.proofs.lemmas.List.{get_or_past}
use Rattle.std.proofs.lemmas.Nat.{div-add-mod', div-mul-add, mod-mul-add, mod_below}
use Rattle.frame_engine.specs.Flat.{cell_in, is_cell}
use Rattle.frame_strand.specs.declared.cells.Change.{Change}
use Rattle.strand_pages.specs.Committing.{Agrees, IsPutInto, PageAgrees, PageDiffers, PageIsPut}
use Rattle.strand_pages.specs.Known.{put_change}
use Rattle.strand_pages.specs.Pages.{Kept}
use Rattle.strand_pages.specs.Paging.{kept_of}
use Rattle.strand_pages.specs.Tables.{IsTable, PageTable, entry_of, pages_log, told}
use Rattle.strand_pages.specs.declared.page.Page.{Page}
use Rattle.strand_pages.proofs.Keeping.{below_tells}
use Rattle.strand_pages.proofs.Paged.{told_at, untold}

some_there : {X : Type 0} (xs : List X) (i : ℕ) → i < length xs → slice_get xs i ≡ None → ⊥
some_there [] i lt e = absurd (omega (arith, lt))
some_there (x ∷ xs) zero lt e = let bad = e in cc
some_there (x ∷ xs) (suc i) lt e = some_there xs i (omega (arith, lt)) e

-- what is kept of the number's cell, where its page comes before this one
abbrev pub change_upto : PageTable → ℕ → ℕ → Option Change
change_upto t i n = cond (nat_le (slice_index t.directory (n / 64)) i) ((pages_log t).writes (pos n)) None

pub record PutUpTo (t : PageTable) (old new : List ℤ) (i : ℕ) : Type 0 where
  pub long : length new ≡ length old
  pub cells : (n : ℕ) → slice_get new n ≡ put_change (change_upto t i n) (slice_get old n)

module _ (t : PageTable) (ok : IsTable t) where
  -- the address of a page's cell leads to the page
  module _ (s : ℕ) (p : Page) (used : s < t.used) (is : slice_get t.pages s ≡ Some p) (k : ℕ) (lt : k < 64) where
    pub leads : entry_of t.directory (pos (p.number * 64 + k)) ≡ suc s
    leads = ap (λ (n : ℕ). slice_index t.directory n) (div-mul-add p.number 64 k lt) ∙ ok.listed s p used is

    pub tells : {X : Type 0} (f : Kept → ℕ → Option X) → told f t (pos (p.number * 64 + k)) ≡ f (kept_of p) k
    tells f = told_at f t (pos (p.number * 64 + k)) s p leads is ∙ ap (f (kept_of p)) (mod-mul-add p.number 64 k lt)

  pub number_fits : (s : ℕ) (p : Page) → s < t.used → slice_get t.pages s ≡ Some p → p.number < 144115188075855872
  number_fits s p used is = elim (below_tells p.number 144115188075855872) [
    | inl q ↦ q.1
    | inr q ↦ absurd (
        let past = q.1 in
        let few = ok.numbers in
        let none : slice_index t.directory p.number ≡ 0 = get_or_past t.directory p.number 0 (omega (arith, past, few)) in
        let there = ok.listed s p used is in omega (arith, none, there))
  ]

  -- the number's page, if it is in use
  module _ (n : ℕ) where
    pub whole : (s : ℕ) (p : Page) → slice_index t.directory (n / 64) ≡ suc s → slice_get t.pages s ≡ Some p → p.number * 64 + n % 64 ≡ n
    whole s p at is = ap (λ (m : ℕ). m * 64 + n % 64) (ok.numbered (n / 64) s p at is) ∙ div-add-mod' n 64

    pub its_page : (s : ℕ) → slice_index t.directory (n / 64) ≡ suc s → (p : Page) × (slice_get t.pages s ≡ Some p)
    its_page s at = from (slice_get t.pages s) refl
      where
        from : (o : Option Page) → slice_get t.pages s ≡ o → (p : Page) × (slice_get t.pages s ≡ Some p)
        from (Some p) e = (p, e)
        from None e = absurd (let lt = ok.slots (n / 64) s at in let made = ok.made in some_there t.pages s (omega (arith, lt, made)) e)

  -- ---- what was read

  abbrev pub PagesAgree : List ℤ → ℕ → Type 0
  PagesAgree row n = (s : ℕ) (p : Page) → s < n → slice_get t.pages s ≡ Some p → PageAgrees (kept_of p) row

  pub table_agrees : (row : List ℤ) → PagesAgree row t.used → Agrees (pages_log t) row
  table_agrees row all (negsuc n) v e = absurd (let none = untold (λ (x : Kept). x.reads) t (negsuc n) refl in let bad = sym none ∙ e in cc)
  table_agrees row all (pos n) v e = from (slice_index t.directory (n / 64)) refl
    where
      from : (j : ℕ) → slice_index t.directory (n / 64) ≡ j → cell_in row (pos n) ≡ Some v
      from zero at = absurd (let none = untold (λ (x : Kept). x.reads) t (pos n) at in let bad = sym none ∙ e in cc)
      from (suc s) at =
          let (p, is) = its_page n s at in
          ap (slice_get row) (sym (whole n s p at is)) ∙
          all s p (ok.slots (n / 64) s at) is (n % 64) v (mod_below n 64 (omega arith)) (sym (told_at (λ (x : Kept). x.reads) t (pos n) s p at is) ∙ e)

  pub table_differs : (row : List ℤ) (s : ℕ) (p : Page) → s < t.used → slice_get t.pages s ≡ Some p → PageDiffers (kept_of p) row → Agrees (pages_log t) row → ⊥
  table_differs row s p used is d agrees =
      d.other (agrees (pos (p.number * 64 + d.place)) d.value (tells s p used is d.place d.within (λ (x : Kept). x.reads) ∙ d.read))

  -- ---- what was written

  pub written_within : (old mid : List ℤ) → length mid ≡ length old → ((a : ℤ) → (pages_log t).writes a ≢ None → IsTrue (is_cell old a)) → (s : ℕ) (p : Page) → s < t.used → slice_get t.pages s ≡ Some p →
      (k : ℕ) → k < 64 → (kept_of p).writes k ≢ None → p.number * 64 + k < length mid
  written_within old mid long inside s p used is k lt some =
      let there : IsTrue (nat_lt (p.number * 64 + k) (length old)) = inside (pos (p.number * 64 + k)) (λ e. some (sym (tells s p used is k lt (λ (x : Kept). x.writes)) ∙ e)) in
      elim (below_tells (p.number * 64 + k) (length old)) [
        | inl q ↦ let less = q.1 in omega (arith, less, long)
        | inr q ↦ absurd (let bad : false ≡ true = sym q.0 ∙ there in cc)
      ]

  pub put_no_page : (row : List ℤ) → PutUpTo t row row 0
  put_no_page row = record {
    long = refl;
    cells = λ n. elim (leb_tells (slice_index t.directory (n / 64)) 0) [
      | inl q ↦
          let none : slice_index t.directory (n / 64) ≡ 0 = let le = q.1 in omega (arith, le) in
          sym (ap (λ (b : Bool). put_change (cond b ((pages_log t).writes (pos n)) None) (slice_get row n)) q.0 ∙ ap (λ (u : Option Change). put_change u (slice_get row n)) (untold (λ (x : Kept). x.writes) t (pos n) none))
      | inr q ↦ sym (ap (λ (b : Bool). put_change (cond b ((pages_log t).writes (pos n)) None) (slice_get row n)) q.0)
    ];
  }

  module _ (old mid new : List ℤ) (i : ℕ) (before : PutUpTo t old mid i) (p : Page) (used : i < t.used) (is : slice_get t.pages i ≡ Some p) (now : PageIsPut (kept_of p) mid new) where
    in_page : (n : ℕ) → n / 64 ≡ p.number → slice_get new n ≡ put_change (change_upto t (i + 1) n) (slice_get old n)
    in_page n same =
        let at : slice_index t.directory (n / 64) ≡ suc i = ap (λ (m : ℕ). slice_index t.directory m) same ∙ ok.listed i p used is in
        let full = whole n i p at is in
        let lt = mod_below n 64 (omega arith) in
        let fresh : change_upto t i n ≡ None = elim (leb_tells (slice_index t.directory (n / 64)) i) [
          | inl q ↦ absurd (let le = q.1 in omega (arith, le, at))
          | inr q ↦ ap (λ (b : Bool). cond b ((pages_log t).writes (pos n)) None) q.0
        ] in
        let whole_now : change_upto t (i + 1) n ≡ (kept_of p).writes (n % 64) = elim (leb_tells (slice_index t.directory (n / 64)) (i + 1)) [
          | inl q ↦ ap (λ (b : Bool). cond b ((pages_log t).writes (pos n)) None) q.0 ∙ told_at (λ (x : Kept). x.writes) t (pos n) i p at is
          | inr q ↦ absurd (let gt = q.1 in omega (arith, gt, at))
        ] in
        ap (slice_get new) (sym full) ∙ now.here (n % 64) lt ∙ ap (put_change ((kept_of p).writes (n % 64))) (ap (slice_get mid) full ∙ before.cells n ∙ ap (λ (u : Option Change). put_change u (slice_get old n)) fresh) ∙
        sym (ap (λ (u : Option Change). put_change u (slice_get old n)) whole_now)

    elsewhere : (n : ℕ) → n / 64 ≢ p.number → slice_get new n ≡ put_change (change_upto t (i + 1) n) (slice_get old n)
    elsewhere n off =
        let other : slice_index t.directory (n / 64) ≢ suc i = λ at. off (sym (ok.numbered (n / 64) i p at is)) in
        let same : nat_le (slice_index t.directory (n / 64)) i ≡ nat_le (slice_index t.directory (n / 64)) (i + 1) = elim (leb_tells (slice_index t.directory (n / 64)) i) [
          | inl q ↦ elim (leb_tells (slice_index t.directory (n / 64)) (i + 1)) [
            | inl r ↦ q.0 ∙ sym r.0
            | inr r ↦ absurd (let gt = r.1 in let le = q.1 in omega (arith, gt, le))
          ]
          | inr q ↦ elim (leb_tells (slice_index t.directory (n / 64)) (i + 1)) [
            | inl r ↦ absurd (let gt = q.1 in let le = r.1 in other (omega (arith, gt, le)))
            | inr r ↦ q.0 ∙ sym r.0
          ]
        ] in
        now.others n off ∙ before.cells n ∙ ap (λ (b : Bool). put_change (cond b ((pages_log t).writes (pos n)) None) (slice_get old n)) same

    pub put_page : PutUpTo t old new (i + 1)
    put_page = record {
      long = now.long ∙ before.long;
      cells = λ n. elim (eqb_tells (n / 64) p.number) [ inl q ↦ in_page n q.1 | inr q ↦ elsewhere n q.1 ];
    }

  pub put_pages : (old new : List ℤ) → PutUpTo t old new t.used → IsPutInto (pages_log t) old new
  put_pages old new all = record { long = all.long; cells = cell }
    where
      cell : (a : ℤ) → cell_in new a ≡ put_change ((pages_log t).writes a) (cell_in old a)
      cell (negsuc n) = sym (ap (λ (u : Option Change). put_change u None) (untold (λ (x : Kept). x.writes) t (negsuc n) refl))
      cell (pos n) = all.cells n ∙ ap (λ (u : Option Change). put_change u (slice_get old n)) (full (slice_index t.directory (n / 64)) refl)
        where
          full : (j : ℕ) → slice_index t.directory (n / 64) ≡ j → change_upto t t.used n ≡ (pages_log t).writes (pos n)
          full zero at = elim (leb_tells (slice_index t.directory (n / 64)) t.used) [
            | inl q ↦ ap (λ (b : Bool). cond b ((pages_log t).writes (pos n)) None) q.0
            | inr q ↦ absurd (let gt = q.1 in omega (arith, gt, at))
          ]
          full (suc s) at = elim (leb_tells (slice_index t.directory (n / 64)) t.used) [
            | inl q ↦ ap (λ (b : Bool). cond b ((pages_log t).writes (pos n)) None) q.0
            | inr q ↦ absurd (let gt = q.1 in let lt = ok.slots (n / 64) s at in omega (arith, gt, at, lt))
          ]
