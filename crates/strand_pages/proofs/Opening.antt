-- Pages that are in use stay so, and their cells have places.
use Rattle.std.proofs.Common.{◌≡◌, ◌∙◌, ℕ, ℤ, pos, negsuc, ◌/◌, Bool, true, false, cond, nat_eq, nat_lt, ◌&&◌, ◌||◌, refl, sym, arith, subst}
use Rattle.std.proofs.lemmas.Bool.{and_parts}
use Rattle.std.proofs.lemmas.Bool.Decides.{nat_tests}
use Rattle.frame_strand.specs.declared.cells.Change.{Change}
use Rattle.strand_pages.specs.Doing.{IsKept}
use Rattle.strand_pages.specs.Logs.{IsWider, Log, changed_log, has_place, is_open, with_change, with_page}
use Rattle.strand_pages.specs.Tables.{Table, log_of}

same_number : (n : ℕ) → nat_eq n n ≡ true
same_number n = grind (arith, nat_tests)

pub opened : (x : Log) (a : ℤ) → has_place x a ≡ true → is_open (with_page x a) a ≡ true
opened x (pos n) e =
    let low = (and_parts (nat_lt (n / 64) x.pages) _ e).0 in
    (λ i. low i && cond (same_number (n / 64) i) true (x.has_page (n / 64)))
opened x (negsuc n) e = absurd cc

more_pages : (b has : Bool) → has ≡ true → cond b true has ≡ true
more_pages true has e = refl
more_pages false has e = e

pub still_open : (x : Log) (a b : ℤ) → is_open x b ≡ true → is_open (with_page x a) b ≡ true
still_open x (pos n) (pos m) e =
    let t = and_parts (nat_lt (m / 64) x.pages) (x.has_page (m / 64)) e in
    (λ i. t.0 i && more_pages (nat_eq (m / 64) (n / 64)) (x.has_page (m / 64)) t.1 i)
still_open x (pos n) (negsuc m) e = e
still_open x (negsuc n) b e = by b e
  where
    by : (c : ℤ) → is_open x c ≡ true → is_open (with_page x (negsuc n)) c ≡ true
    by (pos m) h = h
    by (negsuc m) h = h

pub with_page_wider : (x : Log) (a : ℤ) → IsWider x (with_page x a)
with_page_wider x a = record { near = refl; reads = refl; writes = refl; in_use = λ b e. still_open x a b e }

pub same_wider : (x : Log) → IsWider x x
same_wider x = record { near = refl; reads = refl; writes = refl; in_use = λ b e. e }

pub wider_on : (x y z : Log) → IsWider x y → IsWider y z → IsWider x z
wider_on x y z p q = record { near = q.near ∙ p.near; reads = q.reads ∙ p.reads; writes = q.writes ∙ p.writes; in_use = λ a e. q.in_use a (p.in_use a e) }

-- a page in use has a place, and is in use after a change
pub has_place_open : (x : Log) (a : ℤ) → is_open x a ≡ true → has_place x a ≡ true
has_place_open x (pos n) e =
    let t = and_parts (nat_lt (n / 64) x.pages) (x.has_page (n / 64)) e in
    (λ i. t.0 i && (t.1 i || nat_lt x.used 512))
has_place_open x (negsuc n) e = absurd cc

pub open_changed : (x : Log) (a : ℤ) (u : Change) (b : ℤ) → is_open x b ≡ true → is_open (changed_log x a u) b ≡ true
open_changed x a u b e = by b (still_open x a b e)
  where
    by : (c : ℤ) → is_open (with_page x a) c ≡ true → is_open (changed_log x a u) c ≡ true
    by (pos m) h = h
    by (negsuc m) h = h

-- whether a page was put in use or not
pub reserved_wider : (r : Bool) (x y : Table) (a : ℤ) → (r ≡ true → log_of y ≡ with_page (log_of x) a) → (r ≡ false → y ≡ x) → IsWider (log_of x) (log_of y)
reserved_wider true x y a put same = subst (IsWider (log_of x)) (sym (put refl)) (with_page_wider (log_of x) a)
reserved_wider false x y a put same = subst (λ (t : Table). IsWider (log_of x) (log_of t)) (sym (same refl)) (same_wider (log_of x))

open_put : (x : Log) (a : ℤ) (u : Change) (b : ℤ) → is_open (with_change x a u) b ≡ true → is_open (changed_log x a u) b ≡ true
open_put x a u b e = open_changed x a u b (by b e)
  where
    by : (c : ℤ) → is_open (with_change x a u) c ≡ true → is_open x c ≡ true
    by (pos m) h = h
    by (negsuc m) h = h

pub changed_kept : (x : Log) (a : ℤ) (u : Change) (after : Log) → after ≡ changed_log x a u → IsKept x a u after
changed_kept x a u after is = subst (IsKept x a u) (sym is) (record { near = refl; reads = refl; writes = refl; in_use = λ b e. open_put x a u b e })
