-- The next bit of a mask.
use Rattle.std.proofs.Common.{◌≡◌, ◌<◌, ◌≤◌, ◌+◌, ◌-◌, ◌/◌, ◌%◌, ◌^◌, ◌||◌, ◌⊎◌, ℕ, max, sym, ap, ◌∙◌, arith, true, false, nat_eq, shr-shr, inl, inr, w64}
use Rattle.std.specs.Int.{bit_at, bit_not, trailing_zeros}
use Rattle.std.specs.Prelude.{bit_or}
use Rattle.std.proofs.lemmas.Bool.Decides.{eqb_tells, leb_tells}
use Rattle.std.proofs.lemmas.Nat.{shr_le}
use Rattle.std.proofs.lemmas.Nat.Bits.{bit_at-lt, bit_at-trailing_zeros, bit_at-zero, bit_at_above, bit_at_not, bit_at_or}
use Rattle.strand_pages.specs.Bits.{is_set}

shifted : (mask from j : ℕ) → bit_at (mask / 2 ^ from) j ≡ bit_at mask (from + j)
shifted mask from j = ap (λ x. x % 2) (shr-shr mask from j)

back : (from j : ℕ) → from ≤ j → from + (j - from) ≡ j
back from j le = omega (arith, le)

pub none_left : (mask from : ℕ) → mask / 2 ^ from ≡ 0 → (j : ℕ) → from ≤ j → is_set mask j ≡ false
none_left mask from none j le = ap (λ (n : ℕ). nat_eq n 1)
    (ap (bit_at mask) (sym (back from j le)) ∙ sym (shifted mask from (j - from)) ∙ ap (λ (r : ℕ). bit_at r (j - from)) none ∙ bit_at-zero (j - from))

module _ (mask from : ℕ) (fits : mask < 2 ^ 64) (some : 0 < mask / 2 ^ from) where
  abbrev zeros : ℕ
  zeros = trailing_zeros w64 (mask / 2 ^ from)

  lowest : (zeros < 64) × (bit_at (mask / 2 ^ from) zeros ≡ 1) × ((i : ℕ) → i < zeros → bit_at (mask / 2 ^ from) i ≡ 0)
  lowest = let less = shr_le mask from in bit_at-trailing_zeros w64 (mask / 2 ^ from) some (omega (arith, less, fits))

  there : bit_at mask (from + zeros) ≡ 1
  there = sym (shifted mask from zeros) ∙ lowest.1

  pub found_within : from + zeros < 64
  found_within = elim (leb_tells 64 (from + zeros)) [
    | inl q ↦ absurd (let none = bit_at_above mask 64 (from + zeros) fits q.1 in omega (arith, none, there))
    | inr q ↦ q.1
  ]

  pub found_set : is_set mask (from + zeros) ≡ true
  found_set = ap (λ (n : ℕ). nat_eq n 1) there

  pub found_first : (j : ℕ) → from ≤ j → j < from + zeros → is_set mask j ≡ false
  found_first j le lt = ap (λ (n : ℕ). nat_eq n 1) (ap (bit_at mask) (sym (back from j le)) ∙ sym (shifted mask from (j - from)) ∙ lowest.2 (j - from) (omega (arith, le, lt)))

small : (x : ℕ) → x < 2 → (x ≡ 0) ⊎ (x ≡ 1)
small x lt = elim (leb_tells 1 x) [ inl q ↦ let ge = q.1 in inr (omega (arith, ge, lt)) | inr q ↦ let less = q.1 in inl (omega (arith, less)) ]

larger : (x y : ℕ) → (x ≡ 0) ⊎ (x ≡ 1) → (y ≡ 0) ⊎ (y ≡ 1) → nat_eq (max x y) 1 ≡ (nat_eq x 1 || nat_eq y 1)
larger x y (inl p) (inl q) = (λ i. nat_eq (max (p i) (q i)) 1) ∙ sym (λ i. nat_eq (p i) 1 || nat_eq (q i) 1)
larger x y (inl p) (inr q) = (λ i. nat_eq (max (p i) (q i)) 1) ∙ sym (λ i. nat_eq (p i) 1 || nat_eq (q i) 1)
larger x y (inr p) (inl q) = (λ i. nat_eq (max (p i) (q i)) 1) ∙ sym (λ i. nat_eq (p i) 1 || nat_eq (q i) 1)
larger x y (inr p) (inr q) = (λ i. nat_eq (max (p i) (q i)) 1) ∙ sym (λ i. nat_eq (p i) 1 || nat_eq (q i) 1)

pub either_set : (a b k : ℕ) → is_set (bit_or a b) k ≡ (is_set a k || is_set b k)
either_set a b k = ap (λ (n : ℕ). nat_eq n 1) (bit_at_or a b k) ∙ larger (bit_at a k) (bit_at b k) (small (bit_at a k) (bit_at-lt a k)) (small (bit_at b k) (bit_at-lt b k))

-- ---- a run of set bits

unset_then : (mask k : ℕ) → mask < 2 ^ 64 → k < 64 → is_set (bit_not w64 mask) k ≡ false → is_set mask k ≡ true
unset_then mask k fits within off = elim (small (bit_at mask k) (bit_at-lt mask k)) [
  | inl none ↦
      let other : bit_at (bit_not w64 mask) k ≡ 1 = bit_at_not w64 mask k fits within ∙ ap (λ (n : ℕ). 1 - n) none in
      let on : is_set (bit_not w64 mask) k ≡ true = ap (λ (n : ℕ). nat_eq n 1) other in
      absurd (let bad = sym on ∙ off in cc)
  | inr one ↦ ap (λ (n : ℕ). nat_eq n 1) one
]

-- a set bit, and behind it those that the mask's other bits pass over
pub run_set : (mask place end : ℕ) → mask < 2 ^ 64 → end ≤ 64 → is_set mask place ≡ true → ((k : ℕ) → place + 1 ≤ k → k < end → is_set (bit_not w64 mask) k ≡ false) →
    (k : ℕ) → place ≤ k → k < end → is_set mask k ≡ true
run_set mask place end fits page on passed k ge lt = elim (eqb_tells k place) [
  | inl h ↦ ap (is_set mask) h.1 ∙ on
  | inr h ↦ let off = h.1 in unset_then mask k fits (omega (arith, lt, page)) (passed k (omega (arith, off, ge)) lt)
]
