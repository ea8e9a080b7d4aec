-- Rows one after another in one list: the part of each, and what changes where one is put anew.
use Rattle.std.proofs.Common.{◌≡◌, ◌∙◌, ℕ, zero, suc, ◌+◌, ◌-◌, ◌*◌, ◌<◌, ◌≤◌, List, [], ◌∷◌, ◌++◌, length, take, drop, Bool, true, false, refl, ap, sym, arith, ℤ}
use Rattle.std.specs.Prelude.{min, nat_lt}
use Rattle.std.proofs.Math.Nat.{suc-mul}
use Rattle.std.proofs.lemmas.Bool.{ltb-false, ltb-true}
use Rattle.std.proofs.lemmas.List.{append-nil, append_assoc, drop-drop, drop_all, drop_at, length-append, length-drop, length-take-le, take-append-drop, take_all, take_at}
use Rattle.std.proofs.lemmas.Slice.{drop-append-drop}
use Rattle.kernel_calls.specs.Held.{numbers_of}

-- ---- from a place on

take_take : (c t : ℕ) (xs : List ℤ) → c ≤ t → take c (take t xs) ≡ take c xs
take_take zero t xs low = refl
take_take (suc c) zero xs low = absurd (omega (arith, low))
take_take (suc c) (suc t) [] low = refl
take_take (suc c) (suc t) (x ∷ xs) low = λ i. x ∷ take_take c t xs (omega (arith, low)) i

take_none : (c : ℕ) (xs : List ℤ) → xs ≡ [] → take c xs ≡ []
take_none zero xs none = refl
take_none (suc c) xs none = ap (λ (l : List ℤ). take (suc c) l) none

inner : (n c t : ℕ) (xs : List ℤ) → n + c ≤ t → take c (drop n xs) ≡ take c (drop n (take t xs))
inner zero c t xs room = sym (take_take c t xs (omega (arith, room)))
inner (suc n) c zero xs room = absurd (omega (arith, room))
inner (suc n) c (suc t) [] room = refl
inner (suc n) c (suc t) (x ∷ xs) room = inner n c t xs (omega (arith, room))

-- parts before a place depend on what stands before it
pub part_before : (c j k : ℕ) (xs ys : List ℤ) → j < k → take (k * c) ys ≡ take (k * c) xs → numbers_of c j ys ≡ numbers_of c j xs
part_before c j k xs ys low same =
    let room : j * c + c ≤ k * c = below j k low in
    inner (j * c) c (k * c) ys room ∙ ap (λ (l : List ℤ). take c (drop (j * c) l)) same ∙ sym (inner (j * c) c (k * c) xs room)
  where
    below : (j k : ℕ) → j < k → j * c + c ≤ k * c
    below zero zero low = absurd (omega (arith, low))
    below zero (suc k) low = let s = suc-mul k c in omega (arith, s)
    below (suc j) zero low = absurd (omega (arith, low))
    below (suc j) (suc k) low = let rest = below j k (omega (arith, low)) in let s = suc-mul j c in let t = suc-mul k c in omega (arith, rest, s, t)

empty : (xs : List ℤ) → length xs ≡ 0 → xs ≡ []
empty [] e = refl
empty (x ∷ xs) e = absurd (omega (arith, e))

-- ---- a part put anew

-- of a part at n, as far as the list goes
module _ (n c from to : ℕ) (xs : List ℤ) (from_is : from ≡ min n (length xs)) (to_is : to ≡ min (from + c) (length xs)) where
  -- what is cut out is the part
  pub part_is : take (to - from) (drop from xs) ≡ take c (drop n xs)
  part_is = by (nat_lt (length xs) n) refl
    where
      by : (b : Bool) → nat_lt (length xs) n ≡ b → take (to - from) (drop from xs) ≡ take c (drop n xs)
      by true e =
          let past : length xs < n = ltb-true (length xs) n e in
          take_none (to - from) (drop from xs) (drop_all from xs (omega (arith, past, from_is))) ∙ sym (take_none c (drop n xs) (drop_all n xs (omega (arith, past))))
      by false e =
          let low : n ≤ length xs = ltb-false (length xs) n e in
          let at : from ≡ n = omega (arith, low, from_is) in
          ap (λ (f : ℕ). take (to - from) (drop f xs)) at ∙ cut (nat_lt (length xs) (n + c)) refl low
        where
          cut : (b : Bool) → nat_lt (length xs) (n + c) ≡ b → n ≤ length xs → take (to - from) (drop n xs) ≡ take c (drop n xs)
          cut true e low =
              let past : length xs < n + c = ltb-true (length xs) (n + c) e in
              let rest = length-drop n xs in
              take_all (to - from) (drop n xs) (omega (arith, past, rest, from_is, to_is, low)) ∙ sym (take_all c (drop n xs) (omega (arith, past, rest, low)))
          cut false e low =
              let within : n + c ≤ length xs = ltb-false (length xs) (n + c) e in
              let same : to - from ≡ c = omega (arith, within, from_is, to_is) in
              ap (λ (k : ℕ). take k (drop n xs)) same

  pub part_long : length (take (to - from) (drop from xs)) ≡ to - from
  part_long = let rest = length-drop from xs in length-take-le (to - from) (drop from xs) (omega (arith, rest, from_is, to_is))

  -- what follows it
  pub rest_is : drop (to - from) (drop from xs) ≡ drop to xs
  rest_is = drop-drop (to - from) from xs ∙ ap (λ (k : ℕ). drop k xs) (omega (arith, from_is, to_is))

  module _ (new ys : List ℤ) (long : length new ≡ to - from) (put : ys ≡ take from xs ++ (new ++ drop to xs)) where
    pub as_long : length ys ≡ length xs
    as_long =
        let whole = length-append (take from xs) (new ++ drop to xs) in
        let back = length-append new (drop to xs) in
        let head = length-take-le from xs (omega (arith, from_is)) in
        let rest = length-drop to xs in
        ap (λ (l : List ℤ). length l) put ∙ omega (arith, whole, back, head, rest, long, from_is, to_is)

    -- past the end nothing is put
    unchanged : length xs < n → (new ≡ []) × (ys ≡ xs)
    unchanged past =
        let none : new ≡ [] = empty new (omega (arith, past, long, from_is, to_is)) in
        let same : to ≡ from = omega (arith, past, from_is, to_is) in
        (none, put ∙ ap (λ (l : List ℤ). take from xs ++ (l ++ drop to xs)) none ∙ ap (λ (t : ℕ). take from xs ++ drop t xs) same ∙ take-append-drop from xs)

    pub before_it : take n ys ≡ take n xs
    before_it = by (nat_lt (length xs) n) refl
      where
        by : (b : Bool) → nat_lt (length xs) n ≡ b → take n ys ≡ take n xs
        by true e = ap (λ (l : List ℤ). take n l) (unchanged (ltb-true (length xs) n e)).1
        by false e =
            let low : n ≤ length xs = ltb-false (length xs) n e in
            let at : from ≡ n = omega (arith, low, from_is) in
            ap (λ (l : List ℤ). take n l) (put ∙ ap (λ (f : ℕ). take f xs ++ (new ++ drop to xs)) at) ∙ take_at (take n xs) (new ++ drop to xs) n (length-take-le n xs low)

    pub there : take c (drop n ys) ≡ new
    there = by (nat_lt (length xs) n) refl
      where
        by : (b : Bool) → nat_lt (length xs) n ≡ b → take c (drop n ys) ≡ new
        by true e =
            let past : length xs < n = ltb-true (length xs) n e in
            let kept = unchanged past in
            take_none c (drop n ys) (ap (λ (l : List ℤ). drop n l) kept.1 ∙ drop_all n xs (omega (arith, past))) ∙ sym kept.0
        by false e =
            let low : n ≤ length xs = ltb-false (length xs) n e in
            let at : from ≡ n = omega (arith, low, from_is) in
            let rest : drop n ys ≡ new ++ drop to xs = ap (λ (l : List ℤ). drop n l) (put ∙ ap (λ (f : ℕ). take f xs ++ (new ++ drop to xs)) at) ∙ drop_at (take n xs) (new ++ drop to xs) n (length-take-le n xs low) in
            ap (λ (l : List ℤ). take c l) rest ∙ cut (nat_lt (length xs) (n + c)) refl low
          where
            cut : (b : Bool) → nat_lt (length xs) (n + c) ≡ b → n ≤ length xs → take c (new ++ drop to xs) ≡ new
            cut true e low =
                let past : length xs < n + c = ltb-true (length xs) (n + c) e in
                let none : new ++ drop to xs ≡ new = ap (λ (l : List ℤ). new ++ l) (drop_all to xs (omega (arith, past, from_is, to_is, low))) ∙ append-nil new in
                ap (λ (l : List ℤ). take c l) none ∙ take_all c new (omega (arith, past, long, from_is, to_is, low))
            cut false e low =
                let within : n + c ≤ length xs = ltb-false (length xs) (n + c) e in
                take_at new (drop to xs) c (omega (arith, within, long, from_is, to_is))

    pub after_it : drop (n + c) ys ≡ drop (n + c) xs
    after_it =
        let front : List ℤ = take from xs ++ new in
        let size = length-append (take from xs) new in
        let head = length-take-le from xs (omega (arith, from_is)) in
        let whole : length front ≡ to = omega (arith, size, head, long, from_is, to_is) in
        ap (λ (l : List ℤ). drop (n + c) l) (put ∙ sym (append_assoc (take from xs) new (drop to xs))) ∙ drop-append-drop to xs front (n + c) (omega (arith, from_is, to_is)) whole
