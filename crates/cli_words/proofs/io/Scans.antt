-- Words of a text.
use Rattle.std.proofs.Common.{◌≡◌, ◌≢◌, ℕ, suc, ◌+◌, Bool, true, false, not, eqb, List, [], ◌∷◌, ◌++◌, length, take, drop, refl, sym, ap, ◌∙◌, subst, append-nil, arith}
use Rattle.std.specs.List.{prefix_len, list_all}
use Rattle.std.proofs.lemmas.List.{take-append-drop, nil_from_length}
use Rattle.std.proofs.lemmas.Bool.{eqb-true}
use Rattle.cli_words.specs.io.Data.{IsNext, is_blank, is_solid}

pub by_test : {P : Type 0} (b : Bool) → (b ≡ true → P) → (b ≡ false → P) → P
by_test true if_true unless = if_true refl
by_test false if_true unless = unless refl

-- what stands in front passes, and what follows begins with what does not
pub front_passes : (p : ℕ → Bool) (xs : List ℕ) → list_all p (take (prefix_len p xs) xs) ≡ true
front_passes p [] = refl
front_passes p (x ∷ xs) = by_test (p x)
    (λ (e : p x ≡ true). let more : 1 + prefix_len p xs ≡ suc (prefix_len p xs) = omega arith in rw (e, more, e) (front_passes p xs))
    (λ (e : p x ≡ false). rw e refl)

pub rest_stops : (p : ℕ → Bool) (xs : List ℕ) → prefix_len p (drop (prefix_len p xs) xs) ≡ 0
rest_stops p [] = refl
rest_stops p (x ∷ xs) = by_test (p x)
    (λ (e : p x ≡ true). let more : 1 + prefix_len p xs ≡ suc (prefix_len p xs) = omega arith in rw (e, more) (rest_stops p xs))
    (λ (e : p x ≡ false). rw (e, e) refl)

-- nothing follows what passes
pub all_pass : (p : ℕ → Bool) (xs : List ℕ) → true ≡ eqb (length (drop (prefix_len p xs) xs)) 0 → list_all p xs ≡ true
all_pass p xs e =
    let none : drop (prefix_len p xs) xs ≡ [] = nil_from_length (drop (prefix_len p xs) xs) (eqb-true (length (drop (prefix_len p xs) xs)) 0 (sym e)) in
    let all : take (prefix_len p xs) xs ≡ xs = sym (append-nil (take (prefix_len p xs) xs)) ∙ ap (λ (r : List ℕ). take (prefix_len p xs) xs ++ r) (sym none) ∙ take-append-drop (prefix_len p xs) xs in
    subst (λ (t : List ℕ). list_all p t ≡ true) all (front_passes p xs)

pub some_left : (rest : List ℕ) → false ≡ eqb (length rest) 0 → rest ≢ []
some_left [] e = λ h. absurd cc
some_left (x ∷ rest) e = λ h. absurd cc

-- where the one kind does not begin, the other does
begins_other : (p q : ℕ → Bool) → ((x : ℕ) → q x ≡ not (p x)) → (rest : List ℕ) → prefix_len p rest ≡ 0 → rest ≢ [] → take (prefix_len q rest) rest ≢ []
begins_other p q other [] h some = absurd (some refl)
begins_other p q other (x ∷ rest) h some = by_test (p x)
    (λ (e : p x ≡ true). let f : 1 + prefix_len p rest ≡ 0 = rw e at h in absurd (omega (arith, f)))
    (λ (e : p x ≡ false).
    let o : q x ≡ true = other x ∙ ap not e in
    let more : 1 + prefix_len q rest ≡ suc (prefix_len q rest) = omega arith in
    rw (o, more) (λ f. cc))

pub next_is : (text rest : List ℕ) → rest ≡ drop (prefix_len is_blank text) text → false ≡ eqb (length rest) 0 →
    IsNext text (take (prefix_len is_solid rest) rest) (drop (prefix_len is_solid rest) rest)
next_is text rest same some = record {
  blanks = take (prefix_len is_blank text) text;
  is_split = sym (take-append-drop (prefix_len is_blank text) text)
      ∙ ap (λ (r : List ℕ). take (prefix_len is_blank text) text ++ r) (sym same ∙ sym (take-append-drop (prefix_len is_solid rest) rest));
  are_blank = front_passes is_blank text;
  are_solid = front_passes is_solid rest;
  is_some = begins_other is_blank is_solid (λ x. refl) rest (subst (λ (r : List ℕ). prefix_len is_blank r ≡ 0) (sym same) (rest_stops is_blank text)) (some_left rest some);
  is_whole = rest_stops is_solid rest;
}
