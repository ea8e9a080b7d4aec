-- The first line of a text.
use Rattle.std.proofs.Common.{◌≡◌, ℕ, suc, ◌+◌, ◌-◌, ◌<◌, ◌≤◌, min, leb, true, false, eqb, List, [], ◌∷◌, length, take, drop, refl, sym, ap, ◌∙◌, arith}
use Rattle.std.proofs.lemmas.Bool.{leb-true, leb-false}
use Rattle.std.proofs.lemmas.List.{take_rest, take_all, drop_all}
use Rattle.std.specs.List.{prefix_len}
use Rattle.ir_reader.specs.Lines.{onto_first, lines_of, is_inner}
use Rattle.ir_lex.proofs.Names.{by_test}

-- it ends with the first line end, or with the text
pub first_line : (t : List ℕ) → 0 < length t → lines_of t ≡ take (prefix_len is_inner t + 1) t ∷ lines_of (drop (prefix_len is_inner t + 1) t)
first_line [] some = absurd (omega arith)
first_line (b ∷ []) some = by_test (eqb b 10) (λ (h : eqb b 10 ≡ true). rw h refl) (λ (h : eqb b 10 ≡ false). rw h refl)
first_line (b ∷ c ∷ bs) some = by_test (eqb b 10) (λ (h : eqb b 10 ≡ true). rw h refl) (λ (h : eqb b 10 ≡ false).
    let n : ℕ = prefix_len is_inner (c ∷ bs) in
    let later = first_line (c ∷ bs) (omega arith) in
    let one : lines_of (b ∷ c ∷ bs) ≡ onto_first b (lines_of (c ∷ bs)) = rw h refl in
    let len : prefix_len is_inner (b ∷ c ∷ bs) ≡ suc n = rw h (omega arith) in
    let more : suc n + 1 ≡ suc (n + 1) = omega arith in
    one ∙ ap (onto_first b) later
    ∙ ap (λ (k : ℕ). take k (b ∷ c ∷ bs) ∷ lines_of (drop k (b ∷ c ∷ bs))) (sym more)
    ∙ ap (λ (k : ℕ). take (k + 1) (b ∷ c ∷ bs) ∷ lines_of (drop (k + 1) (b ∷ c ∷ bs))) (sym len))

same_cut : (t : List ℕ) (k e : ℕ) → e ≡ min (length t) k → (take e t ≡ take k t) × (drop e t ≡ drop k t)
same_cut t k e h = by_test (leb k (length t)) (λ (short : leb k (length t) ≡ true).
    let same : e ≡ k = omega (arith, leb-true k (length t) short) in
    (ap (λ (n : ℕ). take n t) same, ap (λ (n : ℕ). drop n t) same)) (λ (long : leb k (length t) ≡ false).
    let past : length t < k = leb-false k (length t) long in
    let all : length t ≤ e = omega arith in
    (take_all e t all ∙ sym (take_all k t (omega arith)), drop_all e t all ∙ sym (drop_all k t (omega arith))))

pub cut : (t : List ℕ) (e : ℕ) → 0 < length t → e ≡ min (length t) (prefix_len is_inner t + 1) → lines_of t ≡ take e t ∷ lines_of (take (length t - e) (drop e t))
cut t e some h =
    let same = same_cut t (prefix_len is_inner t + 1) e h in
    first_line t some ∙ ap (λ (line : List ℕ). line ∷ lines_of (drop (prefix_len is_inner t + 1) t)) (sym same.0)
    ∙ ap (λ (rest : List ℕ). take e t ∷ lines_of rest) (sym same.1 ∙ sym (take_rest t e))
