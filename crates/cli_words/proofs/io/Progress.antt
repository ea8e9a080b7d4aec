-- What was read so far, and what one more word makes of it.
use Rattle.std.proofs.Common.{◌≡◌, ◌≢◌, ℕ, ◌+◌, ◌-◌, ◌≤◌, ◌<◌, ℤ, true, List, [], ◌∷◌, ◌++◌, length, take, refl, sym, ap, ◌∙◌, subst, append_assoc, length-append, arith}
use Rattle.std.proofs.Math.Seq.{take-append_seam}
use Rattle.std.specs.List.{list_all}
use Rattle.cli_words.specs.io.Data.{Begins, IsNext, IsNoNumber, IsNumber, IsNumbers, is_blank, line_after, column_after}

pub record Progress (text rest : List ℕ) (numbers : List ℤ) : Type 0 where
  pub front : List ℕ
  pub is_split : text ≡ front ++ rest
  pub begins : Begins text numbers rest

pub at_start : (text : List ℕ) → Progress text text []
at_start text = record { front = []; is_split = refl; begins = refl }

begins_longer : (text : List ℕ) (numbers : List ℤ) (rest word after : List ℕ) (z : ℤ) → Begins text numbers rest → IsNext rest word after → IsNumber word z → Begins text (numbers ++ z ∷ []) after
begins_longer text [] rest word after z h next is = (word, after, subst (λ (t : List ℕ). IsNext t word after) (sym h) next, is, refl)
begins_longer text (m ∷ numbers) rest word after z h next is = (h.0, h.1, h.2, h.3, begins_longer h.1 numbers rest word after z h.4 next is)

split_twice : (text front rest word after : List ℕ) → text ≡ front ++ rest → (next : IsNext rest word after) → text ≡ (front ++ next.blanks) ++ (word ++ after)
split_twice text front rest word after e next = e ∙ ap (λ (r : List ℕ). front ++ r) next.is_split ∙ sym (append_assoc front next.blanks (word ++ after))

pub one_more : (text rest : List ℕ) (numbers : List ℤ) (word after : List ℕ) (z : ℤ) → Progress text rest numbers → IsNext rest word after → IsNumber word z → Progress text after (numbers ++ z ∷ [])
one_more text rest numbers word after z so next is = record {
  front = (so.front ++ next.blanks) ++ word;
  is_split = split_twice text so.front rest word after so.is_split next ∙ sym (append_assoc (so.front ++ next.blanks) word after);
  begins = begins_longer text numbers rest word after z so.begins next is;
}

-- what is left of the text
length_left : (text rest : List ℕ) (numbers : List ℤ) (word after : List ℕ) → (so : Progress text rest numbers) → (next : IsNext rest word after) →
    length text ≡ length (so.front ++ next.blanks) + (length word + length after)
length_left text rest numbers word after so next =
    ap length (split_twice text so.front rest word after so.is_split next) ∙ length-append (so.front ++ next.blanks) (word ++ after)
    ∙ ap (λ (n : ℕ). length (so.front ++ next.blanks) + n) (length-append word after)

pub left_within : (text rest : List ℕ) (numbers : List ℤ) (word after : List ℕ) → Progress text rest numbers → IsNext rest word after → length word + length after ≤ length text
left_within text rest numbers word after so next =
    let whole = length_left text rest numbers word after so next in omega (arith, whole)

pub no_number : (text rest : List ℕ) (numbers : List ℤ) (word after : List ℕ) → Progress text rest numbers → IsNext rest word after → ((z : ℤ) → IsNumber word z → ⊥) →
    IsNoNumber text (line_after (take (length text - (length word + length after)) text)) (column_after (take (length text - (length word + length after)) text))
no_number text rest numbers word after so next none =
    let before : List ℕ = so.front ++ next.blanks in
    let split : text ≡ before ++ (word ++ after) = split_twice text so.front rest word after so.is_split next in
    let whole = length_left text rest numbers word after so next in
    let long : length text - (length word + length after) ≡ length before = omega (arith, whole) in
    let same : take (length text - (length word + length after)) text ≡ before =
    ap (λ (n : ℕ). take n text) long ∙ ap (take (length before)) split ∙ take-append_seam before (word ++ after) in
    record {
      numbers = numbers;
      rest = rest;
      begins = so.begins;
      word = word;
      after = after;
      is_next = next;
      is_none = none;
      before = before;
      is_split = split;
      is_line = ap line_after same;
      is_column = ap column_after same;
    }

some_length : (word : List ℕ) → word ≢ [] → 0 < length word
some_length [] h = absurd (h refl)
some_length (c ∷ word) h = omega arith

pub shorter : (rest word after : List ℕ) → IsNext rest word after → length after < length rest
shorter rest word after next =
    let whole : length rest ≡ length next.blanks + (length word + length after) =
    ap length next.is_split ∙ length-append next.blanks (word ++ after) ∙ ap (λ (n : ℕ). length next.blanks + n) (length-append word after) in
    let some = some_length word next.is_some in
    omega (arith, whole, some)

pub all_read : (text rest : List ℕ) (numbers : List ℤ) → Progress text rest numbers → list_all is_blank rest ≡ true → IsNumbers text numbers
all_read text rest numbers so blank = record { rest = rest; begins = so.begins; is_all = blank }
