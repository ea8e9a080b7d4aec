-- What is printed of numbers is read as these numbers.
use Rattle.std.proofs.Common.{◌≡◌, ◌≢◌, ℕ, suc, ◌^◌, ◌<◌, ℤ, pos, negsuc, neg_ℤ, true, false, eqb, List, [], ◌∷◌, ◌++◌, refl, sym, ap, ◌∙◌, subst, append_assoc, append-nil, FitsSigned, w64, arith}
use Rattle.std.specs.Prelude.{All, flat_map}
use Rattle.std.specs.List.{list_all}
use Rattle.std.specs.Fmt.{decimal, signed_decimal}
use Rattle.std.specs.Str.Parse.{AllDigits, IsNumeral, digits_value, signed_digits_value, without_leading_sign}
use Rattle.std.proofs.lemmas.Bool.Decides.{nat_tests}
use Rattle.std.proofs.lemmas.Fmt.{decimal_is_IsNumeral}
use Rattle.std.proofs.lemmas.Str.Parse.{digit_from_value}
use Rattle.cli_words.specs.io.Data.{IsNext, IsNumber, IsNumbers, ReadsBack, is_blank, is_solid, line_of}

-- digits have no sign
record Bare (ds : List ℕ) : Type 0 where
  pub same : without_leading_sign ds ≡ ds
  pub value : signed_digits_value 10 ds ≡ pos (digits_value 10 ds)

bare : (ds : List ℕ) → IsNumeral 10 ds → Bare ds
bare [] h = absurd (omega (arith, h.0))
bare (c ∷ cs) h =
    let digit = digit_from_value c h.1.0 in
    let minus : eqb c 45 ≡ false = grind (arith, nat_tests) in
    let plus : eqb c 43 ≡ false = grind (arith, nat_tests) in
    record { same = rw (minus, plus) refl; value = rw (minus, plus) refl }

digits_solid : (ds : List ℕ) → AllDigits 10 ds → list_all is_solid ds ≡ true
digits_solid [] h = refl
digits_solid (c ∷ cs) h =
    let digit = digit_from_value c h.0 in
    let space : eqb c 32 ≡ false = grind (arith, nat_tests) in
    let tab : eqb c 9 ≡ false = grind (arith, nat_tests) in
    let lf : eqb c 10 ≡ false = grind (arith, nat_tests) in
    let cr : eqb c 13 ≡ false = grind (arith, nat_tests) in
    rw (space, tab, lf, cr) (digits_solid cs h.1)

some_digits : (ds : List ℕ) → IsNumeral 10 ds → ds ≢ []
some_digits [] h = absurd (omega (arith, h.0))
some_digits (c ∷ cs) h = λ e. cc

number_printed : (z : ℤ) → FitsSigned w64 z → IsNumber (signed_decimal z) z
number_printed (pos n) fits =
    let small : n < 2 ^ 64 = omega (arith, fits) in
    let d = decimal_is_IsNumeral n small in
    let b = bare (decimal n) d.0 in
    record { is_numeral = subst (IsNumeral 10) (sym b.same) d.0; value = b.value ∙ ap pos d.1; fits = fits }
number_printed (negsuc n) fits =
    let small : suc n < 2 ^ 64 = omega (arith, fits) in
    let d = decimal_is_IsNumeral (suc n) small in
    record { is_numeral = d.0; value = ap (λ (k : ℕ). neg_ℤ (pos k)) d.1; fits = fits }

word_solid : (z : ℤ) → FitsSigned w64 z → list_all is_solid (signed_decimal z) ≡ true
word_solid (pos n) fits =
    let small : n < 2 ^ 64 = omega (arith, fits) in
    digits_solid (decimal n) (decimal_is_IsNumeral n small).0.1
word_solid (negsuc n) fits =
    let small : suc n < 2 ^ 64 = omega (arith, fits) in
    digits_solid (decimal (suc n)) (decimal_is_IsNumeral (suc n) small).0.1

word_some : (z : ℤ) → FitsSigned w64 z → signed_decimal z ≢ []
word_some (pos n) fits =
    let small : n < 2 ^ 64 = omega (arith, fits) in
    some_digits (decimal n) (decimal_is_IsNumeral n small).0
word_some (negsuc n) fits = λ e. cc

lines_read : (front : List ℕ) → list_all is_blank front ≡ true → (numbers : List ℤ) → All (FitsSigned w64) numbers → IsNumbers (front ++ flat_map line_of numbers) numbers
lines_read front blank [] h = record { rest = front; begins = append-nil front; is_all = blank }
lines_read front blank (z ∷ numbers) h =
    let fits : FitsSigned w64 z = h 0 z (omega arith) in
    let later : All (FitsSigned w64) numbers = λ k d within. h (suc k) d (omega (arith, within)) in
    let more = lines_read (10 ∷ []) refl numbers later in
    let next : IsNext (front ++ flat_map line_of (z ∷ numbers)) (signed_decimal z) (10 ∷ flat_map line_of numbers) = record {
      blanks = front;
      is_split = ap (λ (t : List ℕ). front ++ t) (append_assoc (signed_decimal z) (10 ∷ []) (flat_map line_of numbers));
      are_blank = blank;
      are_solid = word_solid z fits;
      is_some = word_some z fits;
      is_whole = refl;
    } in
    record {
      rest = more.rest;
      begins = (signed_decimal z, 10 ∷ flat_map line_of numbers, next, number_printed z fits, more.begins);
      is_all = more.is_all;
    }

pub reads_back : ReadsBack
reads_back numbers fits = lines_read [] refl numbers fits
