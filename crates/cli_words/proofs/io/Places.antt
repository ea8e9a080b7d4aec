-- Lines and columns, a byte further.
use Rattle.std.proofs.Common.{◌≡◌, ℕ, ◌+◌, ◌<◌, true, false, eqb, List, [], ◌∷◌, length, take, get_or, reverse, refl, sym, ap, ◌∙◌, arith}
use Rattle.std.proofs.lemmas.List.{take_more, reverse-append}
use Rattle.std.proofs.lemmas.List.Filters.{length-filter_more}
use Rattle.cli_words.specs.io.Data.{is_end, line_after, column_after}

pub line_ends : (xs : List ℕ) (i : ℕ) → i < length xs → true ≡ eqb (get_or xs i 0) 10 → line_after (take (i + 1) xs) ≡ line_after (take i xs) + 1
line_ends xs i within e =
    let more = length-filter_more is_end xs i 0 within in
    rw (more, sym e) (omega arith)

pub line_goes_on : (xs : List ℕ) (i : ℕ) → i < length xs → false ≡ eqb (get_or xs i 0) 10 → line_after (take (i + 1) xs) ≡ line_after (take i xs)
line_goes_on xs i within e =
    let more = length-filter_more is_end xs i 0 within in
    rw (more, sym e) (omega arith)

last_first : (xs : List ℕ) (i : ℕ) → i < length xs → reverse (take (i + 1) xs) ≡ get_or xs i 0 ∷ reverse (take i xs)
last_first xs i within = ap reverse (take_more xs i 0 within) ∙ reverse-append (take i xs) (get_or xs i 0 ∷ [])

pub column_begins : (xs : List ℕ) (i : ℕ) → i < length xs → true ≡ eqb (get_or xs i 0) 10 → column_after (take (i + 1) xs) ≡ 1
column_begins xs i within e = rw (last_first xs i within, sym e) refl

pub column_goes_on : (xs : List ℕ) (i : ℕ) → i < length xs → false ≡ eqb (get_or xs i 0) 10 → column_after (take (i + 1) xs) ≡ column_after (take i xs) + 1
column_goes_on xs i within e = rw (last_first xs i within, sym e) (omega arith)
