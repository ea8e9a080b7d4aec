-- A page of a row.
use Rattle.std.proofs.Common.{◌≡◌, ◌<◌, ◌≤◌, ◌+◌, ◌-◌, ◌*◌, ◌/◌, ◌∙◌, ℕ, ℤ, List, length, take, drop, sym, ap, arith}
use Rattle.std.proofs.lemmas.List.{length-drop, length-take, take_all}
use Rattle.strand_pages.specs.Logs.{page_from}

-- the last page, which may have fewer cells
pub last_page : (row : List ℤ) (n : ℕ) → n < length row → length row - n / 64 * 64 ≤ 64 → take (length row - n / 64 * 64) (drop (n / 64 * 64) row) ≡ page_from row n
last_page row n there few =
    let long = length-drop (n / 64 * 64) row in
    take_all (length row - n / 64 * 64) (drop (n / 64 * 64) row) (omega (arith, long)) ∙ sym (take_all 64 (drop (n / 64 * 64) row) (omega (arith, long, few)))

pub whole_page : (row : List ℤ) (index : ℕ) → take (index / 64 * 64 + 64 - index / 64 * 64) (drop (index / 64 * 64) row) ≡ page_from row index
whole_page row index =
    let same : index / 64 * 64 + 64 - index / 64 * 64 ≡ 64 = omega arith in
    ap (λ (n : ℕ). take n (drop (index / 64 * 64) row)) same

pub taken_few : (n : ℕ) (xs : List ℤ) → n ≤ 64 → length (take n xs) ≤ 64
taken_few n xs few = let long = length-take n xs in omega (arith, long, few)
