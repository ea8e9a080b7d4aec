-- Words of a number, and products of words.
use Rattle.std.proofs.Common.{◌≡◌, ◌*◌, ◌≤◌, ◌^◌, ℤ, pos, negsuc, ◌+ℤ◌, ◌*ℤ◌, arith, unsigned_abs, FitsSigned, to_z, of_z}
use Rattle.std.specs.Int.{w64, w128, int_div_euclid, int_rem_euclid}
use Rattle.std.proofs.Math.Nat.{mul-le-mul}
use Rattle.std.proofs.lemmas.Int.{ints, unsigned_abs-mul, to_z-of_z}

-- a number is its words
pub words_are : (z : ℤ) → (int_div_euclid z (pos (2 ^ 64)) *ℤ pos (2 ^ 64)) +ℤ int_rem_euclid z (pos (2 ^ 64)) ≡ z
words_are (pos n) = omega (arith, ints)
words_are (negsuc n) = omega (arith, ints)

pub word_small : (z : ℤ) → FitsSigned w128 z → unsigned_abs (int_div_euclid z (pos (2 ^ 64))) ≤ 2 ^ 63
word_small (pos n) f = omega (arith, f.sfits)
word_small (negsuc n) f = omega (arith, f.sfits)

pub product_small : (x y : ℤ) → FitsSigned w64 x → FitsSigned w64 y → unsigned_abs (x *ℤ y) ≤ 2 ^ 126
product_small x y fits_x fits_y =
    let small_x : unsigned_abs x ≤ 2 ^ 63 = omega (arith, ints, fits_x) in
    let small_y : unsigned_abs y ≤ 2 ^ 63 = omega (arith, ints, fits_y) in
    let most : unsigned_abs x * unsigned_abs y ≤ 2 ^ 63 * 2 ^ 63 = mul-le-mul small_x small_y in
    omega (arith, unsigned_abs-mul x y, most)

-- a number of at most half the width's size fits
pub product_fits : (z : ℤ) → unsigned_abs z ≤ 2 ^ 126 → FitsSigned w128 z
product_fits z small = omega (arith, ints, small)

-- a word, read as a number of 128 bits
pub is_word : (a x : ℤ) → FitsSigned w64 x → a ≡ to_z w64 (of_z w64 x) → to_z w128 (of_z w128 a) ≡ x
is_word a x fits is =
    let wide : FitsSigned w128 x = omega (arith, ints, fits) in
    rw (is, to_z-of_z w64 x fits) (to_z-of_z w128 x wide)
