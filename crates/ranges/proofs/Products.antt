-- Products of coefficients and words, as the code reads them, and sums with such factors.
use Rattle.std.proofs.Common.{◌≡◌, ◌<◌, ◌≤◌, ◌^◌, ◌*◌, ℤ, pos, negsuc, ◌*ℤ◌, List, [], ◌∷◌, ◌++◌, append_assoc, arith, to_z, of_z, FitsSigned, unsigned_abs}
use Rattle.std.specs.Int.{w64, w128}
use Rattle.std.proofs.Math.Nat.{mul-le-mul}
use Rattle.std.proofs.lemmas.Int.{ints, unsigned_abs-mul, to_z-of_z}
use Rattle.program.specs.declared.instruction.Operand.{Operand}
use Rattle.ranges_owed.specs.declared.sum.Sum.{Sum}
use Rattle.ranges_owed.specs.Sums.{two}
use Rattle.ranges.specs.Learned.{is_multiple}

-- a number, read
abbrev read : ℤ → ℤ
read z = to_z w128 (of_z w128 z)

-- a coefficient times a word
product_small : (x y : ℤ) → unsigned_abs x < 2 ^ 24 → FitsSigned w64 y → unsigned_abs (x *ℤ y) ≤ 2 ^ 87
product_small x y small fits =
    let small_x : unsigned_abs x ≤ 2 ^ 24 = omega (arith, small) in
    let small_y : unsigned_abs y ≤ 2 ^ 63 = omega (arith, ints, fits) in
    let most : unsigned_abs x * unsigned_abs y ≤ 2 ^ 24 * 2 ^ 63 = mul-le-mul small_x small_y in
    omega (arith, unsigned_abs-mul x y, most)

small_fits : (z : ℤ) → unsigned_abs z ≤ 2 ^ 87 → FitsSigned w128 z
small_fits z small = omega (arith, ints, small)

pub product_fits : (a b x y : ℤ) → unsigned_abs x < 2 ^ 24 → FitsSigned w64 x → FitsSigned w64 y → a ≡ to_z w64 (of_z w64 x) → b ≡ to_z w64 (of_z w64 y) → FitsSigned w128 (read a *ℤ read b)
product_fits a b x y small fits_x fits_y is_a is_b =
    let wide_x : FitsSigned w128 x = omega (arith, ints, fits_x) in
    let wide_y : FitsSigned w128 y = omega (arith, ints, fits_y) in
    rw (is_a, is_b, to_z-of_z w64 x fits_x, to_z-of_z w64 y fits_y, to_z-of_z w128 x wide_x, to_z-of_z w128 y wide_y) (small_fits (x *ℤ y) (product_small x y small fits_y))

pub product_read : (a b x y : ℤ) → unsigned_abs x < 2 ^ 24 → FitsSigned w64 x → FitsSigned w64 y → a ≡ to_z w64 (of_z w64 x) → b ≡ to_z w64 (of_z w64 y) → read (read a *ℤ read b) ≡ x *ℤ y
product_read a b x y small fits_x fits_y is_a is_b =
    let wide_x : FitsSigned w128 x = omega (arith, ints, fits_x) in
    let wide_y : FitsSigned w128 y = omega (arith, ints, fits_y) in
    let wide = small_fits (x *ℤ y) (product_small x y small fits_y) in
    rw (is_a, is_b, to_z-of_z w64 x fits_x, to_z-of_z w64 y fits_y, to_z-of_z w128 x wide_x, to_z-of_z w128 y wide_y) (to_z-of_z w128 (x *ℤ y) wide)

pub read_small : (a b x y : ℤ) → unsigned_abs x < 2 ^ 24 → FitsSigned w64 x → FitsSigned w64 y → a ≡ to_z w64 (of_z w64 x) → b ≡ to_z w64 (of_z w64 y) → unsigned_abs (read (read a *ℤ read b)) < 2 ^ 125
read_small a b x y small fits_x fits_y is_a is_b = rw (product_read a b x y small fits_x fits_y is_a is_b) (omega (arith, product_small x y small fits_y))

-- two sums that are pushed say that d = factor * x
pub multiple_pushed : (old between new : List Sum) (first second : Sum) (d x : Operand) (factor opposite : ℤ) → FitsSigned w64 factor → FitsSigned w64 opposite → opposite ≡ negsuc 0 *ℤ to_z w64 (of_z w64 factor) →
    first ≡ two (pos 0) (pos 1) d (to_z w64 (of_z w64 opposite)) x → second ≡ two (pos 0) (negsuc 0) d (to_z w64 (of_z w64 factor)) x → between ≡ old ++ first ∷ [] → new ≡ between ++ second ∷ [] → new ≡ old ++ is_multiple d factor x
multiple_pushed old between new first second d x factor opposite fits fits_opposite is_opposite is_first is_second is_between is_new =
    let first_plain = rw (to_z-of_z w64 opposite fits_opposite, is_opposite, to_z-of_z w64 factor fits) at is_first in
    let second_plain = rw (to_z-of_z w64 factor fits) at is_second in
    rw (is_new, is_between, first_plain, second_plain) (append_assoc old _ _)
