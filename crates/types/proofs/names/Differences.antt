-- Differences of two numbers, computed in a wider type.
use Rattle.std.proofs.Common.{◌≡◌, ℤ, ◌-ℤ◌, Bool, true, false, ◌&&◌, FitsSigned, sym, ap, arith, rules}
use Rattle.std.specs.Prelude.{int_le}
use Rattle.std.specs.Int.{w64, w128, cast_signed, cast_unsigned}
use Rattle.std.proofs.lemmas.Int.{to_z-of_z}

-- a number that is cast from 64 bits to 128
abbrev pub widened : ℤ → ℤ
widened z = cast_signed w128 (cast_unsigned w128 (cast_signed w64 (cast_unsigned w64 z)))

wide : (z : ℤ) → FitsSigned w64 z → widened z ≡ z
wide z f = rw (to_z-of_z w64 z f) (to_z-of_z w128 z (record { sfits = omega (arith, f.sfits) }))

pub difference_fits : (a b : ℤ) → FitsSigned w64 a → FitsSigned w64 b → FitsSigned w128 (widened a -ℤ widened b)
difference_fits a b f g =
    let fits : FitsSigned w128 (a -ℤ b) = search rules in
    rw (wide a f, wide b g) fits

difference_is : (a b : ℤ) → FitsSigned w64 a → FitsSigned w64 b → cast_signed w128 (cast_unsigned w128 (widened a -ℤ widened b)) ≡ a -ℤ b
difference_is a b f g =
    let fits : FitsSigned w128 (a -ℤ b) = search rules in
    rw (wide a f, wide b g) (to_z-of_z w128 (a -ℤ b) fits)

-- where the first test holds the second says whether both hold, and where it fails both do not
second_says : (low high d z : ℤ) → d ≡ z → int_le low d ≡ true → int_le d high ≡ (int_le low z && int_le z high)
second_says low high d z e t = rw (← e) (ap (λ (b : Bool). b && int_le d high) (sym t))

first_says : (low high d z : ℤ) → d ≡ z → int_le low d ≡ false → int_le low d ≡ (int_le low z && int_le z high)
first_says low high d z e t = rw (← e, t)

pub within_second : (low high a b : ℤ) → FitsSigned w64 a → FitsSigned w64 b → int_le low (cast_signed w128 (cast_unsigned w128 (widened a -ℤ widened b))) ≡ true
    → int_le (cast_signed w128 (cast_unsigned w128 (widened a -ℤ widened b))) high ≡ (int_le low (a -ℤ b) && int_le (a -ℤ b) high)
within_second low high a b f g t = second_says low high _ (a -ℤ b) (difference_is a b f g) t

pub within_first : (low high a b : ℤ) → FitsSigned w64 a → FitsSigned w64 b → int_le low (cast_signed w128 (cast_unsigned w128 (widened a -ℤ widened b))) ≡ false
    → int_le low (cast_signed w128 (cast_unsigned w128 (widened a -ℤ widened b))) ≡ (int_le low (a -ℤ b) && int_le (a -ℤ b) high)
within_first low high a b f g t = first_says low high _ (a -ℤ b) (difference_is a b f g) t
