-- What arithmetic gives of numbers of 32 bits has 32 bits.
use Rattle.std.proofs.Common.{◌≡◌, ◌≢◌, ℕ, zero, suc, ◌+◌, ◌-◌, ◌*◌, ◌/◌, ◌%◌, ◌^◌, ◌≤◌, ◌<◌, ℤ, pos, negsuc, Bool, true, false, cond, refl, subst, arith}
use Rattle.std.specs.Prelude.{◌+ℤ◌, ◌-ℤ◌, ◌*ℤ◌, neg_ℤ, int_le, int_div, FitsSigned}
use Rattle.std.specs.Int.{w32}
use Rattle.std.proofs.Math.Nat.{div-add-mod, div-le_self, mul-le-mul_right}
use Rattle.std.proofs.lemmas.Bool.{and_parts, and_from, leb-true, le-leb}
use Rattle.std.proofs.lemmas.Int.{SFits-int_wrap}
use lib.Signed.{mag, mag_rem, mag_shr}
use borrow.Author.Gap.{read_sfits}
use Rattle.semantics.specs.Arithmetic.{Trap, Undefined, BadDivisor, Gives, Traps, fits, signed, unsigned, is_amount, divides_signed, divides_unsigned, binary, converts}
use Rattle.syntax.specs.declared.operator.Width.{Width}
use Rattle.syntax.specs.declared.operator.Width.TheVariants.{Bits64, Bits32}
use Rattle.syntax.specs.declared.operator.BinaryOperator.{BinaryOperator}
use Rattle.syntax.specs.declared.operator.BinaryOperator.TheVariants.{Add, Subtract, Multiply, AddNoWrap, SubtractNoWrap, MultiplyNoWrap, SignedDivide, UnsignedDivide, SignedRemainder, UnsignedRemainder, ShiftLeft, LogicalShiftRight, ArithmeticShiftRight, And, Or, ExclusiveOr}
use Rattle.syntax.specs.declared.operator.Conversion.TheVariants.{Truncate}
use Rattle.laws_schedule.specs.kinds.Holding.{is_of_width}

-- ---- as a test

pub fits_signed : (z : ℤ) → fits Bits32 z ≡ true → FitsSigned w32 z
fits_signed (pos n) e = let l : n ≤ 2147483647 = leb-true n 2147483647 e in record { sfits = omega (arith, l) }
fits_signed (negsuc n) e = let l : n ≤ 2147483647 = leb-true n 2147483647 (and_parts (int_le (negsuc 2147483647) (negsuc n)) true e).0 in record { sfits = omega (arith, l) }

pub signed_fits : (z : ℤ) → FitsSigned w32 z → fits Bits32 z ≡ true
signed_fits (pos n) f = le-leb n 2147483647 (omega (arith, f.sfits))
signed_fits (negsuc n) f = and_from (int_le (negsuc 2147483647) (negsuc n)) true (le-leb n 2147483647 (omega (arith, f.sfits))) refl

-- ---- quotients

mag_neg : (n : ℕ) → mag (neg_ℤ (pos n)) ≡ n - 1
mag_neg zero = refl
mag_neg (suc n) = omega arith

-- the least number is not divided by -1
not_least : (a : ℕ) → divides_signed Bits32 (negsuc a) (negsuc 0) ≡ true → a ≢ 2147483647
not_least a d e = let h : divides_signed Bits32 (negsuc 2147483647) (negsuc 0) ≡ true = subst (λ (n : ℕ). divides_signed Bits32 (negsuc n) (negsuc 0) ≡ true) e d in cc

halved : (a b : ℕ) → a < 2147483648 → suc a / suc (suc b) < 2147483648
halved a b l =
    let q : ℕ = suc a / suc (suc b) in
    let whole : suc (suc b) * q + suc a % suc (suc b) ≡ suc a = div-add-mod (suc a) (suc (suc b)) in
    let twice : 2 * q ≤ suc (suc b) * q = mul-le-mul_right q (omega arith) in
    omega (arith, l, whole, twice)

quotient_fits : (x y : ℤ) → FitsSigned w32 x → divides_signed Bits32 x y ≡ true → FitsSigned w32 (int_div x y)
quotient_fits (pos a) (pos b) f d = record { sfits = omega (arith, div-le_self a b, f.sfits) }
quotient_fits (pos a) (negsuc b) f d = record { sfits = omega (arith, mag_neg (a / suc b), div-le_self a (suc b), f.sfits) }
quotient_fits (negsuc a) (pos b) f d = record { sfits = omega (arith, mag_neg (suc a / b), div-le_self (suc a) b, f.sfits) }
quotient_fits (negsuc a) (negsuc zero) f d = record { sfits = omega (arith, div-le_self (suc a) 1, f.sfits, not_least a d) }
quotient_fits (negsuc a) (negsuc (suc b)) f d = record { sfits = halved a b (omega (arith, f.sfits)) }

-- ---- operators

given : (s z : ℤ) → Gives s ≡ Gives z → s ≡ z
given s z e = cc

chosen : (t : Trap) (b : Bool) (s z : ℤ) → cond b (Gives s) (Traps t) ≡ Gives z → (b ≡ true) × (s ≡ z)
chosen t true s z e = (refl, cc)
chosen t false s z e = absurd (cc)

read : (n : ℕ) (z : ℤ) → signed Bits32 n ≡ z → FitsSigned w32 z
read n z e = subst (λ (x : ℤ). FitsSigned w32 x) e (read_sfits w32 n)

wraps : (s z : ℤ) → Gives (converts Truncate s) ≡ Gives z → FitsSigned w32 z
wraps s z e = subst (λ (x : ℤ). FitsSigned w32 x) (given (converts Truncate s) z e) (SFits-int_wrap w32 s)

within : (s z : ℤ) → cond (fits Bits32 s) (Gives s) (Traps Undefined) ≡ Gives z → FitsSigned w32 z
within s z e = let h = chosen Undefined (fits Bits32 s) s z e in subst (λ (x : ℤ). FitsSigned w32 x) h.1 (fits_signed s h.0)

binary_fits : (op : BinaryOperator) (x y z : ℤ) → FitsSigned w32 x → binary op Bits32 x y ≡ Gives z → FitsSigned w32 z
binary_fits Add x y z f e = wraps _ z e
binary_fits Subtract x y z f e = wraps _ z e
binary_fits Multiply x y z f e = wraps _ z e
binary_fits AddNoWrap x y z f e = within (x +ℤ y) z e
binary_fits SubtractNoWrap x y z f e = within (x -ℤ y) z e
binary_fits MultiplyNoWrap x y z f e = within (x *ℤ y) z e
binary_fits SignedDivide x y z f e = let h = chosen BadDivisor (divides_signed Bits32 x y) _ z e in subst (λ (n : ℤ). FitsSigned w32 n) h.1 (quotient_fits x y f h.0)
binary_fits UnsignedDivide x y z f e = read (unsigned Bits32 x / unsigned Bits32 y) z (chosen BadDivisor (divides_unsigned y) _ z e).1
binary_fits SignedRemainder x y z f e =
    let h = chosen BadDivisor (divides_signed Bits32 x y) _ z e in
    subst (λ (n : ℤ). FitsSigned w32 n) h.1 (record { sfits = omega (arith, mag_rem x y, f.sfits) })
binary_fits UnsignedRemainder x y z f e = read (unsigned Bits32 x % unsigned Bits32 y) z (chosen BadDivisor (divides_unsigned y) _ z e).1
binary_fits ShiftLeft x y z f e = read _ z (chosen Undefined (is_amount Bits32 y) _ z e).1
binary_fits LogicalShiftRight x y z f e = read _ z (chosen Undefined (is_amount Bits32 y) _ z e).1
binary_fits ArithmeticShiftRight x y z f e =
    let h = chosen Undefined (is_amount Bits32 y) _ z e in
    subst (λ (n : ℤ). FitsSigned w32 n) h.1 (record { sfits = omega (arith, mag_shr x (2 ^ unsigned Bits32 y), f.sfits) })
binary_fits And x y z f e = read _ z (given _ z e)
binary_fits Or x y z f e = read _ z (given _ z e)
binary_fits ExclusiveOr x y z f e = read _ z (given _ z e)

-- what the operator gives is of the width of its first operand
pub given_width : (op : BinaryOperator) (w : Width) (x y z : ℤ) → is_of_width w x ≡ true → binary op w x y ≡ Gives z → is_of_width w z ≡ true
given_width op Bits64 x y z h e = refl
given_width op Bits32 x y z h e = signed_fits z (binary_fits op x y z (fits_signed x h) e)

pub truncated_width : (x : ℤ) → is_of_width Bits32 (converts Truncate x) ≡ true
truncated_width x = signed_fits (converts Truncate x) (SFits-int_wrap w32 x)
