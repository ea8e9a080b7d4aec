-- What arithmetic makes known is true.
use Rattle.std.proofs.Common.{◌≡◌, ◌∙◌, ℕ, ◌+◌, ◌*◌, ◌/◌, ◌%◌, ◌<◌, ℤ, pos, negsuc, ◌+ℤ◌, ◌-ℤ◌, ◌*ℤ◌, ◌≤ℤ◌, Bool, true, false, cond, List, [], ◌∷◌, Option, Some, None, refl, sym, ap, subst, arith, FitsSigned, ◌&&◌}
use Rattle.std.specs.Prelude.{int_le, int_div, int_rem, if◌then◌else◌}
use Rattle.std.specs.Int.{w32, cast_unsigned, int_wrap, int_bit_and}
use Rattle.std.specs.Int.RustNames.{bit_and}
use Rattle.std.specs.List.{All}
use Rattle.std.proofs.Math.IntN.{*ℤ_comm}
use Rattle.std.proofs.Math.Nat.{div-add-mod, mod-lt}
use Rattle.std.proofs.lemmas.Bool.{and_parts}
use Rattle.std.proofs.lemmas.Int.{ints, SFits-int_wrap, int_wrap_fits, to_z_pos}
use Rattle.std.proofs.lemmas.Nat.{and_le_r}
use Rattle.std.proofs.lemmas.List.Elements.{All-nil, All-cons, All-append}
use lib.Signed.{le_z_yes}
use Rattle.syntax.specs.declared.operator.Width.{Width}
use Rattle.syntax.specs.declared.operator.Width.TheVariants.{Bits64, Bits32}
use Rattle.syntax.specs.declared.operator.BinaryOperator.{BinaryOperator}
use Rattle.syntax.specs.declared.operator.BinaryOperator.TheVariants.{Add, Subtract, Multiply, AddNoWrap, SubtractNoWrap, MultiplyNoWrap, SignedDivide, UnsignedDivide, SignedRemainder, UnsignedRemainder, ShiftLeft, LogicalShiftRight, ArithmeticShiftRight, And, Or, ExclusiveOr}
use Rattle.syntax.specs.declared.operator.Conversion.TheVariants.{Truncate, SignExtend, ZeroExtend}
use Rattle.semantics.specs.Arithmetic.{Gives, Traps, Undefined, BadDivisor, word, least, greatest, fits, divides_signed, binary}
use Rattle.linear.specs.declared.form.Fact.{Fact}
use Rattle.linear_shown.specs.Shown.{AllHold}
use Rattle.linear.proofs.Values.{associates}
use Rattle.program.specs.declared.instruction.Operand.{Operand}
use Rattle.program.specs.declared.instruction.Operand.TheVariants.{Number, Register}
use Rattle.ranges.specs.ranges_owed.declared.sum.Part.{Part}
use Rattle.ranges.specs.ranges_owed.declared.sum.Sum.{Sum}
use Rattle.ranges.specs.ranges_owed.Sums.{one, two, three}
use Rattle.ranges.specs.Sums.{shows}
use Rattle.ranges.specs.Truth.{operand_value, IsTrueAt}
use Rattle.ranges.specs.ranges_owed.Scales.{is_scale, scale_number, scale_left, scale_right, scale_of}
use Rattle.ranges.specs.Learned.{is_multiple, is_product, is_between, is_quotient, is_divisor, quotient_by, remainder_by, masked_by, binary_sums, is_32_bits, conversion_sums}
use Rattle.ranges.proofs.Truth.{shown_true}
use Rattle.laws_phases.specs.facts.Owing.{FitsText}
use Rattle.linear_shown.proofs.Tested.{T_from_true}

-- ---- tests and numbers

pub ordered : (x y : ℤ) → int_le x y ≡ true → x ≤ℤ y
ordered x y e = le_z_yes (T_from_true (int_le x y) e)

pub natural : (x : ℤ) → pos 0 ≤ℤ x → (n : ℕ) × (x ≡ pos n)
natural (pos n) h = (n, refl)
natural (negsuc n) h = absurd (h.le)

pub fit_bounds : (w : Width) (x : ℤ) → fits w x ≡ true → (least w ≤ℤ x) × (x ≤ℤ greatest w)
fit_bounds w x e = let h = and_parts (int_le (least w) x) (int_le x (greatest w)) e in (ordered (least w) x h.0, ordered x (greatest w) h.1)

unwrapped : (s z : ℤ) (b : Bool) → cond b (Gives s) (Traps Undefined) ≡ Gives z → s ≡ z
unwrapped s z true e = cc
unwrapped s z false e = absurd (cc)

divided : (s z : ℤ) (b : Bool) → cond b (Gives s) (Traps BadDivisor) ≡ Gives z → s ≡ z
divided s z true e = cc
divided s z false e = absurd (cc)

given_is : (s z : ℤ) → Gives s ≡ Gives z → s ≡ z
given_is s z e = cc

-- ---- sums of values

sum_low : (d x y : ℤ) → d ≡ x +ℤ y → pos 0 ≤ℤ (pos 0 +ℤ ((pos 1 *ℤ d) +ℤ ((negsuc 0 *ℤ x) +ℤ ((negsuc 0 *ℤ y) +ℤ pos 0))))
sum_low d x y e = omega (arith, ints)

sum_high : (d x y : ℤ) → d ≡ x +ℤ y → pos 0 ≤ℤ (pos 0 +ℤ ((negsuc 0 *ℤ d) +ℤ ((pos 1 *ℤ x) +ℤ ((pos 1 *ℤ y) +ℤ pos 0))))
sum_high d x y e = omega (arith, ints)

difference_low : (d x y : ℤ) → d ≡ x -ℤ y → pos 0 ≤ℤ (pos 0 +ℤ ((pos 1 *ℤ d) +ℤ ((negsuc 0 *ℤ x) +ℤ ((pos 1 *ℤ y) +ℤ pos 0))))
difference_low d x y e = omega (arith, ints)

difference_high : (d x y : ℤ) → d ≡ x -ℤ y → pos 0 ≤ℤ (pos 0 +ℤ ((negsuc 0 *ℤ d) +ℤ ((pos 1 *ℤ x) +ℤ ((negsuc 0 *ℤ y) +ℤ pos 0))))
difference_high d x y e = omega (arith, ints)

pub multiple_low : (d m : ℤ) → d ≡ m → pos 0 ≤ℤ (pos 0 +ℤ ((pos 1 *ℤ d) +ℤ ((negsuc 0 *ℤ m) +ℤ pos 0)))
multiple_low d m e = omega (arith, ints)

multiple_high : (d m : ℤ) → d ≡ m → pos 0 ≤ℤ (pos 0 +ℤ ((negsuc 0 *ℤ d) +ℤ (m +ℤ pos 0)))
multiple_high d m e = omega (arith, ints)

not_below : (d low : ℤ) → low ≤ℤ d → pos 0 ≤ℤ ((negsuc 0 *ℤ low) +ℤ ((pos 1 *ℤ d) +ℤ pos 0))
not_below d low h = omega (arith, ints)

not_above : (d high : ℤ) → d ≤ℤ high → pos 0 ≤ℤ (high +ℤ ((negsuc 0 *ℤ d) +ℤ pos 0))
not_above d high h = omega (arith, ints)

pub at_least_zero : (x : ℤ) → pos 0 ≤ℤ (pos 0 +ℤ ((pos 1 *ℤ x) +ℤ pos 0)) → pos 0 ≤ℤ x
at_least_zero x h = omega (arith, ints)

zero_at_least : (x : ℤ) → pos 0 ≤ℤ x → pos 0 ≤ℤ (pos 0 +ℤ ((pos 1 *ℤ x) +ℤ pos 0))
zero_at_least x h = omega (arith, ints)

-- x is m * k and a rest below m
quotient_low : (n m k r : ℕ) (p : ℤ) → p ≡ pos (m * k) → m * k + r ≡ n → pos 0 ≤ℤ (pos 0 +ℤ ((pos 1 *ℤ pos n) +ℤ ((negsuc 0 *ℤ p) +ℤ pos 0)))
quotient_low n m k r p e h = let q : ℕ = m * k in omega (arith, ints, e, h)

quotient_high : (n m k r : ℕ) (p : ℤ) → p ≡ pos (m * k) → m * k + r ≡ n → r < m → pos 0 ≤ℤ ((pos m -ℤ pos 1) +ℤ (p +ℤ ((negsuc 0 *ℤ pos n) +ℤ pos 0)))
quotient_high n m k r p e h l = omega (arith, ints, e, h, l)

rest_high : (m r : ℕ) → r < m → pos r ≤ℤ (pos m -ℤ pos 1)
rest_high m r l = omega (arith, ints)

natural_first : (n : ℕ) → pos 0 ≤ℤ pos n
natural_first n = omega (arith, ints)

some_first : (m : ℕ) → pos 1 ≤ℤ pos m → 0 < m
some_first m h = omega (arith, ints)

one_is_positive : (c : ℤ) → pos 1 ≤ℤ c → pos 0 ≤ℤ c
one_is_positive c h = omega (arith, ints)

narrow_low : (z : ℤ) → FitsSigned w32 z → negsuc 2147483647 ≤ℤ z
narrow_low z h = omega (arith, ints)

narrow_high : (z : ℤ) → FitsSigned w32 z → z ≤ℤ pos 2147483647
narrow_high z h = omega (arith, ints)

narrow : (x : ℤ) → pos 0 ≤ℤ (pos 2147483648 +ℤ ((pos 1 *ℤ x) +ℤ pos 0)) → pos 0 ≤ℤ (pos 2147483647 +ℤ ((negsuc 0 *ℤ x) +ℤ pos 0)) → FitsSigned w32 x
narrow x low high = omega (arith, ints)

one_time : (x : ℤ) → x ≡ pos 1 *ℤ x
one_time x = omega (arith, ints)

unsigned_high : (x : ℤ) → negsuc 2147483647 ≤ℤ x → x ≤ℤ pos 2147483647 → pos (cast_unsigned w32 x) ≤ℤ pos 4294967295
unsigned_high (pos n) low high = omega (arith, ints)
unsigned_high (negsuc n) low high = omega (arith, ints)

natural_unsigned : (x : ℤ) → pos 0 ≤ℤ x → pos (cast_unsigned w32 x) ≡ x
natural_unsigned (pos n) h = refl
natural_unsigned (negsuc n) h = absurd (h.le)

masked : (w : Width) (x : ℤ) (m : ℕ) → pos m ≤ℤ greatest w → int_bit_and (word w) x (pos m) ≡ pos (bit_and (cast_unsigned (word w) x) m)
masked Bits64 x m h = to_z_pos (word Bits64) (bit_and (cast_unsigned (word Bits64) x) m) (let l = and_le_r (cast_unsigned (word Bits64) x) m in omega (arith, ints, h, l))
masked Bits32 x m h = to_z_pos (word Bits32) (bit_and (cast_unsigned (word Bits32) x) m) (let l = and_le_r (cast_unsigned (word Bits32) x) m in omega (arith, ints, h, l))

masked_high : (a m : ℕ) → pos (bit_and a m) ≤ℤ pos m
masked_high a m = let l = and_le_r a m in omega (arith, ints, l)

-- ---- the sums of an operator, at values of which v gives the operands' and that of the register

module _ (v : ℕ → ℤ) where
  pub none_true : All (IsTrueAt v) []
  none_true = All-nil (IsTrueAt v)

  pub one_true : (s : Sum) → IsTrueAt v s → All (IsTrueAt v) (s ∷ [])
  one_true s h = All-cons (IsTrueAt v) s [] h none_true

  pub two_true : (s t : Sum) → IsTrueAt v s → IsTrueAt v t → All (IsTrueAt v) (s ∷ (t ∷ []))
  two_true s t h k = All-cons (IsTrueAt v) s (t ∷ []) h (one_true t k)

  chosen_true : (b : Bool) (sums : List Sum) → (b ≡ true → All (IsTrueAt v) sums) → All (IsTrueAt v) (if b then sums else [])
  chosen_true true sums h = h refl
  chosen_true false sums h = none_true

  multiple_true : (d x : Operand) (c : ℤ) → operand_value v d ≡ c *ℤ operand_value v x → All (IsTrueAt v) (is_multiple d c x)
  multiple_true d x c e =
      two_true (two (pos 0) (pos 1) d (negsuc 0 *ℤ c) x) (two (pos 0) (negsuc 0) d c x)
      (subst (λ z. pos 0 ≤ℤ (pos 0 +ℤ ((pos 1 *ℤ operand_value v d) +ℤ (z +ℤ pos 0)))) (sym (associates (negsuc 0) c (operand_value v x))) (multiple_low (operand_value v d) (c *ℤ operand_value v x) e))
      (multiple_high (operand_value v d) (c *ℤ operand_value v x) e)

  between_true : (low high : ℤ) (d : Operand) → low ≤ℤ operand_value v d → operand_value v d ≤ℤ high → All (IsTrueAt v) (is_between low high d)
  between_true low high d h k = two_true (one (negsuc 0 *ℤ low) (pos 1) d) (one high (negsuc 0) d) (not_below (operand_value v d) low h) (not_above (operand_value v d) high k)

  -- ---- products

  scale_is : (x : Operand) (c : ℤ) → scale_number x ≡ Some c → operand_value v x ≡ c
  scale_is (Number z) c e = from (is_scale z) e
    where
      from : (b : Bool) → (if b then Some z else None) ≡ Some c → z ≡ c
      from true h = cc
      from false h = absurd (cc)
  scale_is (Register r) c e = absurd (cc)

  scaled_left : (x y : Operand) (o : Option ℤ) (p : Part) → scale_number x ≡ o → scale_left y o ≡ Some p → p.factor *ℤ operand_value v p.operand ≡ operand_value v x *ℤ operand_value v y
  scaled_left x y None p is h = absurd (cc)
  scaled_left x y (Some c) p is h =
      let same : record { factor = c; operand = y } ≡ p = cc in
      ap (λ (q : Part). q.factor *ℤ operand_value v q.operand) (sym same) ∙ ap (λ z. z *ℤ operand_value v y) (sym (scale_is x c is))

  scaled_right : (x y : Operand) (o : Option ℤ) (p : Part) → scale_number y ≡ o → scale_right x y o ≡ Some p → p.factor *ℤ operand_value v p.operand ≡ operand_value v x *ℤ operand_value v y
  scaled_right x y None p is h = scaled_left x y (scale_number x) p refl h
  scaled_right x y (Some c) p is h =
      let same : record { factor = c; operand = x } ≡ p = cc in
      ap (λ (q : Part). q.factor *ℤ operand_value v q.operand) (sym same) ∙ ap (λ z. z *ℤ operand_value v x) (sym (scale_is y c is)) ∙ *ℤ_comm (operand_value v y) (operand_value v x)

  pub scaled_is : (x y : Operand) (p : Part) → scale_of x y ≡ Some p → p.factor *ℤ operand_value v p.operand ≡ operand_value v x *ℤ operand_value v y
  scaled_is x y p h = scaled_right x y (scale_number y) p refl h

  product_true : (d x y : Operand) (o : Option Part) → scale_of x y ≡ o → operand_value v d ≡ operand_value v x *ℤ operand_value v y → All (IsTrueAt v) (is_product d o)
  product_true d x y None is e = none_true
  product_true d x y (Some p) is e = multiple_true d p.operand p.factor (e ∙ sym (scaled_is x y p is))

  -- ---- quotients and rests, of what true facts show at the values before

  module _ (before : ℕ → ℤ) (known : List Fact) (all : AllHold before known) where
    shown_natural : (x : Operand) → operand_value before x ≡ operand_value v x → shows known (one (pos 0) (pos 1) x) ≡ true → pos 0 ≤ℤ operand_value v x
    shown_natural x same h = subst (λ z. pos 0 ≤ℤ z) same (at_least_zero (operand_value before x) (shown_true known (one (pos 0) (pos 1) x) h before all))

    divisor_is : (x : Operand) (c : ℤ) → operand_value before x ≡ operand_value v x → is_divisor known x c ≡ true → (pos 1 ≤ℤ c) × (pos 0 ≤ℤ operand_value v x)
    divisor_is x c same h =
        let k = and_parts (int_le (pos 1) c && int_le c (pos 1000000)) (shows known (one (pos 0) (pos 1) x)) h in
        let l = and_parts (int_le (pos 1) c) (int_le c (pos 1000000)) k.0 in
        (ordered (pos 1) c l.0, shown_natural x same k.1)

    quotient_true : (d x : Operand) (c : ℤ) → operand_value before x ≡ operand_value v x → is_divisor known x c ≡ true → operand_value v d ≡ int_div (operand_value v x) c → All (IsTrueAt v) (is_quotient d x c)
    quotient_true d x c same h e =
        let k = divisor_is x c same h in
        let (n, n_is) = natural (operand_value v x) k.1 in
        let (m, m_is) = natural c (one_is_positive c k.0) in
        let some : 0 < m = some_first m (subst (λ z. pos 1 ≤ℤ z) m_is k.0) in
        let d_is : operand_value v d ≡ pos (n / m) = e ∙ ap (λ z. int_div z c) n_is ∙ ap (λ z. int_div (pos n) z) m_is in
        let p_is : c *ℤ operand_value v d ≡ pos (m * (n / m)) = ap (λ z. z *ℤ operand_value v d) m_is ∙ ap (λ z. pos m *ℤ z) d_is in
        let low : pos 0 ≤ℤ (pos 0 +ℤ ((pos 1 *ℤ operand_value v x) +ℤ ((negsuc 0 *ℤ (c *ℤ operand_value v d)) +ℤ pos 0))) =
        subst (λ z. pos 0 ≤ℤ (pos 0 +ℤ ((pos 1 *ℤ z) +ℤ ((negsuc 0 *ℤ (c *ℤ operand_value v d)) +ℤ pos 0)))) (sym n_is) (quotient_low n m (n / m) (n % m) (c *ℤ operand_value v d) p_is (div-add-mod n m)) in
        let high : pos 0 ≤ℤ ((c -ℤ pos 1) +ℤ ((c *ℤ operand_value v d) +ℤ ((negsuc 0 *ℤ operand_value v x) +ℤ pos 0))) =
        subst (λ z. pos 0 ≤ℤ ((c -ℤ pos 1) +ℤ ((c *ℤ operand_value v d) +ℤ ((negsuc 0 *ℤ z) +ℤ pos 0)))) (sym n_is)
        (subst (λ z. pos 0 ≤ℤ ((z -ℤ pos 1) +ℤ ((c *ℤ operand_value v d) +ℤ ((negsuc 0 *ℤ pos n) +ℤ pos 0)))) (sym m_is)
        (quotient_high n m (n / m) (n % m) (c *ℤ operand_value v d) p_is (div-add-mod n m) (mod-lt n some))) in
        All-cons (IsTrueAt v) (two (pos 0) (pos 1) x (negsuc 0 *ℤ c) d) (two (c -ℤ pos 1) c d (negsuc 0) x ∷ (one (pos 0) (pos 1) d ∷ []))
        (subst (λ z. pos 0 ≤ℤ (pos 0 +ℤ ((pos 1 *ℤ operand_value v x) +ℤ (z +ℤ pos 0)))) (sym (associates (negsuc 0) c (operand_value v d))) low)
        (two_true (two (c -ℤ pos 1) c d (negsuc 0) x) (one (pos 0) (pos 1) d) high (zero_at_least (operand_value v d) (subst (λ z. pos 0 ≤ℤ z) (sym d_is) (natural_first (n / m)))))

    quotient_by_true : (d x y : Operand) → operand_value before x ≡ operand_value v x → operand_value v d ≡ int_div (operand_value v x) (operand_value v y) → All (IsTrueAt v) (quotient_by known d x y)
    quotient_by_true d x (Number c) same e = chosen_true (is_divisor known x c) (is_quotient d x c) (λ h. quotient_true d x c same h e)
    quotient_by_true d x (Register r) same e = none_true

    remainder_true : (d x : Operand) (c : ℤ) → operand_value before x ≡ operand_value v x → is_divisor known x c ≡ true → operand_value v d ≡ int_rem (operand_value v x) c → All (IsTrueAt v) (is_between (pos 0) (c -ℤ pos 1) d)
    remainder_true d x c same h e =
        let k = divisor_is x c same h in
        let (n, n_is) = natural (operand_value v x) k.1 in
        let (m, m_is) = natural c (one_is_positive c k.0) in
        let some : 0 < m = some_first m (subst (λ z. pos 1 ≤ℤ z) m_is k.0) in
        let d_is : operand_value v d ≡ pos (n % m) = e ∙ ap (λ z. int_rem z c) n_is ∙ ap (λ z. int_rem (pos n) z) m_is in
        between_true (pos 0) (c -ℤ pos 1) d
        (subst (λ z. pos 0 ≤ℤ z) (sym d_is) (natural_first (n % m)))
        (subst (λ z. operand_value v d ≤ℤ (z -ℤ pos 1)) (sym m_is) (subst (λ z. z ≤ℤ (pos m -ℤ pos 1)) (sym d_is) (rest_high m (n % m) (mod-lt n some))))

    remainder_by_true : (d x y : Operand) → operand_value before x ≡ operand_value v x → operand_value v d ≡ int_rem (operand_value v x) (operand_value v y) → All (IsTrueAt v) (remainder_by known d x y)
    remainder_by_true d x (Number c) same e = chosen_true (is_divisor known x c) (is_between (pos 0) (c -ℤ pos 1) d) (λ h. remainder_true d x c same h e)
    remainder_by_true d x (Register r) same e = none_true

    mask_true : (w : Width) (d x : Operand) (c : ℤ) → pos 0 ≤ℤ c → fits w c ≡ true → operand_value v d ≡ int_bit_and (word w) (operand_value v x) c → All (IsTrueAt v) (is_between (pos 0) c d)
    mask_true w d x (pos m) low fit e =
        let d_is : operand_value v d ≡ pos (bit_and (cast_unsigned (word w) (operand_value v x)) m) = e ∙ masked w (operand_value v x) m (fit_bounds w (pos m) fit).1 in
        between_true (pos 0) (pos m) d
        (subst (λ z. pos 0 ≤ℤ z) (sym d_is) (natural_first (bit_and (cast_unsigned (word w) (operand_value v x)) m)))
        (subst (λ z. z ≤ℤ pos m) (sym d_is) (masked_high (cast_unsigned (word w) (operand_value v x)) m))
    mask_true w d x (negsuc m) low fit e = absurd (low.le)

    masked_by_true : (w : Width) (d x y : Operand) → FitsText w y → operand_value v d ≡ int_bit_and (word w) (operand_value v x) (operand_value v y) → All (IsTrueAt v) (masked_by d y)
    masked_by_true w d x (Number c) fit e = chosen_true (int_le (pos 0) c) (is_between (pos 0) c d) (λ h. mask_true w d x c (ordered (pos 0) c h) fit e)
    masked_by_true w d x (Register r) fit e = none_true

    pub binary_true : (op : BinaryOperator) (w : Width) (d x y : Operand) → operand_value before x ≡ operand_value v x → FitsText w y →
        binary op w (operand_value v x) (operand_value v y) ≡ Gives (operand_value v d) → All (IsTrueAt v) (binary_sums known op d x y)
    binary_true Add w d x y same fit is = none_true
    binary_true Subtract w d x y same fit is = none_true
    binary_true Multiply w d x y same fit is = none_true
    binary_true AddNoWrap w d x y same fit is =
        let e : operand_value v d ≡ operand_value v x +ℤ operand_value v y = sym (unwrapped (operand_value v x +ℤ operand_value v y) (operand_value v d) (fits w (operand_value v x +ℤ operand_value v y)) is) in
        two_true (three (pos 0) (pos 1) d (negsuc 0) x (negsuc 0) y) (three (pos 0) (negsuc 0) d (pos 1) x (pos 1) y)
        (sum_low (operand_value v d) (operand_value v x) (operand_value v y) e) (sum_high (operand_value v d) (operand_value v x) (operand_value v y) e)
    binary_true SubtractNoWrap w d x y same fit is =
        let e : operand_value v d ≡ operand_value v x -ℤ operand_value v y = sym (unwrapped (operand_value v x -ℤ operand_value v y) (operand_value v d) (fits w (operand_value v x -ℤ operand_value v y)) is) in
        two_true (three (pos 0) (pos 1) d (negsuc 0) x (pos 1) y) (three (pos 0) (negsuc 0) d (pos 1) x (negsuc 0) y)
        (difference_low (operand_value v d) (operand_value v x) (operand_value v y) e) (difference_high (operand_value v d) (operand_value v x) (operand_value v y) e)
    binary_true MultiplyNoWrap w d x y same fit is =
        product_true d x y (scale_of x y) refl (sym (unwrapped (operand_value v x *ℤ operand_value v y) (operand_value v d) (fits w (operand_value v x *ℤ operand_value v y)) is))
    binary_true SignedDivide w d x y same fit is =
        quotient_by_true d x y same (sym (divided (int_div (operand_value v x) (operand_value v y)) (operand_value v d) (divides_signed w (operand_value v x) (operand_value v y)) is))
    binary_true UnsignedDivide w d x y same fit is = none_true
    binary_true SignedRemainder w d x y same fit is =
        remainder_by_true d x y same (sym (divided (int_rem (operand_value v x) (operand_value v y)) (operand_value v d) (divides_signed w (operand_value v x) (operand_value v y)) is))
    binary_true UnsignedRemainder w d x y same fit is = none_true
    binary_true ShiftLeft w d x y same fit is = none_true
    binary_true LogicalShiftRight w d x y same fit is = none_true
    binary_true ArithmeticShiftRight w d x y same fit is = none_true
    binary_true And w d x y same fit is = masked_by_true w d x y fit (sym (given_is (int_bit_and (word w) (operand_value v x) (operand_value v y)) (operand_value v d) is))
    binary_true Or w d x y same fit is = none_true
    binary_true ExclusiveOr w d x y same fit is = none_true

    -- ---- conversions

    same_multiple : (d x : Operand) → operand_value v d ≡ operand_value v x → All (IsTrueAt v) (is_multiple d (pos 1) x)
    same_multiple d x e = multiple_true d x (pos 1) (e ∙ one_time (operand_value v x))

    pub extended_true : (d x : Operand) → fits Bits32 (operand_value v x) ≡ true → operand_value v d ≡ operand_value v x → All (IsTrueAt v) (conversion_sums known SignExtend d x)
    extended_true d x fit e =
        let k = fit_bounds Bits32 (operand_value v x) fit in
        All-append (IsTrueAt v) (is_between (negsuc 2147483647) (pos 2147483647) d) (is_multiple d (pos 1) x)
        (between_true (negsuc 2147483647) (pos 2147483647) d (subst (λ z. negsuc 2147483647 ≤ℤ z) (sym e) k.0) (subst (λ z. z ≤ℤ pos 2147483647) (sym e) k.1))
        (same_multiple d x e)

    pub truncated_true : (d x : Operand) → operand_value before x ≡ operand_value v x → operand_value v d ≡ int_wrap w32 (operand_value v x) → All (IsTrueAt v) (conversion_sums known Truncate d x)
    truncated_true d x same e =
        let fit : FitsSigned w32 (operand_value v d) = subst (λ z. FitsSigned w32 z) (sym e) (SFits-int_wrap w32 (operand_value v x)) in
        All-append (IsTrueAt v) (is_between (negsuc 2147483647) (pos 2147483647) d) (if is_32_bits known x then is_multiple d (pos 1) x else [])
        (between_true (negsuc 2147483647) (pos 2147483647) d (narrow_low (operand_value v d) fit) (narrow_high (operand_value v d) fit))
        (chosen_true (is_32_bits known x) (is_multiple d (pos 1) x)
        (λ h.
        let k = and_parts (shows known (one (pos 2147483648) (pos 1) x)) (shows known (one (pos 2147483647) (negsuc 0) x)) h in
        let small : FitsSigned w32 (operand_value v x) =
        subst (λ z. FitsSigned w32 z) same
        (narrow (operand_value before x) (shown_true known (one (pos 2147483648) (pos 1) x) k.0 before all) (shown_true known (one (pos 2147483647) (negsuc 0) x) k.1 before all)) in
        same_multiple d x (e ∙ int_wrap_fits w32 (operand_value v x) small)))

    pub zeros_true : (d x : Operand) → operand_value before x ≡ operand_value v x → fits Bits32 (operand_value v x) ≡ true → operand_value v d ≡ pos (cast_unsigned w32 (operand_value v x)) → All (IsTrueAt v) (conversion_sums known ZeroExtend d x)
    zeros_true d x same fit e =
        let k = fit_bounds Bits32 (operand_value v x) fit in
        All-append (IsTrueAt v) (is_between (pos 0) (pos 4294967295) d) (if shows known (one (pos 0) (pos 1) x) then is_multiple d (pos 1) x else [])
        (between_true (pos 0) (pos 4294967295) d
        (subst (λ z. pos 0 ≤ℤ z) (sym e) (natural_first (cast_unsigned w32 (operand_value v x))))
        (subst (λ z. z ≤ℤ pos 4294967295) (sym e) (unsigned_high (operand_value v x) k.0 k.1)))
        (chosen_true (shows known (one (pos 0) (pos 1) x)) (is_multiple d (pos 1) x) (λ h. same_multiple d x (e ∙ natural_unsigned (operand_value v x) (shown_natural x same h))))
