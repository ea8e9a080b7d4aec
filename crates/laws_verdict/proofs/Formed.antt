-- The sums of the rules on numbers and zones have forms.
use Rattle.std.proofs.Common.{◌≡◌, ◌∙◌, ℕ, suc, ◌+◌, ◌^◌, ◌<◌, ◌≤◌, ℤ, pos, negsuc, ◌*ℤ◌, ◌-ℤ◌, Bool, true, false, List, [], ◌∷◌, Option, Some, None, refl, subst, arith}
use Rattle.std.specs.Prelude.{◌&&◌, if◌then◌else◌, int_le, sum_by, unsigned_abs}
use Rattle.std.specs.List.{All}
use Rattle.std.proofs.lemmas.Bool.{and_parts, leb-true}
use Rattle.std.proofs.lemmas.Int.{ints, unsigned_abs-mul}
use Rattle.std.proofs.lemmas.List.Elements.{All-append, All-cons, All-head, All-nil, All-tail}
use Rattle.std.proofs.lemmas.List.Sums.{sum_by-cons}
use Rattle.linear.specs.declared.form.Fact.{Fact}
use Rattle.linear.specs.declared.form.RegisterId.{RegisterId}
use Rattle.syntax.specs.declared.operator.BinaryOperator.{BinaryOperator}
use Rattle.syntax.specs.declared.operator.BinaryOperator.TheVariants as operator
use Rattle.syntax.specs.declared.operator.Conversion.{Conversion}
use Rattle.syntax.specs.declared.operator.Conversion.TheVariants.{Truncate, SignExtend, ZeroExtend}
use Rattle.program.specs.declared.annotation.Inequality.{Inequality}
use Rattle.program.specs.declared.instruction.Argument.{Argument}
use Rattle.program.specs.declared.instruction.Argument.TheVariants as argument
use Rattle.program.specs.declared.instruction.Operand.{Operand}
use Rattle.program.specs.declared.instruction.Operand.TheVariants.{Number, Register}
use Rattle.program.specs.declared.function.Function.{Function}
use Rattle.cfg.specs.declared.structure.Move.{Move}
use Rattle.ranges.specs.ranges_owed.declared.sum.Part.{Part}
use Rattle.ranges.specs.ranges_owed.declared.sum.Sum.{Sum}
use Rattle.ranges.specs.ranges_owed.Sums.{one, two, three}
use Rattle.ranges.specs.Sums.{shows}
use Rattle.ranges.specs.ranges_owed.Inequalities.{difference_of, differences_of, argument_operand, argument_moves, result_of, result_moves, register_operand, call_moves}
use Rattle.ranges.specs.ranges_owed.Scales.{is_scale, scale_number, scale_left, scale_right, scale_of}
use Rattle.ranges.specs.Learned.{is_multiple, is_product, is_between, is_quotient, is_divisor, quotient_by, remainder_by, masked_by, binary_sums, is_32_bits, conversion_sums, call_sums}
use Rattle.laws_verdict.specs.Sums.{IsWord}
use Rattle.laws_verdict.specs.Limited.{AreWords}
use Rattle.laws_verdict.specs.Written.{AreSidesLimited, IsArgumentWord}
use Rattle.laws_verdict.specs.Formed.{HasForm, HaveForms}
use Rattle.laws_verdict.proofs.Limited.{limited_forms_ask_little}
use Rattle.laws_verdict.proofs.Sums.{modest_sums_have_forms}
use Rattle.laws_verdict.proofs.limits.Forms.{small}

abbrev factors : List Part → ℕ
factors ps = sum_by (λ (p : Part). unsigned_abs p.factor) ps

abbrev IsPartWord : Part → Type 0
IsPartWord p = IsWord p.operand

-- ---- sums of few parts

abbrev part : ℤ → Operand → Part
part a x = record { factor = a; operand = x }

-- a factor within a million, and a word
pub record IsSmallPart (a : ℤ) (x : Operand) : Type 0 where
  pub factor : unsigned_abs a ≤ 1000000
  pub word : IsWord x

pub small_part : (a : ℤ) (x : Operand) → unsigned_abs a ≤ 1000000 → IsWord x → IsSmallPart a x
small_part a x l w = record { factor = l; word = w }

factors_cons : (p : Part) (ps : List Part) → factors (p ∷ ps) ≡ unsigned_abs p.factor + factors ps
factors_cons p ps = sum_by-cons (λ (q : Part). unsigned_abs q.factor) p ps

pub one_formed : (k a : ℤ) (x : Operand) → unsigned_abs k < 2 ^ 99 → IsSmallPart a x → HasForm (one k a x)
one_formed k a x low p =
    let first = factors_cons (part a x) [] in
    let l = p.factor in
    modest_sums_have_forms (one k a x) (record {
      factors = omega (arith, first, l);
      numbers = All-cons IsPartWord (part a x) [] p.word (All-nil IsPartWord);
      constant = low;
    })

pub two_formed : (k a : ℤ) (x : Operand) (b : ℤ) (y : Operand) → unsigned_abs k < 2 ^ 99 → IsSmallPart a x → IsSmallPart b y → HasForm (two k a x b y)
two_formed k a x b y low p q =
    let first = factors_cons (part a x) (part b y ∷ []) in
    let second = factors_cons (part b y) [] in
    let l = p.factor in
    let m = q.factor in
    modest_sums_have_forms (two k a x b y) (record {
      factors = omega (arith, first, second, l, m);
      numbers = All-cons IsPartWord (part a x) (part b y ∷ []) p.word (All-cons IsPartWord (part b y) [] q.word (All-nil IsPartWord));
      constant = low;
    })

three_formed : (k a : ℤ) (x : Operand) (b : ℤ) (y : Operand) (c : ℤ) (z : Operand) → unsigned_abs k < 2 ^ 99 → IsSmallPart a x → IsSmallPart b y → IsSmallPart c z → HasForm (three k a x b y c z)
three_formed k a x b y c z low p q r =
    let first = factors_cons (part a x) (part b y ∷ (part c z ∷ [])) in
    let second = factors_cons (part b y) (part c z ∷ []) in
    let third = factors_cons (part c z) [] in
    let l = p.factor in
    let m = q.factor in
    let n = r.factor in
    modest_sums_have_forms (three k a x b y c z) (record {
      factors = omega (arith, first, second, third, l, m, n);
      numbers = All-cons IsPartWord (part a x) (part b y ∷ (part c z ∷ [])) p.word (All-cons IsPartWord (part b y) (part c z ∷ []) q.word (All-cons IsPartWord (part c z) [] r.word (All-nil IsPartWord)));
      constant = low;
    })

-- ---- lists of sums

pub none_formed : HaveForms []
none_formed = All-nil HasForm

pub with_formed : (s : Sum) (ss : List Sum) → HasForm s → HaveForms ss → HaveForms (s ∷ ss)
with_formed s ss h k = All-cons HasForm s ss h k

pub pair_formed : (s t : Sum) → HasForm s → HasForm t → HaveForms (s ∷ (t ∷ []))
pair_formed s t h k = with_formed s (t ∷ []) h (with_formed t [] k none_formed)

if_formed : (b : Bool) (ss : List Sum) → (b ≡ true → HaveForms ss) → HaveForms (if b then ss else [])
if_formed true ss h = h refl
if_formed false ss h = none_formed

-- ---- what an instruction makes known

pub plus_one : {x : Operand} → IsWord x → IsSmallPart (pos 1) x
plus_one {x} w = small_part (pos 1) x (omega arith) w

pub minus_one : {x : Operand} → IsWord x → IsSmallPart (negsuc 0) x
minus_one {x} w = small_part (negsuc 0) x (omega arith) w

pub opposite : (c : ℤ) → unsigned_abs (negsuc 0 *ℤ c) ≡ unsigned_abs c
opposite c = unsigned_abs-mul (negsuc 0) c ∙ omega arith

less_one : (c : ℤ) (n : ℕ) → unsigned_abs c ≤ n → unsigned_abs (c -ℤ pos 1) ≤ n + 1
less_one c n l = omega (arith, ints, l)

multiple_formed : (d : Operand) (c : ℤ) (x : Operand) → IsWord d → IsSmallPart c x → HaveForms (is_multiple d c x)
multiple_formed d c x w p =
    let turned = opposite c in
    let l = p.factor in
    pair_formed (two (pos 0) (pos 1) d (negsuc 0 *ℤ c) x) (two (pos 0) (negsuc 0) d c x)
    (two_formed (pos 0) (pos 1) d (negsuc 0 *ℤ c) x (omega arith) (plus_one w) (small_part (negsuc 0 *ℤ c) x (omega (arith, turned, l)) p.word))
    (two_formed (pos 0) (negsuc 0) d c x (omega arith) (minus_one w) p)

between_formed : (least greatest : ℤ) (d : Operand) → unsigned_abs least ≤ 2 ^ 63 → unsigned_abs greatest ≤ 2 ^ 63 → IsWord d → HaveForms (is_between least greatest d)
between_formed least greatest d l m w =
    let turned = opposite least in
    pair_formed (one (negsuc 0 *ℤ least) (pos 1) d) (one greatest (negsuc 0) d)
    (one_formed (negsuc 0 *ℤ least) (pos 1) d (omega (arith, turned, l)) (plus_one w)) (one_formed greatest (negsuc 0) d (omega (arith, m)) (minus_one w))

-- a product by a number within a million
abbrev pub IsScaled : Option Part → Type 0
IsScaled None = Unit {0}
IsScaled (Some p) = IsSmallPart p.factor p.operand

scaled_number : (b : Bool) (z c : ℤ) → is_scale z ≡ b → (if b then Some z else None) ≡ Some c → unsigned_abs c ≤ 1000000
scaled_number true z c e h = let same : z ≡ c = cc in subst (λ (x : ℤ). unsigned_abs x ≤ 1000000) same (small z e)
scaled_number false z c e h = absurd (cc)

number_scaled : (y : Operand) (c : ℤ) → scale_number y ≡ Some c → unsigned_abs c ≤ 1000000
number_scaled (Number z) c h = scaled_number (is_scale z) z c refl h
number_scaled (Register r) c h = absurd (cc)

pub product_scaled : (x y : Operand) → IsWord x → IsWord y → IsScaled (scale_of x y)
product_scaled x y w v = by_right (scale_number y) refl
  where
    by_left : (o : Option ℤ) → scale_number x ≡ o → IsScaled (scale_left y o)
    by_left None e = tt
    by_left (Some c) e = small_part c y (number_scaled x c e) v

    by_right : (o : Option ℤ) → scale_number y ≡ o → IsScaled (scale_right x y o)
    by_right None e = by_left (scale_number x) refl
    by_right (Some c) e = small_part c x (number_scaled y c e) w

product_formed : (d : Operand) (o : Option Part) → IsWord d → IsScaled o → HaveForms (is_product d o)
product_formed d None w p = none_formed
product_formed d (Some p) w q = multiple_formed d p.factor p.operand w q

-- a number from 1 to a million
divisor_small : (c : ℤ) → (int_le (pos 1) c && int_le c (pos 1000000)) ≡ true → unsigned_abs c ≤ 1000000
divisor_small (pos n) h = let l = leb-true n 1000000 (and_parts (int_le (pos 1) (pos n)) (int_le (pos n) (pos 1000000)) h).1 in omega (arith, l)
divisor_small (negsuc n) h = absurd (cc)

module _ (known : List Fact) (d x : Operand) (w : IsWord d) (v : IsWord x) where
  quotient_formed : (y : Operand) → HaveForms (quotient_by known d x y)
  quotient_formed (Register r) = none_formed
  quotient_formed (Number c) = if_formed (is_divisor known x c) (is_quotient d x c) (λ h.
      let l = divisor_small c (and_parts (int_le (pos 1) c && int_le c (pos 1000000)) (shows known (one (pos 0) (pos 1) x)) h).0 in
      let turned = opposite c in
      let less = less_one c 1000000 l in
      with_formed (two (pos 0) (pos 1) x (negsuc 0 *ℤ c) d) (two (c -ℤ pos 1) c d (negsuc 0) x ∷ (one (pos 0) (pos 1) d ∷ []))
      (two_formed (pos 0) (pos 1) x (negsuc 0 *ℤ c) d (omega arith) (plus_one v) (small_part (negsuc 0 *ℤ c) d (omega (arith, turned, l)) w))
      (pair_formed (two (c -ℤ pos 1) c d (negsuc 0) x) (one (pos 0) (pos 1) d)
      (two_formed (c -ℤ pos 1) c d (negsuc 0) x (omega (arith, less)) (small_part c d l w) (minus_one v)) (one_formed (pos 0) (pos 1) d (omega arith) (plus_one w))))

  remainder_formed : (y : Operand) → HaveForms (remainder_by known d x y)
  remainder_formed (Register r) = none_formed
  remainder_formed (Number c) = if_formed (is_divisor known x c) (is_between (pos 0) (c -ℤ pos 1) d) (λ h.
      let l = divisor_small c (and_parts (int_le (pos 1) c && int_le c (pos 1000000)) (shows known (one (pos 0) (pos 1) x)) h).0 in
      let less = less_one c 1000000 l in
      between_formed (pos 0) (c -ℤ pos 1) d (omega arith) (omega (arith, less)) w)

masked_formed : (d y : Operand) → IsWord d → IsWord y → HaveForms (masked_by d y)
masked_formed d (Register r) w v = none_formed
masked_formed d (Number m) w v = if_formed (int_le (pos 0) m) (is_between (pos 0) m d) (λ h. between_formed (pos 0) m d (omega arith) v w)

pub binary_formed : (known : List Fact) (o : BinaryOperator) (d x y : Operand) → IsWord d → IsWord x → IsWord y → HaveForms (binary_sums known o d x y)
binary_formed known operator.Add d x y w v u = none_formed
binary_formed known operator.Subtract d x y w v u = none_formed
binary_formed known operator.Multiply d x y w v u = none_formed
binary_formed known operator.AddNoWrap d x y w v u =
    pair_formed (three (pos 0) (pos 1) d (negsuc 0) x (negsuc 0) y) (three (pos 0) (negsuc 0) d (pos 1) x (pos 1) y)
    (three_formed (pos 0) (pos 1) d (negsuc 0) x (negsuc 0) y (omega arith) (plus_one w) (minus_one v) (minus_one u))
    (three_formed (pos 0) (negsuc 0) d (pos 1) x (pos 1) y (omega arith) (minus_one w) (plus_one v) (plus_one u))
binary_formed known operator.SubtractNoWrap d x y w v u =
    pair_formed (three (pos 0) (pos 1) d (negsuc 0) x (pos 1) y) (three (pos 0) (negsuc 0) d (pos 1) x (negsuc 0) y)
    (three_formed (pos 0) (pos 1) d (negsuc 0) x (pos 1) y (omega arith) (plus_one w) (minus_one v) (plus_one u))
    (three_formed (pos 0) (negsuc 0) d (pos 1) x (negsuc 0) y (omega arith) (minus_one w) (plus_one v) (minus_one u))
binary_formed known operator.MultiplyNoWrap d x y w v u = product_formed d (scale_of x y) w (product_scaled x y v u)
binary_formed known operator.SignedDivide d x y w v u = quotient_formed known d x w v y
binary_formed known operator.UnsignedDivide d x y w v u = none_formed
binary_formed known operator.SignedRemainder d x y w v u = remainder_formed known d x w v y
binary_formed known operator.UnsignedRemainder d x y w v u = none_formed
binary_formed known operator.ShiftLeft d x y w v u = none_formed
binary_formed known operator.LogicalShiftRight d x y w v u = none_formed
binary_formed known operator.ArithmeticShiftRight d x y w v u = none_formed
binary_formed known operator.And d x y w v u = masked_formed d y w u
binary_formed known operator.Or d x y w v u = none_formed
binary_formed known operator.ExclusiveOr d x y w v u = none_formed

pub conversion_formed : (known : List Fact) (c : Conversion) (d x : Operand) → IsWord d → IsWord x → HaveForms (conversion_sums known c d x)
conversion_formed known SignExtend d x w v =
    All-append HasForm (is_between (negsuc 2147483647) (pos 2147483647) d) (is_multiple d (pos 1) x) (between_formed (negsuc 2147483647) (pos 2147483647) d (omega arith) (omega arith) w) (multiple_formed d (pos 1) x w (plus_one v))
conversion_formed known Truncate d x w v =
    All-append HasForm (is_between (negsuc 2147483647) (pos 2147483647) d) _ (between_formed (negsuc 2147483647) (pos 2147483647) d (omega arith) (omega arith) w)
    (if_formed (is_32_bits known x) (is_multiple d (pos 1) x) (λ h. multiple_formed d (pos 1) x w (plus_one v)))
conversion_formed known ZeroExtend d x w v =
    All-append HasForm (is_between (pos 0) (pos 4294967295) d) _ (between_formed (pos 0) (pos 4294967295) d (omega arith) (omega arith) w)
    (if_formed (shows known (one (pos 0) (pos 1) x)) (is_multiple d (pos 1) x) (λ h. multiple_formed d (pos 1) x w (plus_one v)))

-- ---- inequalities

pub difference_formed : (moves : List Move) → AreWords moves → (q : Inequality) → AreSidesLimited q → HasForm (difference_of moves q)
difference_formed moves words q limited =
    modest_sums_have_forms (difference_of moves q) (limited_forms_ask_little.differences moves moves q.high q.low words words limited.high limited.low)

pub differences_formed : (moves : List Move) → AreWords moves → (qs : List Inequality) → All AreSidesLimited qs → HaveForms (differences_of moves qs)
differences_formed moves words [] h = none_formed
differences_formed moves words (q ∷ qs) h =
    with_formed (difference_of moves q) (differences_of moves qs) (difference_formed moves words q (All-head AreSidesLimited q qs h)) (differences_formed moves words qs (All-tail AreSidesLimited q qs h))

abbrev IsMoveWord : Move → Type 0
IsMoveWord m = IsWord m.value

argument_word : (a : Argument) → IsArgumentWord a → IsWord (argument_operand a)
argument_word (argument.Number x) w = w
argument_word (argument.Object name) w = omega arith

pub argument_words : (n : ℕ) (arguments : List Argument) → All IsArgumentWord arguments → AreWords (argument_moves n arguments)
argument_words n [] h = All-nil IsMoveWord
argument_words n (a ∷ arguments) h =
    All-cons IsMoveWord (record { register = record { 0 = n }; value = argument_operand a }) (argument_moves (suc n) arguments) (argument_word a (All-head IsArgumentWord a arguments h)) (argument_words (suc n) arguments (All-tail IsArgumentWord a arguments h))

result_words : (callee : Function) (o : Option RegisterId) → AreWords (result_moves callee (register_operand o))
result_words callee None = All-nil IsMoveWord
result_words callee (Some d) = All-cons IsMoveWord (record { register = result_of callee; value = Register d }) [] tt (All-nil IsMoveWord)

pub call_formed : (o : Option Function) (arguments : List Argument) (d : Option RegisterId) → All IsArgumentWord arguments → ((callee : Function) → o ≡ Some callee → All AreSidesLimited callee.guarantees) → HaveForms (call_sums o arguments d)
call_formed None arguments d words limited = none_formed
call_formed (Some callee) arguments d words limited =
    differences_formed (call_moves callee arguments d) (All-append IsMoveWord (argument_moves 0 arguments) (result_moves callee (register_operand d)) (argument_words 0 arguments words) (result_words callee d))
    callee.guarantees (limited callee refl)
