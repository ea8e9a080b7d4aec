-- The form of a difference of two ends, each of which comes to a number of times a register, and a constant.
use Rattle.std.proofs.Common.{◌≡◌, ◌∙◌, ◌⊎◌, ℕ, ◌<◌, ◌≤◌, ◌^◌, ℤ, pos, negsuc, ◌+ℤ◌, ◌-ℤ◌, ◌*ℤ◌, Bool, true, false, cond, eqb, eq-eqb, List, [], ◌∷◌, Option, Some, None, inl, inr, refl, sym, ap, subst, arith, unsigned_abs}
use Rattle.std.proofs.lemmas.Bool.{cases_lt, lt-ltb, ne_eqb}
use Rattle.std.proofs.lemmas.Int.{ints}
use Rattle.std.specs.List.{prefix_len}
use Rattle.linear.specs.declared.form.RegisterId.{RegisterId}
use Rattle.linear.specs.declared.form.Term.{Term}
use Rattle.linear.specs.Forms.{IsForm, IsRising, plus}
use Rattle.linear.specs.Terms.{Combination, coefficient_of, constant_form}
use Rattle.linear.specs.Made.{is_below, coefficient_at, placed, with_terms, with_term, with_constant, is_bounded}
use Rattle.linear.specs.Bounded.{term_form}
use Rattle.linear.proofs.Added.{IsAdded, term_added}
use Rattle.linear.proofs.Placing.{new_term, placed_new, placed_more, none_refused, some_refused}
use Rattle.linear.proofs.Values.{associates}
use Rattle.program.specs.declared.instruction.Operand.{Operand}
use Rattle.program.specs.declared.instruction.Operand.TheVariants.{Number, Register}
use Rattle.ranges.specs.cfg.declared.structure.Move.{Move}
use Rattle.ranges.specs.ranges_owed.declared.sum.Part.{Part}
use Rattle.ranges.specs.ranges_owed.Inequalities.{parts_of}
use Rattle.ranges.specs.Sums.{with_operand, with_parts, start_of, sum_form}
use Rattle.footprints_zones.specs.Ends.{ComesTo}
use Rattle.footprints_zones.specs.Zones.{between}
use Rattle.footprints_zones.proofs.Orders.{parts_in_two}

-- ---- the coefficients of so many times a register

abbrev pub share : RegisterId → ℤ → ℕ → ℤ
share register times q = coefficient_of (term_form register times).terms q

-- none of a register that is taken no times
pub share_none : (register : RegisterId) (q : ℕ) → share register (pos 0) q ≡ pos 0
share_none register q = by (eqb register.0 q)
  where
    by : (b : Bool) → cond b (pos 0) (pos 0) +ℤ pos 0 ≡ pos 0
    by true = refl
    by false = refl

-- all of them at the register itself
pub share_own : (register : RegisterId) (times : ℤ) (q : ℕ) → register.0 ≡ q → share register times q ≡ times
share_own register times q same = rw (eq-eqb register.0 q same) (plus_none times)
  where
    plus_none : (z : ℤ) → z +ℤ pos 0 ≡ z
    plus_none z = omega (arith, ints)

-- none of them at another
pub share_other : (register : RegisterId) (times : ℤ) (q : ℕ) → (register.0 ≡ q → ⊥) → share register times q ≡ pos 0
share_other register times q other = rw (ne_eqb register.0 q other) refl

-- ---- one more part

-- a form is another with so many times a register and a number
pub record Makes (made : Option Combination) (start : Combination) (register : RegisterId) (times number : ℤ) : Type 0 where
  pub whole : Combination
  pub is : made ≡ Some whole
  pub form : IsForm whole
  pub terms : (q : ℕ) → coefficient_of whole.terms q ≡ share register times q +ℤ coefficient_of start.terms q
  pub constant : whole.constant ≡ number +ℤ start.constant

-- the coefficient of a register with one more term of it
own_first : (ts : List Term) (register : RegisterId) (amount : ℤ) → coefficient_of (new_term register amount ∷ ts) register.0 ≡ amount +ℤ coefficient_of ts register.0
own_first ts register amount = rw (eq-eqb register.0 register.0 refl) refl

-- it is within the bounds or past them, and not both
past_bounds : (ts : List Term) (register : RegisterId) (amount : ℤ) → unsigned_abs (amount +ℤ coefficient_of ts register.0) < 2 ^ 24 → 2 ^ 24 ≤ unsigned_abs (coefficient_of (new_term register amount ∷ ts) register.0) → ⊥
past_bounds ts register amount small large =
    let large2 : 2 ^ 24 ≤ unsigned_abs (amount +ℤ coefficient_of ts register.0) = subst (λ (z : ℤ). 2 ^ 24 ≤ unsigned_abs z) (own_first ts register amount) large in
    omega (arith, large2, small)

-- a term has its place where its coefficient stays within the bounds
placed_fits : (ts : List Term) (register : RegisterId) (amount : ℤ) (read : Option ℤ) → IsRising ts → read ≡ coefficient_at ts (prefix_len (is_below register.0) ts) register.0 →
    unsigned_abs (amount +ℤ coefficient_of ts register.0) < 2 ^ 24 → (us : List Term) × (placed ts register amount ≡ Some us)
placed_fits ts register amount None rising e small =
    let k : ℕ = prefix_len (is_below register.0) ts in
    elim (cases_lt (unsigned_abs (pos 0 +ℤ amount)) (2 ^ 24)) [
      | inl bounded ↦ (_, placed_new ts k register amount (pos 0 +ℤ amount) refl e refl bounded)
      | inr large ↦ absurd (past_bounds ts register amount small (none_refused ts k register amount refl e rising large))
    ]
placed_fits ts register amount (Some c) rising e small =
    let k : ℕ = prefix_len (is_below register.0) ts in
    elim (cases_lt (unsigned_abs (c +ℤ amount)) (2 ^ 24)) [
      | inl bounded ↦ (_, placed_more ts k register amount c (c +ℤ amount) refl e refl bounded)
      | inr large ↦ absurd (past_bounds ts register amount small (some_refused ts k register amount c e rising large))
    ]

-- a register that stays one adds so many times itself
register_makes : (start : Combination) (register : RegisterId) (amount : ℤ) → IsForm start → unsigned_abs (amount +ℤ coefficient_of start.terms register.0) < 2 ^ 24 → Makes (with_term start register amount) start register amount (pos 0)
register_makes start register amount form small =
    let us = placed_fits start.terms register amount (coefficient_at start.terms (prefix_len (is_below register.0) start.terms) register.0) form.rising refl small in
    let whole : Combination = record { terms = us.0; constant = start.constant } in
    let is : with_term start register amount ≡ Some whole = ap (λ (ts : Option (List Term)). with_terms start.constant ts) us.1 in
    let added : IsAdded (plus (term_form register amount) start) whole = term_added start whole register amount form is in
    record {
      whole = whole;
      is = is;
      form = added.form;
      terms = λ q. added.same.terms q ∙ plus_none (cond (eqb register.0 q) amount (pos 0)) (coefficient_of start.terms q);
      constant = added.same.constant;
    }
  where
    plus_none : (x y : ℤ) → x +ℤ y ≡ (x +ℤ pos 0) +ℤ y
    plus_none x y = omega (arith, ints)

-- nothing before
none_plus : (z : ℤ) → z ≡ pos 0 +ℤ z
none_plus z = omega (arith, ints)

-- a number adds itself alone
number_makes : (start : Combination) (register : RegisterId) (amount : ℤ) → IsForm start → unsigned_abs (amount +ℤ start.constant) < 2 ^ 100 → Makes (with_constant start amount) start register (pos 0) amount
number_makes start register amount form small = record {
  whole = record { terms = start.terms; constant = amount +ℤ start.constant };
  is = rw (lt-ltb (unsigned_abs (amount +ℤ start.constant)) 1267650600228229401496703205376 small) refl;
  form = record { rising = form.rising; terms = form.terms; constant = small };
  terms = λ q. rw (share_none register q) (none_plus (coefficient_of start.terms q));
  constant = refl;
}

-- no part adds nothing
none_makes : (start : Combination) (register : RegisterId) → IsForm start → Makes (Some start) start register (pos 0) (pos 0)
none_makes start register form = record {
  whole = start;
  is = refl;
  form = form;
  terms = λ q. rw (share_none register q) (none_plus (coefficient_of start.terms q));
  constant = none_plus start.constant;
}

-- ---- the parts of one end, with a sign

abbrev pub IsSign : ℤ → Type 0
IsSign sign = (sign ≡ pos 1) ⊎ (sign ≡ negsuc 0)

-- the same of other names
makes_as : (made : Option Combination) (start : Combination) (register : RegisterId) (times times2 number number2 : ℤ) → times ≡ times2 → number ≡ number2 → Makes made start register times number → Makes made start register times2 number2
makes_as made start register times times2 number number2 same_times same_number makes =
    subst (λ (z : ℤ). Makes made start register z number2) same_times (subst (λ (z : ℤ). Makes made start register times z) same_number makes)

-- a sign changes no size
signed_small : (sign z : ℤ) (most : ℕ) → IsSign sign → unsigned_abs z < most → unsigned_abs (sign *ℤ z) < most
signed_small sign z most (inl one) small = rw one (omega (arith, ints, small))
signed_small sign z most (inr opposite) small = rw opposite (omega (arith, ints, small))

-- sums and differences of such numbers are no greater
sum_small : (x y : ℤ) → unsigned_abs x < 2 ^ 66 → unsigned_abs y < 2 ^ 90 → unsigned_abs (x +ℤ y) < 2 ^ 100
sum_small x y small_x small_y = omega (arith, ints, small_x, small_y)

difference_small : (x y : ℤ) → unsigned_abs x < 2 ^ 64 → unsigned_abs y < 2 ^ 64 → unsigned_abs (x -ℤ y) < 2 ^ 66
difference_small x y small_x small_y = omega (arith, ints, small_x, small_y)

-- a number less itself
itself_less : (z : ℤ) → pos 0 ≡ z -ℤ z
itself_less z = omega (arith, ints)

-- no times a number
*ℤ-none : (z : ℤ) → pos 0 ≡ z *ℤ pos 0
*ℤ-none z = omega (arith, ints)

-- what is added
rest_of_sum : (x y z : ℤ) → z ≡ x +ℤ y → y ≡ z -ℤ x
rest_of_sum x y z is = omega (arith, ints, is)

-- the parts of an end add so many times its register, and a number
run_makes : (moves : List Move) (sign : ℤ) (form : Combination) (register : RegisterId) (k c : ℤ) (start : Combination) → IsSign sign → IsForm start → unsigned_abs start.constant < 2 ^ 90 →
    unsigned_abs form.constant < 2 ^ 64 → unsigned_abs c < 2 ^ 64 → unsigned_abs ((sign *ℤ k) +ℤ coefficient_of start.terms register.0) < 2 ^ 24 → ComesTo moves form register k c →
    Makes (with_parts (parts_of moves sign form.terms) (Some start)) start register (sign *ℤ k) (sign *ℤ (c -ℤ form.constant))
run_makes moves sign form register k c start is_sign is_form small_start small_form small_c small (inl h) =
    let same_times : pos 0 ≡ sign *ℤ k = rw h.times (*ℤ-none sign) in
    let same_number : pos 0 ≡ sign *ℤ (c -ℤ form.constant) = *ℤ-none sign ∙ ap (λ (z : ℤ). sign *ℤ z) (itself_less form.constant ∙ ap (λ (z : ℤ). z -ℤ form.constant) (sym h.constant)) in
    makes_as _ start register (pos 0) (sign *ℤ k) (pos 0) (sign *ℤ (c -ℤ form.constant)) same_times same_number
    (subst (λ (ts : List Term). Makes (with_parts (parts_of moves sign ts) (Some start)) start register (pos 0) (pos 0)) (sym h.terms) (none_makes start register is_form))
run_makes moves sign form register k c start is_sign is_form small_start small_form small_c small (inr (inl h)) =
    let t : Term = h.term in
    let amount : ℤ = (sign *ℤ t.coefficient) *ℤ h.number in
    let same_times : pos 0 ≡ sign *ℤ k = rw h.times (*ℤ-none sign) in
    let same_number : amount ≡ sign *ℤ (c -ℤ form.constant) = associates sign t.coefficient h.number ∙ ap (λ (z : ℤ). sign *ℤ z) (rest_of_sum form.constant (t.coefficient *ℤ h.number) c h.constant) in
    let small_amount : unsigned_abs (amount +ℤ start.constant) < 2 ^ 100 =
    subst (λ (z : ℤ). unsigned_abs (z +ℤ start.constant) < 2 ^ 100) (sym same_number)
    (sum_small (sign *ℤ (c -ℤ form.constant)) start.constant (signed_small sign (c -ℤ form.constant) (2 ^ 66) is_sign (difference_small c form.constant small_c small_form)) small_start) in
    let bounded : is_bounded (sign *ℤ t.coefficient) ≡ true = lt-ltb (unsigned_abs (sign *ℤ t.coefficient)) 16777216 (signed_small sign t.coefficient (2 ^ 24) is_sign h.small) in
    let added : Makes (with_operand start (sign *ℤ t.coefficient) (Number h.number)) start register (pos 0) amount =
    subst (λ (b : Bool). Makes (cond b (with_constant start amount) None) start register (pos 0) amount) (sym bounded) (number_makes start register amount is_form small_amount) in
    let put : Makes (with_parts (parts_of moves sign (t ∷ [])) (Some start)) start register (pos 0) amount =
    subst (λ (o : Operand). Makes (with_operand start (sign *ℤ t.coefficient) o) start register (pos 0) amount) (sym h.put) added in
    makes_as _ start register (pos 0) (sign *ℤ k) amount (sign *ℤ (c -ℤ form.constant)) same_times same_number
    (subst (λ (ts : List Term). Makes (with_parts (parts_of moves sign ts) (Some start)) start register (pos 0) amount) (sym h.terms) put)
run_makes moves sign form register k c start is_sign is_form small_start small_form small_c small (inr (inr h)) =
    let t : Term = h.term in
    let amount : ℤ = sign *ℤ t.coefficient in
    let same_times : amount ≡ sign *ℤ k = ap (λ (z : ℤ). sign *ℤ z) (sym h.times) in
    let same_number : pos 0 ≡ sign *ℤ (c -ℤ form.constant) = *ℤ-none sign ∙ ap (λ (z : ℤ). sign *ℤ z) (itself_less form.constant ∙ ap (λ (z : ℤ). z -ℤ form.constant) (sym h.constant)) in
    let within : unsigned_abs (amount +ℤ coefficient_of start.terms register.0) < 2 ^ 24 = subst (λ (z : ℤ). unsigned_abs (z +ℤ coefficient_of start.terms register.0) < 2 ^ 24) (sym same_times) small in
    let added : Makes (with_operand start amount (Register register)) start register amount (pos 0) = register_makes start register amount is_form within in
    let put : Makes (with_parts (parts_of moves sign (t ∷ [])) (Some start)) start register amount (pos 0) =
    subst (λ (o : Operand). Makes (with_operand start amount o) start register amount (pos 0)) (sym h.put) added in
    makes_as _ start register amount (sign *ℤ k) (pos 0) (sign *ℤ (c -ℤ form.constant)) same_times same_number
    (subst (λ (ts : List Term). Makes (with_parts (parts_of moves sign ts) (Some start)) start register amount (pos 0)) (sym h.terms) put)

-- ---- the difference

-- what a difference of two ends comes to: so many times the one register, less so many times the other, and a number
pub record Comes (made : Option Combination) (high_register : RegisterId) (kh : ℤ) (low_register : RegisterId) (kl number : ℤ) : Type 0 where
  pub whole : Combination
  pub is : made ≡ Some whole
  pub terms : (q : ℕ) → coefficient_of whole.terms q ≡ share high_register kh q +ℤ share low_register (pos 0 -ℤ kl) q
  pub constant : whole.constant ≡ number

-- once a number
once : (z : ℤ) → pos 1 *ℤ z ≡ z
once z = omega (arith, ints)

-- its opposite
opposite : (z : ℤ) → negsuc 0 *ℤ z ≡ pos 0 -ℤ z
opposite z = omega (arith, ints)

-- the constants of both runs, in all
in_all : (h l high low one two : ℤ) → two ≡ (negsuc 0 *ℤ (l -ℤ low)) +ℤ one → one ≡ (pos 1 *ℤ (h -ℤ high)) +ℤ (high -ℤ low) → two ≡ h -ℤ l
in_all h l high low one two is_two is_one = omega (arith, ints, is_two, is_one)

-- the constant after the first run is small
grown_small : (h high start : ℤ) → unsigned_abs h < 2 ^ 64 → unsigned_abs high < 2 ^ 64 → unsigned_abs start < 2 ^ 66 → unsigned_abs ((pos 1 *ℤ (h -ℤ high)) +ℤ start) < 2 ^ 90
grown_small h high start small_h small_high small_start = omega (arith, ints, small_h, small_high, small_start)

-- a wider bound
wider : (z : ℤ) (least most : ℕ) → least ≤ most → unsigned_abs z < least → unsigned_abs z < most
wider z least most more small = omega (arith, more, small)

-- the coefficients of both runs, in all
turned : (two one taken low high : ℤ) → two ≡ taken +ℤ one → taken ≡ low → one ≡ high +ℤ pos 0 → two ≡ high +ℤ low
turned two one taken low high is_two is_taken is_one = omega (arith, ints, is_two, is_taken, is_one)

-- a run of parts added to a number, and a second one to what it makes
joined : (first second : Option Combination) (ps : List Part) (rh rl : RegisterId) (kh kl h l high low : ℤ)
    (one : Makes first (constant_form (high -ℤ low)) rh (pos 1 *ℤ kh) (pos 1 *ℤ (h -ℤ high))) → second ≡ with_parts ps first →
    Makes (with_parts ps (Some one.whole)) one.whole rl (negsuc 0 *ℤ kl) (negsuc 0 *ℤ (l -ℤ low)) → Comes second rh kh rl kl (h -ℤ l)
joined first second ps rh rl kh kl h l high low one is two = record {
  whole = two.whole;
  is = is ∙ ap (λ (o : Option Combination). with_parts ps o) one.is ∙ two.is;
  terms = λ q. turned (coefficient_of two.whole.terms q) (coefficient_of one.whole.terms q) (share rl (negsuc 0 *ℤ kl) q) (share rl (pos 0 -ℤ kl) q) (share rh kh q)
      (two.terms q) (ap (λ (z : ℤ). share rl z q) (opposite kl)) (one.terms q ∙ ap (λ (z : ℤ). share rh z q +ℤ pos 0) (once kh));
  constant = in_all h l high low one.whole.constant two.whole.constant two.constant one.constant;
}

-- what a first run makes leaves room for the second
room_left : (start kh kl h high : ℤ) (made : Option Combination) (rh rl : RegisterId) (one : Makes made (constant_form start) rh (pos 1 *ℤ kh) (pos 1 *ℤ (h -ℤ high))) → unsigned_abs ((pos 0 -ℤ kl) +ℤ share rh kh rl.0) < 2 ^ 24 →
    unsigned_abs ((negsuc 0 *ℤ kl) +ℤ coefficient_of one.whole.terms rl.0) < 2 ^ 24
room_left start kh kl h high made rh rl one small =
    by (coefficient_of one.whole.terms rl.0) (share rh kh rl.0) (one.terms rl.0 ∙ ap (λ (z : ℤ). share rh z rl.0 +ℤ pos 0) (once kh)) small
  where
    by : (x y : ℤ) → x ≡ y +ℤ pos 0 → unsigned_abs ((pos 0 -ℤ kl) +ℤ y) < 2 ^ 24 → unsigned_abs ((negsuc 0 *ℤ kl) +ℤ x) < 2 ^ 24
    by x y is within = omega (arith, ints, is, within)

-- of two runs of parts, added to a number
runs_make : (for_high : List Move) (high : Combination) (for_low : List Move) (low : Combination) (rh rl : RegisterId) (kh ch kl cl : ℤ) →
    ComesTo for_high high rh kh ch → ComesTo for_low low rl kl cl →
    unsigned_abs high.constant < 2 ^ 64 → unsigned_abs low.constant < 2 ^ 64 → unsigned_abs ch < 2 ^ 64 → unsigned_abs cl < 2 ^ 64 →
    unsigned_abs kh < 2 ^ 24 → unsigned_abs ((pos 0 -ℤ kl) +ℤ share rh kh rl.0) < 2 ^ 24 →
    Comes (with_parts (parts_of for_low (negsuc 0) low.terms) (with_parts (parts_of for_high (pos 1) high.terms) (Some (constant_form (high.constant -ℤ low.constant))))) rh kh rl kl (ch -ℤ cl)
runs_make for_high high for_low low rh rl kh ch kl cl of_high of_low small_high small_low small_ch small_cl small_kh small =
    let start : ℤ = high.constant -ℤ low.constant in
    let small_start : unsigned_abs start < 2 ^ 66 = difference_small high.constant low.constant small_high small_low in
    let is_form : IsForm (constant_form start) = record { rising = tt; terms = λ k d l. absurd (omega (arith, l)); constant = wider start (2 ^ 66) (2 ^ 100) (omega arith) small_start } in
    let small_first : unsigned_abs ((pos 1 *ℤ kh) +ℤ pos 0) < 2 ^ 24 = omega (arith, ints, small_kh) in
    after (run_makes for_high (pos 1) high rh kh ch (constant_form start) (inl refl) is_form (wider start (2 ^ 66) (2 ^ 90) (omega arith) small_start) small_high small_ch small_first of_high)
  where
    after : Makes (with_parts (parts_of for_high (pos 1) high.terms) (Some (constant_form (high.constant -ℤ low.constant)))) (constant_form (high.constant -ℤ low.constant)) rh (pos 1 *ℤ kh) (pos 1 *ℤ (ch -ℤ high.constant)) →
        Comes (with_parts (parts_of for_low (negsuc 0) low.terms) (with_parts (parts_of for_high (pos 1) high.terms) (Some (constant_form (high.constant -ℤ low.constant))))) rh kh rl kl (ch -ℤ cl)
    after one =
        let small_one : unsigned_abs one.whole.constant < 2 ^ 90 = subst (λ (z : ℤ). unsigned_abs z < 2 ^ 90) (sym one.constant) (grown_small ch high.constant (high.constant -ℤ low.constant) small_ch small_high (difference_small high.constant low.constant small_high small_low)) in
        let small_second : unsigned_abs ((negsuc 0 *ℤ kl) +ℤ coefficient_of one.whole.terms rl.0) < 2 ^ 24 = room_left (high.constant -ℤ low.constant) kh kl ch high.constant _ rh rl one small in
        joined (with_parts (parts_of for_high (pos 1) high.terms) (Some (constant_form (high.constant -ℤ low.constant)))) _ (parts_of for_low (negsuc 0) low.terms) rh rl kh kl ch cl high.constant low.constant one refl
        (run_makes for_low (negsuc 0) low rl kl cl one.whole (inr refl) one.form small_one small_low small_cl small_second of_low)

-- the form of a difference of two ends
pub sum_of_ends : (for_high : List Move) (high : Combination) (for_low : List Move) (low : Combination) (rh rl : RegisterId) (kh ch kl cl : ℤ) →
    ComesTo for_high high rh kh ch → ComesTo for_low low rl kl cl →
    unsigned_abs high.constant < 2 ^ 64 → unsigned_abs low.constant < 2 ^ 64 → unsigned_abs ch < 2 ^ 64 → unsigned_abs cl < 2 ^ 64 →
    unsigned_abs kh < 2 ^ 24 → unsigned_abs ((pos 0 -ℤ kl) +ℤ share rh kh rl.0) < 2 ^ 24 →
    Comes (sum_form (between for_high high for_low low)) rh kh rl kl (ch -ℤ cl)
unfolding sum_form
sum_of_ends for_high high for_low low rh rl kh ch kl cl of_high of_low small_high small_low small_ch small_cl small_kh small =
    let start : ℤ = high.constant -ℤ low.constant in
    let small_start : unsigned_abs start < 2 ^ 100 = wider start (2 ^ 66) (2 ^ 100) (omega arith) (difference_small high.constant low.constant small_high small_low) in
    let made = runs_make for_high high for_low low rh rl kh ch kl cl of_high of_low small_high small_low small_ch small_cl small_kh small in
    record {
      whole = made.whole;
      is = parts_in_two (parts_of for_high (pos 1) high.terms) (parts_of for_low (negsuc 0) low.terms) (start_of start)
          ∙ ap (λ (b : Bool). with_parts (parts_of for_low (negsuc 0) low.terms) (with_parts (parts_of for_high (pos 1) high.terms) (cond b (Some (constant_form start)) None))) (lt-ltb (unsigned_abs start) 1267650600228229401496703205376 small_start)
          ∙ made.is;
      terms = made.terms;
      constant = made.constant;
    }
