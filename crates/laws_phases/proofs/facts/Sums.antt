-- What sums and inequalities say of values.
use Rattle.std.proofs.Common.{◌≡◌, ◌∙◌, ℕ, ℤ, pos, negsuc, ◌+ℤ◌, ◌-ℤ◌, ◌*ℤ◌, ◌≤ℤ◌, List, [], ◌∷◌, ◌++◌, Some, refl, sym, ap, subst, arith}
use Rattle.std.specs.List.{All}
use Rattle.std.proofs.lemmas.Int.{ints}
use Rattle.std.proofs.lemmas.List.Elements.{All-head, All-tail, All-map, All-weaker}
use Rattle.std.proofs.Math.IntN.{*ℤ-zero}
use Rattle.semantics.specs.Frames.{Registers, word_at}
use Rattle.linear.specs.declared.form.Term.{Term}
use Rattle.linear.specs.Forms.{value_of}
use Rattle.linear_shown.specs.Shown.{AllHold}
use Rattle.linear.proofs.Values.{distributes, associates}
use Rattle.program.specs.declared.annotation.Inequality.{Inequality}
use Rattle.program.specs.declared.instruction.Operand.{Operand}
use Rattle.program.specs.declared.instruction.Operand.TheVariants.{Number, Register}
use Rattle.cfg.specs.declared.structure.Move.{Move}
use Rattle.ranges.specs.ranges_owed.declared.sum.Part.{Part}
use Rattle.ranges.specs.ranges_owed.Inequalities.{operand_for, parts_of, difference_of, differences_of}
use Rattle.ranges.specs.Truth.{operand_value, parts_value, sum_value, IsTrueAt}
use Rattle.ranges.specs.Places.{stated}
use Rattle.ranges.proofs.Truth.{facts_true}
use Rattle.laws_conditions.specs.rules.Costs.{numbers}
use Rattle.semantics.specs.Written.{or_zero}
use Rattle.laws_phases.specs.facts.Known.{IsMet}

-- a number that is there
pub word_value : (r : Registers) (a : Operand) (z : ℤ) → word_at r a ≡ Some z → operand_value (numbers r) a ≡ z
word_value r (Number y) z e = cc
word_value r (Register x) z e = ap or_zero e

-- what the moves put in for a term's register has this value
abbrev pub Moved : List Move → (ℕ → ℤ) → (ℕ → ℤ) → List Term → Type 0
Moved moves v w terms = All (λ t. operand_value v (operand_for moves t.register) ≡ w t.register.0) terms

pub parts_moved : (v w : ℕ → ℤ) (moves : List Move) (sign : ℤ) (terms : List Term) → Moved moves v w terms → parts_value v (parts_of moves sign terms) ≡ sign *ℤ value_of w terms
parts_moved v w moves sign [] all = sym (*ℤ-zero sign)
parts_moved v w moves sign (t ∷ terms) all =
    let P : Term → Type 0 = λ (u : Term). operand_value v (operand_for moves u.register) ≡ w u.register.0 in
    let head : operand_value v (operand_for moves t.register) ≡ w t.register.0 = All-head P t terms all in
    let rest : parts_value v (parts_of moves sign terms) ≡ sign *ℤ value_of w terms = parts_moved v w moves sign terms (All-tail P t terms all) in
    rw (head, rest, associates sign t.coefficient (w t.register.0)) (sym (distributes sign (t.coefficient *ℤ w t.register.0) (value_of w terms)))

add_associates : (x y z : ℤ) → x +ℤ (y +ℤ z) ≡ (x +ℤ y) +ℤ z
add_associates x y z = omega (arith, ints)

zero_first : (x : ℤ) → x ≡ pos 0 +ℤ x
zero_first x = omega (arith, ints)

pub parts_append : (v : ℕ → ℤ) (ps qs : List Part) → parts_value v (ps ++ qs) ≡ parts_value v ps +ℤ parts_value v qs
parts_append v [] qs = zero_first (parts_value v qs)
parts_append v (p ∷ ps) qs = ap (λ z. (p.factor *ℤ operand_value v p.operand) +ℤ z) (parts_append v ps qs) ∙ add_associates (p.factor *ℤ operand_value v p.operand) (parts_value v ps) (parts_value v qs)

difference_value : (v w : ℕ → ℤ) (moves : List Move) (q : Inequality) → Moved moves v w q.low.terms → Moved moves v w q.high.terms →
    sum_value v (difference_of moves q) ≡ (q.high.constant -ℤ q.low.constant) +ℤ ((pos 1 *ℤ value_of w q.high.terms) +ℤ (negsuc 0 *ℤ value_of w q.low.terms))
difference_value v w moves q low high =
    ap (λ z. (q.high.constant -ℤ q.low.constant) +ℤ z)
    (parts_append v (parts_of moves (pos 1) q.high.terms) (parts_of moves (negsuc 0) q.low.terms)
    ∙ ap (λ z. z +ℤ parts_value v (parts_of moves (negsuc 0) q.low.terms)) (parts_moved v w moves (pos 1) q.high.terms high)
    ∙ ap (λ z. (pos 1 *ℤ value_of w q.high.terms) +ℤ z) (parts_moved v w moves (negsuc 0) q.low.terms low))

to_order : (a b h l : ℤ) → pos 0 ≤ℤ ((a -ℤ b) +ℤ ((pos 1 *ℤ h) +ℤ (negsuc 0 *ℤ l))) → (l +ℤ b) ≤ℤ (h +ℤ a)
to_order a b h l e = omega (arith, ints)

from_order : (a b h l : ℤ) → (l +ℤ b) ≤ℤ (h +ℤ a) → pos 0 ≤ℤ ((a -ℤ b) +ℤ ((pos 1 *ℤ h) +ℤ (negsuc 0 *ℤ l)))
from_order a b h l e = omega (arith, ints)

-- the inequality is true where the difference, with operands put in, is at least 0
pub met_from_moved : (v w : ℕ → ℤ) (moves : List Move) (q : Inequality) → Moved moves v w q.low.terms → Moved moves v w q.high.terms → IsTrueAt v (difference_of moves q) → IsMet w q
met_from_moved v w moves q low high h =
    to_order q.high.constant q.low.constant (value_of w q.high.terms) (value_of w q.low.terms) (subst (λ z. pos 0 ≤ℤ z) (difference_value v w moves q low high) h)

pub moved_from_met : (v w : ℕ → ℤ) (moves : List Move) (q : Inequality) → Moved moves v w q.low.terms → Moved moves v w q.high.terms → IsMet w q → IsTrueAt v (difference_of moves q)
moved_from_met v w moves q low high h =
    subst (λ z. pos 0 ≤ℤ z) (sym (difference_value v w moves q low high)) (from_order q.high.constant q.low.constant (value_of w q.high.terms) (value_of w q.low.terms) h)

pub unmoved : (v : ℕ → ℤ) (terms : List Term) → Moved [] v v terms
unmoved v terms = λ k d l. refl

-- inequalities that are met, as facts
pub stated_true : (v : ℕ → ℤ) (qs : List Inequality) → All (IsMet v) qs → AllHold v (stated qs)
stated_true v qs all =
    facts_true (differences_of [] qs) v
    (All-map (IsTrueAt v) (difference_of []) qs (All-weaker (IsMet v) (λ q. IsTrueAt v (difference_of [] q)) (λ q h. moved_from_met v v [] q (unmoved v q.low.terms) (unmoved v q.high.terms) h) qs all))
