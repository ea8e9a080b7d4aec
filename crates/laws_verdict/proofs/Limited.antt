-- Of forms within their limits modest sums are asked.
use Rattle.std.proofs.Common.{◌≡◌, ◌∙◌, ℕ, ◌+◌, ◌*◌, ◌≤◌, ℤ, pos, negsuc, ◌*ℤ◌, ◌-ℤ◌, Bool, true, false, List, [], ◌∷◌, ◌++◌, refl, ap, arith}
use Rattle.std.specs.Prelude.{◌==◌, if◌then◌else◌, sum_by, unsigned_abs}
use Rattle.std.specs.List.{All}
use Rattle.std.proofs.lemmas.Int.{ints, unsigned_abs-mul}
use Rattle.std.proofs.lemmas.List.Elements.{All-append, All-cons, All-nil, All-rest}
use Rattle.std.proofs.lemmas.List.Sums.{sum_by-append, sum_by-cons}
use Rattle.linear.specs.declared.form.RegisterId.{RegisterId}
use Rattle.linear.specs.declared.form.Term.{Term}
use Rattle.linear.specs.Terms.{Combination}
use Rattle.program.specs.declared.instruction.Operand.{Operand}
use Rattle.cfg.specs.declared.structure.Move.{Move}
use Rattle.ranges.specs.ranges_owed.declared.sum.Part.{Part}
use Rattle.ranges.specs.ranges_owed.Inequalities.{operand_for, part_of, parts_of}
use Rattle.laws_verdict.specs.Sums.{IsWord}
use Rattle.laws_verdict.specs.Limited.{weight, IsLimited, AreWords, LimitedFormsAskLittle}

abs_less : (a b : ℤ) → unsigned_abs (a -ℤ b) ≤ unsigned_abs a + unsigned_abs b
abs_less a b = omega (arith, ints)

abbrev factors : List Part → ℕ
factors ps = sum_by (λ (p : Part). unsigned_abs p.factor) ps

abbrev AreAllWords : List Part → Type 0
AreAllWords ps = All (λ (p : Part). IsWord p.operand) ps

-- ---- of one form

form_size : (moves : List Move) (sign : ℤ) → unsigned_abs sign ≡ 1 → (ts : List Term) → factors (parts_of moves sign ts) ≡ weight ts
form_size moves sign e [] = refl
form_size moves sign e (t ∷ ts) =
    let product : unsigned_abs (sign *ℤ t.coefficient) ≡ unsigned_abs sign * unsigned_abs t.coefficient = unsigned_abs-mul sign t.coefficient in
    let here : unsigned_abs (sign *ℤ t.coefficient) ≡ unsigned_abs t.coefficient = product ∙ ap (λ (n : ℕ). n * unsigned_abs t.coefficient) e ∙ omega arith in
    let rest = form_size moves sign e ts in
    let split : factors (parts_of moves sign (t ∷ ts)) ≡ unsigned_abs (sign *ℤ t.coefficient) + factors (parts_of moves sign ts) = sum_by-cons (λ (p : Part). unsigned_abs p.factor) (part_of moves sign t) (parts_of moves sign ts) in
    let parted : weight (t ∷ ts) ≡ unsigned_abs t.coefficient + weight ts = sum_by-cons (λ (u : Term). unsigned_abs u.coefficient) t ts in
    omega (arith, here, rest, split, parted)

limited_size : (moves : List Move) (sign : ℤ) → unsigned_abs sign ≡ 1 → (f : Combination) → IsLimited f → factors (parts_of moves sign f.terms) ≤ 4000000
limited_size moves sign e f limited =
    let size = form_size moves sign e f.terms in
    let few = limited.weight in
    omega (arith, size, few)

chosen : (b : Bool) (x y : Operand) → IsWord x → IsWord y → IsWord (if b then x else y)
chosen true x y h k = h
chosen false x y h k = k

operand_word : (moves : List Move) → AreWords moves → (r : RegisterId) → IsWord (operand_for moves r)
operand_word [] words r = tt
operand_word (m ∷ moves) words r = chosen (m.register.0 == r.0) m.value (operand_for moves r) (words 0 m (omega arith))
    (operand_word moves (All-rest (λ (n : Move). IsWord n.value) m moves (m ∷ moves) refl words) r)

form_words : (moves : List Move) → AreWords moves → (sign : ℤ) (ts : List Term) → AreAllWords (parts_of moves sign ts)
form_words moves words sign [] = All-nil (λ (p : Part). IsWord p.operand)
form_words moves words sign (t ∷ ts) = All-cons (λ (p : Part). IsWord p.operand) (part_of moves sign t) (parts_of moves sign ts) (operand_word moves words t.register) (form_words moves words sign ts)

-- ---- together

joined_size : (xs ys : List Part) → factors (xs ++ ys) ≡ factors xs + factors ys
joined_size xs ys = sum_by-append (λ (p : Part). unsigned_abs p.factor) xs ys

joined_words : (xs ys : List Part) → AreAllWords xs → AreAllWords ys → AreAllWords (xs ++ ys)
joined_words xs ys h k = All-append (λ (p : Part). IsWord p.operand) xs ys h k

pub none_moved : AreWords []
none_moved = All-nil (λ (m : Move). IsWord m.value)

pub limited_forms_ask_little : LimitedFormsAskLittle
limited_forms_ask_little = record {
  differences = λ for_high for_low high low words words' h k.
      let xs : List Part = parts_of for_high (pos 1) high.terms in
      let ys : List Part = parts_of for_low (negsuc 0) low.terms in
      let one = limited_size for_high (pos 1) refl high h in
      let two = limited_size for_low (negsuc 0) refl low k in
      let both = joined_size xs ys in
      let constant = abs_less high.constant low.constant in
      let c = h.constant in
      let d = k.constant in
      record {
        factors = omega (arith, one, two, both);
        numbers = joined_words xs ys (form_words for_high words (pos 1) high.terms) (form_words for_low words' (negsuc 0) low.terms);
        constant = omega (arith, constant, c, d);
      };
  rests = λ moves left next other done words h k l less.
      let xs : List Part = parts_of [] (pos 1) left.terms in
      let ys : List Part = parts_of moves (negsuc 0) next.terms in
      let zs : List Part = parts_of [] (negsuc 0) other.terms in
      let one = limited_size [] (pos 1) refl left h in
      let two = limited_size moves (negsuc 0) refl next k in
      let three = limited_size [] (negsuc 0) refl other l in
      let both = joined_size xs ys in
      let all = joined_size (xs ++ ys) zs in
      let first = abs_less left.constant (pos done) in
      let second = abs_less (left.constant -ℤ pos done) next.constant in
      let third = abs_less ((left.constant -ℤ pos done) -ℤ next.constant) other.constant in
      let b = h.constant in
      let c = k.constant in
      let d = l.constant in
      record {
        factors = omega (arith, one, two, three, both, all);
        numbers = joined_words (xs ++ ys) zs (joined_words xs ys (form_words [] none_moved (pos 1) left.terms) (form_words moves words (negsuc 0) next.terms)) (form_words [] none_moved (negsuc 0) other.terms);
        constant = omega (arith, first, second, third, b, c, d, less);
      };
}
