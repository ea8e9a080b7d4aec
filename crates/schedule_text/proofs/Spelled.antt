-- What a line that is spelled has.
use Rattle.std.proofs.Common.{◌≡◌, ℕ, Bool, true, false, List, ◌∷◌, ◌++◌, get_or, codes, Option, Some, refl, sym, ap, ◌∙◌, subst, arith}
use Rattle.std.specs.Prelude.{IsTrue, ◌↔◌}
use Rattle.std.proofs.lemmas.List.{append_cancel_left}
use Rattle.std.proofs.lemmas.List.Folds.{list_all-append}
use Rattle.schedule_text.specs.declared.line.Line.{Line}
use Rattle.schedule_text.specs.declared.line.Line.TheVariants.{Steps, Steals}
use Rattle.schedule_text.specs.Reading.{is_not, CutAt, capped}
use Rattle.schedule_text.specs.ScheduleText.{IsNumeral, IsSpelled, stepper, Differs}
use Rattle.schedule_text.proofs.Cuts.{lacks, same_cut}
use Rattle.schedule_text.proofs.Numerals.{numeral_lacks, same_number}
use Rattle.schedule_text.proofs.Children.{children_lack}

both_lack : (front rest : List ℕ) → lacks 10 front → lacks 10 rest → lacks 10 (front ++ rest)
both_lack front rest h i = rw (list_all-append (is_not 10) front rest, h) i

-- no LF stands in a line
pub spelled_lacks : (line : List ℕ) (l : Line) → IsSpelled line l → lacks 10 line
spelled_lacks line (Steps worker count) is = subst (lacks 10) (sym is.is_spelled)
    (both_lack is.first (32 ∷ is.second) (numeral_lacks 10 is.first worker (omega arith) is.is_worker) (numeral_lacks 10 is.second count (omega arith) is.is_count))
spelled_lacks line (Steals worker task) is = subst (lacks 10) (sym is.is_spelled)
    (both_lack is.first (32 ∷ (codes "root" ++ is.rest)) (numeral_lacks 10 is.first worker (omega arith) is.is_worker) (children_lack is.rest task.numbers is.is_task))

-- the first line is what stands before the first LF
pub same_line : (text line after other more : List ℕ) (l : Line) → CutAt 10 text line after → text ≡ other ++ 10 ∷ more → IsSpelled other l → (other ≡ line) × (more ≡ after)
same_line text line after other more l cut e is = same_cut 10 other line more after (spelled_lacks other l is) cut.none_before (sym e ∙ cut.is_split)

-- a line has one stepper
pub one_stepper : (line : List ℕ) (l m : Line) → IsSpelled line l → IsSpelled line m → stepper l ≡ stepper m
one_stepper line (Steps v j) (Steps w n) is other =
    let words : is.first ++ 32 ∷ is.second ≡ other.first ++ 32 ∷ other.second = append_cancel_left (codes "step ") (is.first ++ 32 ∷ is.second) (other.first ++ 32 ∷ other.second) (sym is.is_spelled ∙ other.is_spelled) in
    let first = same_cut 32 is.first other.first is.second other.second (numeral_lacks 32 is.first v (omega arith) is.is_worker) (numeral_lacks 32 other.first w (omega arith) other.is_worker) words in
    ap Some (same_number other.first v w (subst (λ (ds : List ℕ). IsNumeral ds v) first.0 is.is_worker) other.is_worker)
one_stepper line (Steps v j) (Steals w task) is other = absurd (not_both (ap (λ (xs : List ℕ). get_or xs 3 0) (sym is.is_spelled ∙ other.is_spelled)))
  where
    not_both : ◌≡◌ {A = ℕ} 112 97 → ⊥
    not_both e = omega (arith, e)
one_stepper line (Steals v task) (Steps w n) is other = absurd (not_both (ap (λ (xs : List ℕ). get_or xs 3 0) (sym is.is_spelled ∙ other.is_spelled)))
  where
    not_both : ◌≡◌ {A = ℕ} 97 112 → ⊥
    not_both e = omega (arith, e)
one_stepper line (Steals v task) (Steals w other_task) is other = refl

pub capped_stepper : (l : Line) → stepper (capped l) ≡ stepper l
capped_stepper (Steps w n) = refl
capped_stepper (Steals w task) = refl

-- no other reading of the line could follow
pub not_next : (before : Option ℕ) (line : List ℕ) (found l m : Line) → IsSpelled line m → found ≡ capped m → IsSpelled line l → Differs before (stepper l) → Differs before (stepper found)
not_next before line found l m is e other d = subst (Differs before) (one_stepper line l m other is ∙ sym (capped_stepper m) ∙ ap stepper (sym e)) d

pub refused : (before : Option ℕ) (answer : Bool) (next : Option ℕ) (found : Line) → (IsTrue answer ↔ Differs before next) → answer ≡ false → next ≡ stepper found → Differs before (stepper found) → ⊥
refused before answer next found exact is_false same d = let yes : IsTrue answer = exact.1 (subst (Differs before) (sym same) d) in let never : false ≡ true = rw is_false at yes in absurd cc
