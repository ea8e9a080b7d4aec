-- The numbers of a path, one after another.
use Rattle.std.proofs.Common.{◌≡◌, ◌≢◌, ℕ, suc, ◌+◌, ◌≤◌, ◌<◌, true, false, eqb, List, [], ◌∷◌, ◌++◌, length, drop, refl, sym, ap, ◌∙◌, subst, append_assoc, append-nil, length-append, arith}
use Rattle.std.specs.List.{prefix_len}
use Rattle.std.proofs.lemmas.List.Folds.{list_all-append}
use Rattle.std.proofs.lemmas.Bool.{eqb-true}
use Rattle.schedule_text.specs.Reading.{is_not, IsFirstChild}
use Rattle.schedule_text.specs.ScheduleText.{IsNumeral, AreChildren}
use Rattle.schedule_text.proofs.Cuts.{lacks, starts, same_front}
use Rattle.schedule_text.proofs.Numerals.{numeral_lacks, same_number}

pub children_start : (text numbers : List ℕ) → AreChildren text numbers → prefix_len (is_not 46) text ≡ 0
children_start text [] h = subst (λ (t : List ℕ). prefix_len (is_not 46) t ≡ 0) (sym h) refl
children_start text (k ∷ numbers) h = subst (λ (t : List ℕ). prefix_len (is_not 46) t ≡ 0) (sym h.2) (starts 46 (h.0 ++ h.1))

-- the first number of a path is spelled by the digits before the next dot
pub same_child : (text digits rest : List ℕ) (k : ℕ) (numbers : List ℕ) → text ≡ 46 ∷ digits ++ rest → lacks 46 digits → prefix_len (is_not 46) rest ≡ 0 → AreChildren text (k ∷ numbers) →
    IsNumeral digits k × (k ≤ 1000000000000) × AreChildren rest numbers
same_child text digits rest k numbers e digital start h =
    let s = same_front 46 h.0 digits h.1 rest (numeral_lacks 46 h.0 k (omega arith) h.3) digital (children_start h.1 numbers h.5) start (ap (drop 1) (sym h.2 ∙ e)) in
    (subst (λ (ds : List ℕ). IsNumeral ds k) s.0 h.3, h.4, subst (λ (t : List ℕ). AreChildren t numbers) s.1 h.5)

-- so far read
pub record Children (text rest numbers : List ℕ) : Type 0 where
  pub sound : (more : List ℕ) → AreChildren rest more → AreChildren text (numbers ++ more)
  pub complete : (all : List ℕ) → AreChildren text all → (more : List ℕ) × (all ≡ numbers ++ more) × AreChildren rest more

pub none_yet : (text : List ℕ) → Children text text []
none_yet text = record { sound = λ more h. h; complete = λ all h. (all, refl, h) }

longer : (numbers : List ℕ) (k : ℕ) (more : List ℕ) → (numbers ++ (k ∷ [])) ++ more ≡ numbers ++ k ∷ more
longer numbers k more = append_assoc numbers (k ∷ []) more

pub one_more : (text rest numbers : List ℕ) (k : ℕ) (after : List ℕ) → Children text rest numbers → IsFirstChild rest k after → Children text after (numbers ++ (k ∷ []))
one_more text rest numbers k after so f = record {
  sound = λ more h. subst (AreChildren text) (sym (longer numbers k more)) (so.sound (k ∷ more) (f.digits, after, f.is_split, f.is_number, f.within, h));
  complete = λ all h. let c = so.complete all h in next all c.0 c.1 c.2;
}
  where
    next : (all more : List ℕ) → all ≡ numbers ++ more → AreChildren rest more → (later : List ℕ) × (all ≡ (numbers ++ (k ∷ [])) ++ later) × AreChildren after later
    next all [] e h = absurd (nothing (sym f.is_split ∙ h))
      where
        nothing : {x : ℕ} {xs : List ℕ} → x ∷ xs ≡ [] → ⊥
        nothing e = cc
    next all (j ∷ more) e h =
        let s = same_child rest f.digits after j more f.is_split (numeral_lacks 46 f.digits k (omega arith) f.is_number) f.starts h in
        let same : j ≡ k = same_number f.digits j k s.0 f.is_number in
        (more, e ∙ ap (λ (n : ℕ). numbers ++ n ∷ more) same ∙ sym (longer numbers k more), s.2)

-- a number takes at least the dot
pub child_shorter : (text : List ℕ) (k : ℕ) (rest : List ℕ) → IsFirstChild text k rest → length rest < length text
child_shorter text k rest f = let all : length text ≡ suc (length f.digits + length rest) = ap length f.is_split ∙ ap suc (length-append f.digits rest) in omega (arith, all)

pub nothing_left : (rest : List ℕ) → true ≡ eqb (length rest) 0 → rest ≡ []
nothing_left [] e = refl
nothing_left (x ∷ rest) e = absurd (omega (arith, eqb-true (length (x ∷ rest)) 0 (sym e)))

pub some_left : (rest : List ℕ) → false ≡ eqb (length rest) 0 → rest ≢ []
some_left [] e = λ h. absurd cc
some_left (x ∷ rest) e = λ h. absurd cc

pub all_read : (text rest numbers : List ℕ) → Children text rest numbers → true ≡ eqb (length rest) 0 → AreChildren text numbers
all_read text rest numbers so e = subst (AreChildren text) (append-nil numbers) (so.sound [] (nothing_left rest e))

pub none_left : (text rest numbers : List ℕ) → Children text rest numbers → rest ≢ [] → ((k : ℕ) (more : List ℕ) → AreChildren rest (k ∷ more) → ⊥) → (all : List ℕ) → AreChildren text all → ⊥
none_left text rest numbers so some none all h = let c = so.complete all h in case c.0 c.2
  where
    case : (more : List ℕ) → AreChildren rest more → ⊥
    case [] h = some h
    case (k ∷ more) h = none k more h

pub behind_dot : (text children digits rest : List ℕ) → text ≡ 46 ∷ children → children ≡ digits ++ rest → text ≡ 46 ∷ digits ++ rest
behind_dot text children digits rest e f = e ∙ ap (λ (xs : List ℕ). 46 ∷ xs) f

-- a path has no LF
pub children_lack : (text numbers : List ℕ) → AreChildren text numbers → lacks 10 text
children_lack text [] h = subst (lacks 10) (sym h) refl
children_lack text (k ∷ numbers) h = subst (lacks 10) (sym h.2) (rw (list_all-append (is_not 10) h.0 h.1, numeral_lacks 10 h.0 k (omega arith) h.3) (children_lack h.1 numbers h.5))
