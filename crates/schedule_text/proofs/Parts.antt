-- A line is made of its words in one way.
use Rattle.std.proofs.Common.{◌≡◌, ◌≢◌, ℕ, ◌≤◌, min, List, ◌∷◌, ◌++◌, codes, Option, Some, None, sym, ap, ◌∙◌, subst, arith}
use Rattle.std.specs.Option.{MatchOption, IfSome, IfNone}
use denote.Bor.{Bor}
use Rattle.std.proofs.lemmas.List.{append_cancel_left}
use Rattle.frame.specs.declared.path.Path.{Path}
use Rattle.schedule_text.specs.Reading.{CutAt, AreStealWords}
use Rattle.schedule_text.specs.ScheduleText.{IsNumeral, IsStepping, IsStealing, AreChildren}
use Rattle.schedule_text.proofs.Cuts.{same_cut}
use Rattle.schedule_text.proofs.Numerals.{numeral_lacks, same_number}

-- the words of a line behind the first of them
first_word : (words first rest front more : List ℕ) (n : ℕ) → CutAt 32 words front more → words ≡ first ++ 32 ∷ rest → IsNumeral first n → (first ≡ front) × (rest ≡ more)
first_word words first rest front more n cut e is = same_cut 32 first front rest more (numeral_lacks 32 first n (omega arith) is) cut.none_before (sym e ∙ cut.is_split)

pub step_words : (line words front more : List ℕ) (worker n : ℕ) → line ≡ codes "step " ++ words → CutAt 32 words front more → IsStepping line worker n → IsNumeral front worker × (worker ≤ 63) × IsNumeral more n × (1 ≤ n)
step_words line words front more worker n e cut is =
    let w = first_word words is.first is.second front more worker cut (append_cancel_left (codes "step ") words (is.first ++ 32 ∷ is.second) (sym e ∙ is.is_spelled)) is.is_worker in
    (subst (λ (ds : List ℕ). IsNumeral ds worker) w.0 is.is_worker, is.within, subst (λ (ds : List ℕ). IsNumeral ds n) w.1 is.is_count, is.some)

pub stepping : (line words front more : List ℕ) (worker n : ℕ) {count : ℕ} → line ≡ codes "step " ++ words → CutAt 32 words front more → IsNumeral front worker → worker ≤ 63 → IsNumeral more n → count ≡ min n 18446744073709551615 → count ≢ 0 →
    IsStepping line worker n
stepping line words front more worker n e cut is within counted capped some = record {
  first = front;
  second = more;
  is_spelled = e ∙ ap (λ (w : List ℕ). codes "step " ++ w) cut.is_split;
  is_worker = is;
  within = within;
  is_count = counted;
  some = omega (arith, capped, some);
}

pub steal_words : (line words front more : List ℕ) (worker : ℕ) (task : Path) → line ≡ codes "steal " ++ words → CutAt 32 words front more → IsStealing line worker task →
    IsNumeral front worker × (worker ≤ 63) × ((rest : List ℕ) × (more ≡ codes "root" ++ rest) × AreChildren rest task.numbers)
steal_words line words front more worker task e cut is =
    let w = first_word words is.first (codes "root" ++ is.rest) front more worker cut (append_cancel_left (codes "steal ") words (is.first ++ 32 ∷ (codes "root" ++ is.rest)) (sym e ∙ is.is_spelled)) is.is_worker in
    (subst (λ (ds : List ℕ). IsNumeral ds worker) w.0 is.is_worker, is.within, (is.rest, sym w.1, is.is_task))

-- what stands behind `root` is the path of any steal that the line spells
pub task_of : (line : List ℕ) (v : ℕ) (rest : List ℕ) (worker : ℕ) (task : Path) → AreStealWords line v rest → IsStealing line worker task → AreChildren rest task.numbers
task_of line v rest worker task words is =
    let whole : is.first ++ 32 ∷ (codes "root" ++ is.rest) ≡ words.first ++ 32 ∷ (codes "root" ++ rest) = append_cancel_left (codes "steal ") (is.first ++ 32 ∷ (codes "root" ++ is.rest)) (words.first ++ 32 ∷ (codes "root" ++ rest)) (sym is.is_spelled ∙ words.is_spelled) in
    let w = same_cut 32 is.first words.first (codes "root" ++ is.rest) (codes "root" ++ rest) (numeral_lacks 32 is.first worker (omega arith) is.is_worker) (numeral_lacks 32 words.first v (omega arith) words.is_worker) whole in
    subst (λ (text : List ℕ). AreChildren text task.numbers) (append_cancel_left (codes "root") is.rest rest w.1) is.is_task

-- a text with a beginning, as its two cases
pub beginning : (text front : List ℕ) (r : Option (Bor (List ℕ))) → MatchOption r ((rest : List ℕ) → text ≢ front ++ rest) (λ x. text ≡ front ++ x.now) →
    IfSome r (λ x. text ≡ front ++ x.now) × IfNone r ((rest : List ℕ) → text ≡ front ++ rest → ⊥)
beginning text front None h = (tt, h)
beginning text front (Some x) h = (h, tt)

pub no_steps : (digits : List ℕ) (n m count : ℕ) → IsNumeral digits n → 1 ≤ n → IsNumeral digits m → count ≡ min m 18446744073709551615 → count ≡ 0 → ⊥
no_steps digits n m count is some other capped none = let same = same_number digits n m is other in omega (arith, same, some, capped, none)

pub joined : (line words front more rest : List ℕ) → line ≡ codes "steal " ++ words → words ≡ front ++ 32 ∷ more → more ≡ codes "root" ++ rest → line ≡ codes "steal " ++ front ++ 32 ∷ (codes "root" ++ rest)
joined line words front more rest e f g = e ∙ ap (λ (w : List ℕ). codes "steal " ++ w) (f ∙ ap (λ (w : List ℕ). front ++ 32 ∷ w) g)
