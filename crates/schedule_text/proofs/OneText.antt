-- Each list of events has one text, and each text one list.
use Rattle.std.proofs.Common.{◌≡◌, ℕ, zero, suc, ◌≤◌, true, eqb, List, [], ◌∷◌, ◌++◌, length, drop, get_or, codes, refl, sym, ap, ◌∙◌, subst, length-append, arith}
use Rattle.frame.specs.declared.event.Event.{Event}
use Rattle.frame.specs.declared.path.Path.{Path}
use Rattle.schedule_text.specs.declared.line.Line.{Line}
use Rattle.schedule_text.specs.declared.line.Line.TheVariants.{Steps, Steals}
use Rattle.schedule_text.specs.ScheduleText.{IsNumeral, AreChildren, IsSpelled, IsText, OneSpelling, OneReading, events_of}
use Rattle.schedule_text.proofs.Cuts.{same_cut}
use Rattle.schedule_text.proofs.Numerals.{numeral_lacks, same_number}
use Rattle.schedule_text.proofs.Children.{same_child, children_start}
use Rattle.std.proofs.lemmas.Bool.{eq-eqb}
use Rattle.std.proofs.lemmas.List.{length-drop, append_cancel_left}
use Rattle.frame.specs.declared.event.Event.TheVariants.{Step, Steal}
use Rattle.schedule_text.specs.Printing.{first_count, first_text}
use Rattle.schedule_text.proofs.Spelled.{spelled_lacks}
use Rattle.schedule_text.proofs.Printed.{Printed, none_printed, more_printed, all_printed}

-- the first line stands for some event
counts_some : (first : Event) (rest : List Event) → 1 ≤ first_count first (first ∷ rest)
counts_some (Step w) rest = let same : eqb w w ≡ true = eq-eqb w w refl in rw same (omega arith)
counts_some (Steal w task) rest = omega arith

-- two texts of one list, printed line by line
same_texts : (fuel : ℕ) (text other printed : List ℕ) (rest : List Event) → length rest ≤ fuel → Printed text printed rest → Printed other printed rest → text ≡ other
same_texts fuel text other printed [] h one two = all_printed text printed [] one refl ∙ sym (all_printed other printed [] two refl)
same_texts zero text other printed (first ∷ rest) h one two = absurd (omega (arith, h))
same_texts (suc fuel) text other printed (first ∷ rest) h one two =
    let next = more_printed text printed (first ∷ rest) first one (omega arith) refl in
    let same = more_printed other printed (first ∷ rest) first two (omega arith) refl in
    let len = length-drop (first_count first (first ∷ rest)) (first ∷ rest) in
    let some = counts_some first rest in
    same_texts fuel text other (printed ++ first_text first (first ∷ rest)) (drop (first_count first (first ∷ rest)) (first ∷ rest)) (omega (arith, len, some, h)) next same

pub one_spelling : OneSpelling
one_spelling text other events is same = same_texts (length events) text other [] events (omega arith) (none_printed text events is) (none_printed other events same)

-- ---- one reading

pub no_beginning : (b : ℕ) (front rest : List ℕ) → front ++ b ∷ rest ≡ [] → ⊥
no_beginning b front rest e = let len = ap length e in let sum = length-append front (b ∷ rest) in omega (arith, len, sum)

same_children : (text numbers others : List ℕ) → AreChildren text numbers → AreChildren text others → numbers ≡ others
same_children text [] [] h i = refl
same_children text [] (k ∷ others) h i = absurd (no_beginning 46 [] (i.0 ++ i.1) (sym i.2 ∙ h))
same_children text (j ∷ numbers) [] h i = absurd (no_beginning 46 [] (h.0 ++ h.1) (sym h.2 ∙ i))
same_children text (j ∷ numbers) (k ∷ others) h i =
    let s = same_child text h.0 h.1 k others h.2 (numeral_lacks 46 h.0 j (omega arith) h.3) (children_start h.1 numbers h.5) i in
    ap (λ (n : ℕ). n ∷ numbers) (same_number h.0 j k h.3 s.0) ∙ ap (λ (ns : List ℕ). k ∷ ns) (same_children h.1 numbers others h.5 s.2)

same_task : (task other : Path) → task.numbers ≡ other.numbers → task ≡ other
same_task task other e = ap (λ (ns : List ℕ). record { numbers = ns }) e

pub one_line : (line : List ℕ) (l m : Line) → IsSpelled line l → IsSpelled line m → l ≡ m
one_line line (Steps v j) (Steps w n) is other =
    let words : is.first ++ 32 ∷ is.second ≡ other.first ++ 32 ∷ other.second = append_cancel_left (codes "step ") (is.first ++ 32 ∷ is.second) (other.first ++ 32 ∷ other.second) (sym is.is_spelled ∙ other.is_spelled) in
    let cut = same_cut 32 is.first other.first is.second other.second (numeral_lacks 32 is.first v (omega arith) is.is_worker) (numeral_lacks 32 other.first w (omega arith) other.is_worker) words in
    ap (λ (x : ℕ). Steps x j) (same_number other.first v w (subst (λ (ds : List ℕ). IsNumeral ds v) cut.0 is.is_worker) other.is_worker)
    ∙ ap (Steps w) (same_number other.second j n (subst (λ (ds : List ℕ). IsNumeral ds j) cut.1 is.is_count) other.is_count)
one_line line (Steps v j) (Steals w task) is other = absurd (not_both (ap (λ (xs : List ℕ). get_or xs 3 0) (sym is.is_spelled ∙ other.is_spelled)))
  where
    not_both : ◌≡◌ {A = ℕ} 112 97 → ⊥
    not_both e = omega (arith, e)
one_line line (Steals v task) (Steps w n) is other = absurd (not_both (ap (λ (xs : List ℕ). get_or xs 3 0) (sym is.is_spelled ∙ other.is_spelled)))
  where
    not_both : ◌≡◌ {A = ℕ} 97 112 → ⊥
    not_both e = omega (arith, e)
one_line line (Steals v task) (Steals w other_task) is other =
    let words : is.first ++ 32 ∷ (codes "root" ++ is.rest) ≡ other.first ++ 32 ∷ (codes "root" ++ other.rest) = append_cancel_left (codes "steal ") (is.first ++ 32 ∷ (codes "root" ++ is.rest)) (other.first ++ 32 ∷ (codes "root" ++ other.rest)) (sym is.is_spelled ∙ other.is_spelled) in
    let cut = same_cut 32 is.first other.first (codes "root" ++ is.rest) (codes "root" ++ other.rest) (numeral_lacks 32 is.first v (omega arith) is.is_worker) (numeral_lacks 32 other.first w (omega arith) other.is_worker) words in
    let rest : is.rest ≡ other.rest = append_cancel_left (codes "root") is.rest other.rest cut.1 in
    ap (λ (x : ℕ). Steals x task) (same_number other.first v w (subst (λ (ds : List ℕ). IsNumeral ds v) cut.0 is.is_worker) other.is_worker)
    ∙ ap (Steals w) (same_task task other_task (same_children other.rest task.numbers other_task.numbers (subst (λ (t : List ℕ). AreChildren t task.numbers) rest is.is_task) other.is_task))

same_lines : (text : List ℕ) (lines others : List Line) → IsText text lines → IsText text others → lines ≡ others
same_lines text [] [] h i = refl
same_lines text [] (m ∷ others) h i = absurd (no_beginning 10 i.0 i.1 (sym i.2 ∙ h))
same_lines text (l ∷ lines) [] h i = absurd (no_beginning 10 h.0 h.1 (sym h.2 ∙ i))
same_lines text (l ∷ lines) (m ∷ others) h i =
    let cut = same_cut 10 h.0 i.0 h.1 i.1 (spelled_lacks h.0 l h.3) (spelled_lacks i.0 m i.3) (sym h.2 ∙ i.2) in
    ap (λ (x : Line). x ∷ lines) (one_line i.0 l m (subst (λ (t : List ℕ). IsSpelled t l) cut.0 h.3) i.3)
    ∙ ap (λ (xs : List Line). m ∷ xs) (same_lines i.1 lines others (subst (λ (t : List ℕ). IsText t lines) cut.1 h.4) i.4)

pub one_reading : OneReading
one_reading text events others is same = is.events_are ∙ ap events_of (same_lines text is.lines same.lines is.are_lines.is_text same.are_lines.is_text) ∙ sym same.events_are
