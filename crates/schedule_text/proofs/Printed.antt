-- What was printed so far of a text that spells the events.
use Rattle.std.proofs.Common.{◌≡◌, ℕ, zero, suc, ◌+◌, ◌≤◌, ◌<◌, ◌^◌, inl, inr, true, false, eqb, List, [], ◌∷◌, ◌++◌, length, get_or, drop, codes, Option, Some, None, refl, sym, ap, ◌∙◌, subst, append_assoc, append-nil, length-append, arith}
use Rattle.std.specs.Prelude.{replicate, decimal, flat_map, ◌&&◌, nat_le}
use Rattle.std.specs.List.{prefix_len, list_all}
use Rattle.std.proofs.lemmas.Fmt.{decimal-digits_value}
use Rattle.std.proofs.lemmas.Bool.{eqb-true, eq-eqb, and_parts, or_cases}
use Rattle.std.proofs.lemmas.Bool.Decides.{nat_tests}
use Rattle.std.specs.Char.{is_ascii_digit}
use Rattle.schedule_text.proofs.Cuts.{by_test}
use Rattle.std.proofs.lemmas.List.{length-replicate, length-drop}
use Rattle.std.proofs.Math.Seq.{drop-append_seam}
use Rattle.frame.specs.declared.event.Event.{Event}
use Rattle.frame.specs.declared.event.Event.TheVariants.{Step, Steal}
use Rattle.ir_lex.specs.Numerals.{is_numeral}
use Rattle.ir_lex.proofs.Digits.{own}
use Rattle.ir_lex.proofs.Numerals.{numeral_digits}
use Rattle.schedule_text.specs.declared.line.Line.{Line}
use Rattle.schedule_text.specs.declared.line.Line.TheVariants.{Steps, Steals}
use Rattle.schedule_text.specs.ScheduleText.{IsNumeral, AreChildren, IsSpelled, IsText, AreApart, IsSchedule, stepper, line_events, events_of, most}
use Rattle.schedule_text.specs.Printing.{child_text, steps_text, steal_text, is_step_of, first_count, first_text}

numeral_some : (digits : List ℕ) → is_numeral digits ≡ true → 0 < length digits
numeral_some [] h = absurd cc
numeral_some (d ∷ ds) h = omega arith

numeral_zero : (digits : List ℕ) → is_numeral digits ≡ true → get_or digits 0 0 ≡ 48 → length digits ≡ 1
numeral_zero [] h e = absurd cc
numeral_zero (d ∷ ds) h e = elim (or_cases (eqb d 48 && eqb (length ds) 0) ((nat_le 49 d && nat_le d 57) && list_all is_ascii_digit ds) h) [
  | inl w ↦ let none : length ds ≡ 0 = eqb-true (length ds) 0 (and_parts (eqb d 48) (eqb (length ds) 0) w).1 in omega (arith, none)
  | inr w ↦
      let range = and_parts (nat_le 49 d && nat_le d 57) (list_all is_ascii_digit ds) w in
      let low : nat_le 49 d ≡ true = (and_parts (nat_le 49 d) (nat_le d 57) range.0).0 in
      let more : 49 ≤ d = grind (arith, nat_tests) in
      let less : d ≡ 48 = e in
      absurd (omega (arith, more, less))
]

-- a numeral is what is printed of its number
pub numeral_text : (digits : List ℕ) (n : ℕ) → IsNumeral digits n → n < 2 ^ 64 → digits ≡ decimal n
numeral_text digits n is small = sym (decimal-digits_value own digits (numeral_digits digits is.is_spelled) (numeral_some digits is.is_spelled) (numeral_zero digits is.is_spelled) (rw is.value small)) ∙ ap decimal is.value

children_text : (text numbers : List ℕ) → AreChildren text numbers → text ≡ flat_map child_text numbers
children_text text [] h = h
children_text text (k ∷ numbers) h = h.2 ∙ ap (λ (ds : List ℕ). 46 ∷ (ds ++ h.1)) (numeral_text h.0 k h.3 (omega (arith, h.4))) ∙ ap (λ (r : List ℕ). 46 ∷ (decimal k ++ r)) (children_text h.1 numbers h.5)

abbrev pub line_text : Line → List ℕ
line_text (Steps worker count) = steps_text worker count
line_text (Steals worker task) = steal_text worker task.numbers

-- a line with its LF
pub spelled_text : (line : List ℕ) (l : Line) → IsSpelled line l → length (line_events l) ≤ most → line ++ 10 ∷ [] ≡ line_text l
spelled_text line (Steps worker count) is few =
    let len = length-replicate count (Step worker) in
    ap (λ (t : List ℕ). t ++ 10 ∷ []) (is.is_spelled ∙ ap (λ (ds : List ℕ). codes "step " ++ ds ++ 32 ∷ is.second) (numeral_text is.first worker is.is_worker (omega (arith, is.within)))
    ∙ ap (λ (ds : List ℕ). codes "step " ++ decimal worker ++ 32 ∷ ds) (numeral_text is.second count is.is_count (omega (arith, len, few))) ∙ sym (append_assoc (codes "step " ++ decimal worker) (32 ∷ []) (decimal count)))
spelled_text line (Steals worker task) is few =
    ap (λ (t : List ℕ). t ++ 10 ∷ []) (is.is_spelled ∙ ap (λ (ds : List ℕ). codes "steal " ++ ds ++ 32 ∷ (codes "root" ++ is.rest)) (numeral_text is.first worker is.is_worker (omega (arith, is.within)))
    ∙ ap (λ (r : List ℕ). codes "steal " ++ decimal worker ++ 32 ∷ (codes "root" ++ r)) (children_text is.rest task.numbers is.is_task)
    ∙ sym (append_assoc (codes "steal " ++ decimal worker) (codes " root") (flat_map child_text task.numbers)))

pub record Printed (whole printed : List ℕ) (rest : List Event) : Type 0 where
  pub lines : List Line
  pub before : Option ℕ
  pub tail : List ℕ
  pub is_split : whole ≡ printed ++ tail
  pub is_text : IsText tail lines
  pub are_apart : AreApart before lines
  pub are_events : rest ≡ events_of lines
  pub few : length rest ≤ most

pub none_printed : (whole : List ℕ) (events : List Event) → IsSchedule whole events → Printed whole [] events
none_printed whole events is = record {
  lines = is.lines;
  before = None;
  tail = whole;
  is_split = refl;
  is_text = is.are_lines.is_text;
  are_apart = is.are_lines.are_apart;
  are_events = is.events_are;
  few = rw is.events_are is.are_lines.few_events;
}

-- ---- one more line

steps_count : (worker n : ℕ) (events : List Event) → prefix_len (is_step_of worker) (replicate n (Step worker) ++ events) ≡ n + prefix_len (is_step_of worker) events
steps_count worker zero events = omega arith
steps_count worker (suc n) events = let same : eqb worker worker ≡ true = eq-eqb worker worker refl in let later = steps_count worker n events in rw same (omega (arith, later))

-- what follows steps of a worker is none of its steps
no_more_steps : (worker : ℕ) (text : List ℕ) (lines : List Line) → IsText text lines → AreApart (Some worker) lines → prefix_len (is_step_of worker) (events_of lines) ≡ 0
no_more_steps worker text [] h apart = refl
no_more_steps worker text (Steps v zero ∷ lines) h apart = absurd (omega (arith, h.3.some))
no_more_steps worker text (Steps v (suc n) ∷ lines) h apart = by_test (eqb v worker) (λ (e : eqb v worker ≡ true). absurd (apart.0 (sym (eqb-true v worker e)))) (λ (e : eqb v worker ≡ false). rw e refl)
no_more_steps worker text (Steals v task ∷ lines) h apart = refl

steps_first : (worker n : ℕ) (events : List Event) (first : Event) → 1 ≤ n → first ≡ get_or (replicate n (Step worker) ++ events) 0 first → first ≡ Step worker
steps_first worker zero events first some e = absurd (omega (arith, some))
steps_first worker (suc n) events first some e = e

drop_steps : (worker n : ℕ) (events : List Event) → drop n (replicate n (Step worker) ++ events) ≡ events
drop_steps worker n events = ap (λ (k : ℕ). drop k (replicate n (Step worker) ++ events)) (sym (length-replicate n (Step worker))) ∙ drop-append_seam (replicate n (Step worker)) events

-- the line that is printed is the next one of the text
next_line : (rest : List Event) (first : Event) (l : Line) (lines : List Line) (text line after : List ℕ) → rest ≡ events_of (l ∷ lines) → first ≡ get_or rest 0 first → length rest ≤ most → IsSpelled line l → IsText after lines → AreApart (stepper l) lines →
    (first_text first rest ≡ line ++ 10 ∷ []) × (drop (first_count first rest) rest ≡ events_of lines)
next_line rest first (Steps worker count) lines text line after are head few is later apart =
    let whole : rest ≡ replicate count (Step worker) ++ events_of lines = are in
    let front : first ≡ Step worker = steps_first worker count (events_of lines) first is.some (subst (λ (es : List Event). first ≡ get_or es 0 first) whole head) in
    let number : prefix_len (is_step_of worker) rest ≡ count = ap (prefix_len (is_step_of worker)) whole ∙ steps_count worker count (events_of lines) ∙ let none = no_more_steps worker after lines later apart in omega (arith, none) in
    let len : length (replicate count (Step worker)) ≡ count = length-replicate count (Step worker) in
    let sum : length rest ≡ length (replicate count (Step worker)) + length (events_of lines) = ap length whole ∙ length-append (replicate count (Step worker)) (events_of lines) in
    let small : length (line_events (Steps worker count)) ≤ most = omega (arith, len, sum, few) in (
      ap (λ (e : Event). first_text e rest) front ∙ ap (steps_text worker) number ∙ sym (spelled_text line (Steps worker count) is small),
      ap (λ (e : Event). drop (first_count e rest) rest) front ∙ ap (λ (n : ℕ). drop n rest) number ∙ ap (drop count) whole ∙ drop_steps worker count (events_of lines),
    )
next_line rest first (Steals worker task) lines text line after are head few is later apart =
    let whole : rest ≡ Steal worker task ∷ events_of lines = are in
    let front : first ≡ Steal worker task = subst (λ (es : List Event). first ≡ get_or es 0 first) whole head in (
      ap (λ (e : Event). first_text e rest) front ∙ sym (spelled_text line (Steals worker task) is (omega arith)),
      ap (λ (e : Event). drop (first_count e rest) rest) front ∙ ap (drop 1) whole,
    )

pub more_printed : (whole printed : List ℕ) (rest : List Event) (first : Event) → Printed whole printed rest → 0 < length rest → first ≡ get_or rest 0 first → Printed whole (printed ++ first_text first rest) (drop (first_count first rest) rest)
more_printed whole printed rest first so some head = go so.lines so.before so.tail so.is_split so.is_text so.are_apart so.are_events
  where
    go : (lines : List Line) (before : Option ℕ) (tail : List ℕ) → whole ≡ printed ++ tail → IsText tail lines → AreApart before lines → rest ≡ events_of lines → Printed whole (printed ++ first_text first rest) (drop (first_count first rest) rest)
    go [] before tail split text apart are = absurd (nothing (ap length are) some)
      where
        nothing : length rest ≡ 0 → 0 < length rest → ⊥
        nothing e h = omega (arith, e, h)
    go (l ∷ lines) before tail split text apart are =
        let next = next_line rest first l lines tail text.0 text.1 are head so.few text.3 text.4 apart.1 in
        let len = length-drop (first_count first rest) rest in
        record {
          lines = lines;
          before = stepper l;
          tail = text.1;
          is_split = split ∙ ap (λ (t : List ℕ). printed ++ t) (text.2 ∙ sym (append_assoc text.0 (10 ∷ []) text.1)) ∙ sym (append_assoc printed (text.0 ++ 10 ∷ []) text.1) ∙ ap (λ (t : List ℕ). (printed ++ t) ++ text.1) (sym next.0);
          is_text = text.4;
          are_apart = apart.1;
          are_events = next.1;
          few = omega (arith, len, so.few);
        }

pub all_printed : (whole printed : List ℕ) (rest : List Event) → Printed whole printed rest → true ≡ eqb (length rest) 0 → whole ≡ printed
all_printed whole printed rest so none = so.is_split ∙ ap (λ (t : List ℕ). printed ++ t) (go so.lines so.tail so.is_text so.are_events) ∙ append-nil printed
  where
    empty : length rest ≡ 0
    empty = eqb-true (length rest) 0 (sym none)

    go : (lines : List Line) (tail : List ℕ) → IsText tail lines → rest ≡ events_of lines → tail ≡ []
    go [] tail text are = text
    go (Steps worker zero ∷ lines) tail text are = absurd (omega (arith, text.3.some))
    go (Steps worker (suc n) ∷ lines) tail text are = absurd (let len = ap length are in omega (arith, len, empty))
    go (Steals worker task ∷ lines) tail text are = absurd (let len = ap length are in omega (arith, len, empty))

pub some_events : (rest : List Event) → false ≡ eqb (length rest) 0 → 0 < length rest
some_events [] e = absurd cc
some_events (x ∷ rest) e = omega arith
