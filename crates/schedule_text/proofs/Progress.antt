-- What was read so far, and what one more line makes of it.
use Rattle.std.proofs.Common.{◌≡◌, ℕ, suc, ◌+◌, ◌-◌, ◌≤◌, ◌<◌, ◌⊎◌, inl, inr, true, false, eqb, List, [], ◌∷◌, ◌++◌, length, Option, None, refl, sym, ap, ◌∙◌, subst, append_assoc, append-nil, length-append, arith}
use Rattle.std.specs.Prelude.{replicate}
use Rattle.std.proofs.lemmas.Grind.{flat_map-append}
use Rattle.std.proofs.lemmas.List.{length-replicate}
use Rattle.frame.specs.declared.event.Event.{Event}
use Rattle.frame.specs.declared.event.Event.TheVariants as event
use Rattle.schedule_text.specs.declared.line.Line.{Line}
use Rattle.schedule_text.specs.declared.line.Line.TheVariants.{Steps, Steals}
use Rattle.schedule_text.specs.Reading.{IsNext, cap, capped}
use Rattle.schedule_text.specs.ScheduleText.{IsSpelled, IsText, AreApart, AreLines, Differs, IsSchedule, IsBadLine, IsTooLong, stepper, last_stepper, line_events, events_of, most}
use Rattle.schedule_text.proofs.Children.{nothing_left, some_left}

pub record Progress (text rest : List ℕ) (before : Option ℕ) (number : ℕ) (events : List Event) : Type 0 where
  pub lines : List Line
  pub front : List ℕ
  pub is_split : text ≡ front ++ rest
  pub are_lines : AreLines front lines
  pub is_last : before ≡ last_stepper None lines
  pub is_number : number ≡ length lines + 1
  pub are_events : events ≡ events_of lines
  pub few_lines : length lines ≤ length front

pub at_start : (text : List ℕ) → Progress text text None 1 []
at_start text = record {
  lines = [];
  front = [];
  is_split = refl;
  are_lines = record { is_text = refl; are_apart = tt; few_bytes = omega arith; few_events = omega arith };
  is_last = refl;
  is_number = refl;
  are_events = refl;
  few_lines = omega arith;
}

pub bad_line : (text rest : List ℕ) (before : Option ℕ) (number : ℕ) (events : List Event) → Progress text rest before number events → false ≡ eqb (length rest) 0 →
    ((l : Line) (line after : List ℕ) → rest ≡ line ++ 10 ∷ after → IsSpelled line l → Differs before (stepper l) → ⊥) → IsBadLine text number
bad_line text rest before number events so some none = record {
  lines = so.lines;
  before = so.front;
  rest = rest;
  is_split = so.is_split;
  are_lines = so.are_lines;
  is_number = so.is_number;
  more = some_left rest some;
  is_bad = λ l line after e is d. none l line after e is (subst (λ (b : Option ℕ). Differs b (stepper l)) (sym so.is_last) d);
}

-- ---- one more line

text_snoc : (front : List ℕ) (lines : List Line) (line : List ℕ) (l : Line) → IsText front lines → IsSpelled line l → IsText (front ++ (line ++ 10 ∷ [])) (lines ++ l ∷ [])
text_snoc front [] line l e is = (line, [], ap (λ (f : List ℕ). f ++ (line ++ 10 ∷ [])) e, is, refl)
text_snoc front (m ∷ lines) line l h is = (h.0, h.1 ++ (line ++ 10 ∷ []), ap (λ (f : List ℕ). f ++ (line ++ 10 ∷ [])) h.2 ∙ append_assoc h.0 (10 ∷ h.1) (line ++ 10 ∷ []), h.3, text_snoc h.1 lines line l h.4 is)

apart_snoc : (before : Option ℕ) (lines : List Line) (l : Line) → AreApart before lines → Differs (last_stepper before lines) (stepper l) → AreApart before (lines ++ l ∷ [])
apart_snoc before [] l h d = (d, tt)
apart_snoc before (m ∷ lines) l h d = (h.0, apart_snoc (stepper m) lines l h.1 d)

last_snoc : (before : Option ℕ) (lines : List Line) (l : Line) → last_stepper before (lines ++ l ∷ []) ≡ stepper l
last_snoc before [] l = refl
last_snoc before (m ∷ lines) l = last_snoc (stepper m) lines l

events_snoc : (lines : List Line) (l : Line) → events_of (lines ++ l ∷ []) ≡ events_of lines ++ line_events l
events_snoc lines l = flat_map-append line_events lines (l ∷ []) ∙ ap (λ (es : List Event). events_of lines ++ es) (append-nil (line_events l))

-- ---- the limits

-- a line of few events is the line that is spelled
few_capped : (l : Line) → length (line_events (capped l)) ≤ most → capped l ≡ l
few_capped (Steps w n) h = let len : length (replicate (cap n) (event.Step w)) ≡ cap n = length-replicate (cap n) (event.Step w) in
    let same : cap n ≡ n = omega (arith, len, h) in ap (Steps w) same
few_capped (Steals w task) h = refl

less_capped : (l : Line) → length (line_events (capped l)) ≤ length (line_events l)
less_capped (Steps w n) = rw (length-replicate (cap n) (event.Step w), length-replicate n (event.Step w)) (omega arith)
less_capped (Steals w task) = omega arith

bytes_of : (text rest front line after : List ℕ) → text ≡ front ++ rest → rest ≡ line ++ 10 ∷ after → length text - length after ≡ length (front ++ (line ++ 10 ∷ []))
bytes_of text rest front line after e f =
    let whole : length text ≡ length front + (length line + (suc (length after))) = ap length (e ∙ ap (λ (r : List ℕ). front ++ r) f) ∙ length-append front (line ++ 10 ∷ after) ∙ ap (λ (n : ℕ). length front + n) (length-append line (10 ∷ after)) in
    let part : length (front ++ (line ++ 10 ∷ [])) ≡ length front + (length line + suc 0) = length-append front (line ++ 10 ∷ []) ∙ ap (λ (n : ℕ). length front + n) (length-append line (10 ∷ [])) in
    omega (arith, whole, part)

pub too_long : (text rest : List ℕ) (before : Option ℕ) (number : ℕ) (events : List Event) (found : Line) (after : List ℕ) → Progress text rest before number events → IsNext before rest found after →
    ((most < length text - length after) ⊎ (most < length events + length (line_events found))) → IsTooLong text number
too_long text rest before number events found after so next over = record {
  lines = so.lines;
  before = so.front;
  line = next.line;
  after = after;
  next = next.next;
  is_split = so.is_split ∙ ap (λ (r : List ℕ). so.front ++ r) next.is_split;
  are_lines = so.are_lines;
  is_number = so.is_number;
  is_spelled = next.is_spelled;
  is_apart = subst (λ (b : Option ℕ). Differs b (stepper next.next)) so.is_last next.is_apart;
  is_over = elim over [
    | inl w ↦ inl (subst (λ (n : ℕ). most < n) (bytes_of text rest so.front next.line after so.is_split next.is_split) w)
    | inr w ↦ inr (more_events w)
  ];
}
  where
    more_events : most < length events + length (line_events found) → most < length (events_of so.lines ++ line_events next.next)
    more_events w =
        let less : length (line_events found) ≤ length (line_events next.next) = subst (λ (l : Line). length (line_events l) ≤ length (line_events next.next)) (sym next.is_found) (less_capped next.next) in
        let sum : length (events_of so.lines ++ line_events next.next) ≡ length events + length (line_events next.next) = length-append (events_of so.lines) (line_events next.next) ∙ ap (λ (es : List Event). length es + length (line_events next.next)) (sym so.are_events) in
        omega (arith, less, sum, w)

pub one_more_line : (text rest : List ℕ) (before : Option ℕ) (number : ℕ) (events : List Event) (found : Line) (after : List ℕ) → Progress text rest before number events → IsNext before rest found after →
    (length text - length after ≤ most) × (length events + length (line_events found) ≤ most) → Progress text after (stepper found) (number + 1) (events ++ line_events found)
one_more_line text rest before number events found after so next within =
    let few_bytes = within.0 in
    let few_events = within.1 in
    let small : length (line_events (capped next.next)) ≤ most = subst (λ (l : Line). length (line_events l) ≤ most) next.is_found (omega (arith, few_events)) in
    let same : found ≡ next.next = next.is_found ∙ few_capped next.next small in
    let bytes = bytes_of text rest so.front next.line after so.is_split next.is_split in
    let apart : Differs (last_stepper None so.lines) (stepper next.next) = subst (λ (b : Option ℕ). Differs b (stepper next.next)) so.is_last next.is_apart in
    let all : events_of (so.lines ++ next.next ∷ []) ≡ events ++ line_events found = events_snoc so.lines next.next ∙ ap (λ (es : List Event). es ++ line_events next.next) (sym so.are_events) ∙ ap (λ (l : Line). events ++ line_events l) (sym same) in
    record {
      lines = so.lines ++ next.next ∷ [];
      front = so.front ++ (next.line ++ 10 ∷ []);
      is_split = so.is_split ∙ ap (λ (r : List ℕ). so.front ++ r) next.is_split ∙ sym (regroup so.front next.line after);
      are_lines = record {
        is_text = text_snoc so.front so.lines next.line next.next so.are_lines.is_text next.is_spelled;
        are_apart = apart_snoc None so.lines next.next so.are_lines.are_apart apart;
        few_bytes = subst (λ (n : ℕ). n ≤ most) bytes few_bytes;
        few_events = rw (all, length-append events (line_events found)) few_events;
      };
      is_last = ap stepper same ∙ sym (last_snoc None so.lines next.next);
      is_number = rw (length-append so.lines (next.next ∷ [])) (omega (arith, so.is_number));
      are_events = sym all;
      few_lines = rw (length-append so.lines (next.next ∷ []), length-append so.front (next.line ++ 10 ∷ []), length-append next.line (10 ∷ [])) (omega (arith, so.few_lines));
    }
  where
    regroup : (front line after : List ℕ) → (front ++ (line ++ 10 ∷ [])) ++ after ≡ front ++ (line ++ 10 ∷ after)
    regroup front line after = append_assoc front (line ++ 10 ∷ []) after ∙ ap (λ (r : List ℕ). front ++ r) (append_assoc line (10 ∷ []) after)

pub is_schedule : (text rest : List ℕ) (before : Option ℕ) (number : ℕ) (events : List Event) → Progress text rest before number events → true ≡ eqb (length rest) 0 → IsSchedule text events
is_schedule text rest before number events so none =
    let whole : so.front ≡ text = sym (append-nil so.front) ∙ ap (λ (r : List ℕ). so.front ++ r) (sym (nothing_left rest none)) ∙ sym so.is_split in
    record { lines = so.lines; are_lines = subst (λ (t : List ℕ). AreLines t so.lines) whole so.are_lines; events_are = so.are_events }

pub few_so_far : (text rest : List ℕ) (before : Option ℕ) (number : ℕ) (events : List Event) → Progress text rest before number events → length events ≤ most
few_so_far text rest before number events so = rw so.are_events so.are_lines.few_events

pub less_left : (before : Option ℕ) (text : List ℕ) (found : Line) (after : List ℕ) → IsNext before text found after → length after < length text
less_left before text found after next = let all : length text ≡ length next.line + suc (length after) = ap length next.is_split ∙ length-append next.line (10 ∷ after) in omega (arith, all)
