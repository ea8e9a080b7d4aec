-- A text with a fault spells no events.
use Rattle.std.proofs.Common.{◌≡◌, ℕ, suc, ◌+◌, ◌≤◌, ◌<◌, inl, inr, Bool, true, false, List, [], ◌∷◌, ◌++◌, length, Option, None, refl, sym, ap, ◌∙◌, subst, append_assoc, length-append, arith}
use Rattle.std.specs.Prelude.{IsTrue, ◌↔◌}
use Rattle.std.proofs.lemmas.Grind.{flat_map-append}
use Rattle.frame.specs.declared.event.Event.{Event}
use Rattle.schedule_text.specs.declared.line.Line.{Line}
use Rattle.schedule_text.specs.ScheduleText.{IsSpelled, IsText, AreApart, IsSchedule, IsBadLine, IsTooLong, stepper, last_stepper, line_events, events_of, most}
use Rattle.schedule_text.proofs.Cuts.{same_cut}
use Rattle.schedule_text.proofs.OneText.{no_beginning, one_line, one_reading}
use Rattle.schedule_text.proofs.Spelled.{spelled_lacks}

-- the lines of a text begin with those of a beginning of it
lines_behind : (front rest : List ℕ) (lines others : List Line) → IsText front lines → IsText (front ++ rest) others → (more : List Line) × (others ≡ lines ++ more) × IsText rest more
lines_behind front rest [] others h i = (others, refl, subst (λ (f : List ℕ). IsText (f ++ rest) others) h i)
lines_behind front rest (l ∷ lines) [] h i =
    let whole : front ++ rest ≡ h.0 ++ 10 ∷ (h.1 ++ rest) = ap (λ (f : List ℕ). f ++ rest) h.2 ∙ append_assoc h.0 (10 ∷ h.1) rest in
    absurd (no_beginning 10 h.0 (h.1 ++ rest) (sym whole ∙ i))
lines_behind front rest (l ∷ lines) (m ∷ others) h i =
    let whole : front ++ rest ≡ h.0 ++ 10 ∷ (h.1 ++ rest) = ap (λ (f : List ℕ). f ++ rest) h.2 ∙ append_assoc h.0 (10 ∷ h.1) rest in
    let cut = same_cut 10 h.0 i.0 (h.1 ++ rest) i.1 (spelled_lacks h.0 l h.3) (spelled_lacks i.0 m i.3) (sym whole ∙ i.2) in
    let same : l ≡ m = one_line i.0 l m (subst (λ (t : List ℕ). IsSpelled t l) cut.0 h.3) i.3 in
    let next = lines_behind h.1 rest lines others h.4 (subst (λ (t : List ℕ). IsText t others) (sym cut.1) i.4) in
    (next.0, ap (λ (x : Line). x ∷ others) (sym same) ∙ ap (λ (xs : List Line). l ∷ xs) next.1, next.2)

apart_behind : (before : Option ℕ) (lines more : List Line) → AreApart before (lines ++ more) → AreApart (last_stepper before lines) more
apart_behind before [] more h = h
apart_behind before (l ∷ lines) more h = apart_behind (stepper l) lines more h.1

pub bad_is_none : (text : List ℕ) (number : ℕ) (events : List Event) → IsBadLine text number → IsSchedule text events → ⊥
bad_is_none text number events bad is =
    let go = lines_behind bad.before bad.rest bad.lines is.lines bad.are_lines.is_text (subst (λ (t : List ℕ). IsText t is.lines) bad.is_split is.are_lines.is_text) in
    never go.0 go.2 (apart_behind None bad.lines go.0 (subst (AreApart None) go.1 is.are_lines.are_apart))
  where
    never : (more : List Line) → IsText bad.rest more → AreApart (last_stepper None bad.lines) more → ⊥
    never [] h a = bad.more h
    never (l ∷ more) h a = bad.is_bad l h.0 h.1 h.2 h.3 a.0

-- the events of the lines up to one of them are not more than all
few_behind : (lines : List Line) (next : Line) (more : List Line) → length (events_of lines ++ line_events next) ≤ length (events_of (lines ++ next ∷ more))
few_behind lines next more =
    let all : length (events_of (lines ++ next ∷ more)) ≡ length (events_of lines) + (length (line_events next) + length (events_of more)) =
    ap length (flat_map-append line_events lines (next ∷ more)) ∙ length-append (events_of lines) (line_events next ++ events_of more)
    ∙ ap (λ (n : ℕ). length (events_of lines) + n) (length-append (line_events next) (events_of more)) in
    let part : length (events_of lines ++ line_events next) ≡ length (events_of lines) + length (line_events next) = length-append (events_of lines) (line_events next) in
    omega (arith, all, part)

pub long_is_none : (text : List ℕ) (number : ℕ) (events : List Event) → IsTooLong text number → IsSchedule text events → ⊥
long_is_none text number events long is = elim long.is_over [ inl w ↦ few_bytes w | inr w ↦ never go.0 go.1 go.2 w ]
  where
    few_bytes : most < length (long.before ++ (long.line ++ 10 ∷ [])) → ⊥
    few_bytes w =
        let whole : length text ≡ length long.before + (length long.line + suc (length long.after)) = ap length long.is_split ∙ length-append long.before (long.line ++ 10 ∷ long.after)
        ∙ ap (λ (n : ℕ). length long.before + n) (length-append long.line (10 ∷ long.after)) in
        let part : length (long.before ++ (long.line ++ 10 ∷ [])) ≡ length long.before + (length long.line + suc 0) = length-append long.before (long.line ++ 10 ∷ [])
        ∙ ap (λ (n : ℕ). length long.before + n) (length-append long.line (10 ∷ [])) in
        let few = is.are_lines.few_bytes in
        omega (arith, whole, part, few, w)

    go : (more : List Line) × (is.lines ≡ long.lines ++ more) × IsText (long.line ++ 10 ∷ long.after) more
    go = lines_behind long.before (long.line ++ 10 ∷ long.after) long.lines is.lines long.are_lines.is_text (subst (λ (t : List ℕ). IsText t is.lines) long.is_split is.are_lines.is_text)

    never : (more : List Line) → is.lines ≡ long.lines ++ more → IsText (long.line ++ 10 ∷ long.after) more → most < length (events_of long.lines ++ line_events long.next) → ⊥
    never [] e h w = no_beginning 10 long.line long.after h
    never (m ∷ more) e h w =
        let cut = same_cut 10 long.line h.0 long.after h.1 (spelled_lacks long.line long.next long.is_spelled) (spelled_lacks h.0 m h.3) h.2 in
        let same : long.next ≡ m = one_line h.0 long.next m (subst (λ (t : List ℕ). IsSpelled t long.next) cut.0 long.is_spelled) h.3 in
        let less : length (events_of long.lines ++ line_events long.next) ≤ length (events_of (long.lines ++ long.next ∷ more)) = few_behind long.lines long.next more in
        let all : length (events_of is.lines) ≡ length (events_of (long.lines ++ long.next ∷ more)) = ap (λ (ls : List Line). length (events_of ls)) (e ∙ ap (λ (x : Line). long.lines ++ x ∷ more) (sym same)) in
        let few = is.are_lines.few_events in
        omega (arith, less, all, few, w)

-- whether a text spells these events, by what was read of it: a list, or a fault
pub same_reading : (text : List ℕ) (read slice events : List Event) (same : Bool) → IsSchedule text read → slice ≡ read → (IsTrue same ↔ (slice ≡ events)) → IsTrue same ↔ IsSchedule text events
same_reading text read slice events same is is_read exact =
    (λ yes. subst (IsSchedule text) (sym is_read ∙ exact.0 yes) is, λ other. exact.1 (is_read ∙ one_reading text read events is other))

pub bad_reading : (text : List ℕ) (number : ℕ) (events : List Event) → IsBadLine text number → IsTrue false ↔ IsSchedule text events
bad_reading text number events bad = (λ yes. let never : false ≡ true = yes in absurd cc, λ is. absurd (bad_is_none text number events bad is))

pub long_reading : (text : List ℕ) (number : ℕ) (events : List Event) → IsTooLong text number → IsTrue false ↔ IsSchedule text events
long_reading text number events long = (λ yes. let never : false ≡ true = yes in absurd cc, λ is. absurd (long_is_none text number events long is))

-- where the only text that may spell the events does not, none does
pub no_other : (text : List ℕ) (events : List Event) (does : Bool) → ((other : List ℕ) → IsSchedule other events → other ≡ text) → (IsTrue does ↔ IsSchedule text events) → does ≡ false →
    (other : List ℕ) → IsSchedule other events → ⊥
no_other text events does one exact is_false other is =
    let yes : IsTrue does = exact.1 (subst (λ (t : List ℕ). IsSchedule t events) (one other is) is) in
    let never : false ≡ true = rw is_false at yes in absurd cc

-- more events than a schedule may have
pub many_is_none : (text : List ℕ) (events : List Event) → most < length events → IsSchedule text events → ⊥
many_is_none text events many is = let few = is.are_lines.few_events in let all : length events ≡ length (events_of is.lines) = ap length is.events_are in omega (arith, many, few, all)
