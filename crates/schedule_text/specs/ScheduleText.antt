-- Schedules as text: each line is one event or the steps of one worker, one after another, and ends with LF.
use Rattle.std.specs.Prelude.{◌≡◌, ◌≢◌, ℕ, ◌<◌, ◌≤◌, List, [], ◌∷◌, ◌++◌, length, flat_map, codes, replicate, true, ◌+◌}
use Rattle.std.specs.Prelude.{◌⊎◌, Option, Some, None}
use Rattle.std.specs.Str.Parse.{digits_value}
use Rattle.ir_lex.specs.Numerals.{is_numeral}
use Rattle.frame.specs.declared.path.Path.{Path}
use Rattle.frame.specs.declared.event.Event.{Event}
use Rattle.frame.specs.declared.event.Event.TheVariants as event
use Rattle.schedule_text.specs.declared.line.Line.{Line}
use Rattle.schedule_text.specs.declared.line.Line.TheVariants.{Steps, Steals}

-- ---- one line, without its LF

-- decimal digits, without sign and leading zeros
pub record IsNumeral (digits : List ℕ) (n : ℕ) : Type 0 where
  pub is_spelled : is_numeral digits ≡ true
  pub value : digits_value 10 digits ≡ n

-- a dot and a number for each
abbrev pub AreChildren : List ℕ → List ℕ → Type 0
AreChildren text [] = text ≡ []
AreChildren text (k ∷ numbers) = (digits rest : List ℕ) × (text ≡ 46 ∷ digits ++ rest) × IsNumeral digits k ×
    (k ≤ 1000000000000) × AreChildren rest numbers

-- `step W N`
pub record IsStepping (line : List ℕ) (worker count : ℕ) : Type 0 where
  pub first : List ℕ
  pub second : List ℕ
  pub is_spelled : line ≡ codes "step " ++ first ++ 32 ∷ second
  pub is_worker : IsNumeral first worker
  pub within : worker ≤ 63
  pub is_count : IsNumeral second count
  pub some : 1 ≤ count

-- `steal W PATH`; a path is `root` and the numbers of the frames on the way down
pub record IsStealing (line : List ℕ) (worker : ℕ) (task : Path) : Type 0 where
  pub first : List ℕ
  pub rest : List ℕ
  pub is_spelled : line ≡ codes "steal " ++ first ++ 32 ∷ (codes "root" ++ rest)
  pub is_worker : IsNumeral first worker
  pub within : worker ≤ 63
  pub is_task : AreChildren rest task.numbers

-- `root` and the numbers of the frames on the way down
pub record IsTaskName (name : List ℕ) (task : Path) : Type 0 where
  pub rest : List ℕ
  pub is_spelled : name ≡ codes "root" ++ rest
  pub is_task : AreChildren rest task.numbers

abbrev pub IsSpelled : List ℕ → Line → Type 0
IsSpelled line (Steps worker count) = IsStepping line worker count
IsSpelled line (Steals worker task) = IsStealing line worker task

-- ---- the whole text

abbrev pub IsText : List ℕ → List Line → Type 0
IsText text [] = text ≡ []
IsText text (l ∷ lines) = (line rest : List ℕ) × (text ≡ line ++ 10 ∷ rest) × IsSpelled line l × IsText rest lines

-- whose steps a line holds
abbrev pub stepper : Line → Option ℕ
stepper (Steps worker count) = Some worker
stepper (Steals worker task) = None

abbrev pub Differs : Option ℕ → Option ℕ → Type 0
Differs None next = Unit {0}
Differs (Some v) None = Unit {0}
Differs (Some v) (Some w) = v ≢ w

-- two lines with steps of one worker never follow each other
abbrev pub AreApart : Option ℕ → List Line → Type 0
AreApart before [] = Unit {0}
AreApart before (l ∷ lines) = Differs before (stepper l) × AreApart (stepper l) lines

abbrev pub last_stepper : Option ℕ → List Line → Option ℕ
last_stepper before [] = before
last_stepper before (l ∷ lines) = last_stepper (stepper l) lines

abbrev pub line_events : Line → List Event
line_events (Steps worker count) = replicate count (event.Step worker)
line_events (Steals worker task) = event.Steal worker task ∷ []

abbrev pub events_of : List Line → List Event
events_of = flat_map line_events

abbrev pub most : ℕ
most = 1048576

-- lines with their text, within the limits of bytes and of events
pub record AreLines (text : List ℕ) (lines : List Line) : Type 0 where
  pub is_text : IsText text lines
  pub are_apart : AreApart None lines
  pub few_bytes : length text ≤ most
  pub few_events : length (events_of lines) ≤ most

-- the text spells the list of events
pub record IsSchedule (text : List ℕ) (events : List Event) : Type 0 where
  pub lines : List Line
  pub are_lines : AreLines text lines
  pub events_are : events ≡ events_of lines

-- ---- faults

-- no line follows the good lines before it
pub record IsBadLine (text : List ℕ) (number : ℕ) : Type 0 where
  pub lines : List Line
  pub before : List ℕ
  pub rest : List ℕ
  pub is_split : text ≡ before ++ rest
  pub are_lines : AreLines before lines
  pub is_number : number ≡ length lines + 1
  pub more : rest ≢ []
  pub is_bad : (l : Line) (line after : List ℕ) → rest ≡ line ++ 10 ∷ after → IsSpelled line l →
      Differs (last_stepper None lines) (stepper l) → ⊥

-- a good line follows, with which bytes or events are too many
pub record IsTooLong (text : List ℕ) (number : ℕ) : Type 0 where
  pub lines : List Line
  pub before : List ℕ
  pub line : List ℕ
  pub after : List ℕ
  pub next : Line
  pub is_split : text ≡ before ++ (line ++ 10 ∷ after)
  pub are_lines : AreLines before lines
  pub is_number : number ≡ length lines + 1
  pub is_spelled : IsSpelled line next
  pub is_apart : Differs (last_stepper None lines) (stepper next)
  pub is_over : (most < length (before ++ (line ++ 10 ∷ []))) ⊎ (most < length (events_of lines ++ line_events next))

-- ---- laws

abbrev pub OneSpelling : Type 0
OneSpelling = (text other : List ℕ) (events : List Event) → IsSchedule text events → IsSchedule other events →
    text ≡ other

abbrev pub OneReading : Type 0
OneReading = (text : List ℕ) (events others : List Event) → IsSchedule text events → IsSchedule text others →
    events ≡ others
