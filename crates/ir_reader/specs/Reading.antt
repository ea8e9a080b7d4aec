-- Reading line by line, up to the first line with a fault.
use Rattle.std.specs.Prelude.{◌≡◌, ◌<◌, ◌≤◌, ℕ, ◌+◌, ◌-◌, min, Bool, true, ◌&&◌, ◌||◌, is_some, if◌then◌else◌}
use Rattle.std.specs.Prelude.{List, [], ◌∷◌, length, Option, Some, None, Result, Ok, Err, IsUtf8}
use Rattle.refusal.specs.declared.refused.Refused.{Refused}
use Rattle.refusal.specs.Refusals.{IfBroken}
use Rattle.ir_reader.specs.declared.item.item.Item.{Item}
use Rattle.ir_reader.specs.declared.item.line.Line.{Line}
use Rattle.ir_reader.specs.item.Lines.{line_of, IsLineFault}
use Rattle.syntax.specs.declared.module.Module.{Module}
use Rattle.ir_reader.specs.declared.draft.Draft.{Draft}
use Rattle.ir_reader.specs.declared.draft.LineContext.{LineContext}
use Rattle.ir_reader.specs.declared.draft.LineContext.TheVariants as place
use Rattle.ir_reader.specs.Lines.{lines_of, content}
use Rattle.ir_reader.specs.Draft.{placed}
use Rattle.ir_reader.specs.Counting.{is_within_limits}
use Rattle.ir_reader.specs.Names.{is_repeated}
use Rattle.ir_reader.specs.Defined.{names_outside, names_inside, inside_before, defined_outside, defined_inside}

abbrev pub defines_again : Draft → Item → Bool
defines_again d i = is_repeated (names_outside d) (defined_outside i) || is_repeated (inside_before (names_inside d) i)
    (defined_inside i)

-- the item stands where it may: past a limit, defining a name again, or good
abbrev pub judged : Draft → Line → Draft → Result Draft ℕ
judged d line e = if line.is_within_limits &&
    is_within_limits e then (if defines_again d line.item then Err 106 else Ok e) else Err 104

abbrev pub judged_if_placed : Draft → Line → Option Draft → Result Draft ℕ
judged_if_placed d line None = Err 103
judged_if_placed d line (Some e) = judged d line e

-- an item, which stands on the line of this number, is put behind what was read
unfoldable pub with_item : Draft → ℕ → Line → Result Draft ℕ
with_item d at line = judged_if_placed d line (placed d at line.item)

-- a line that is blank or a comment says nothing
abbrev pub with_said : Draft → ℕ → Option Line → Result Draft ℕ
with_said d at None = Ok d
with_said d at (Some line) = with_item d at line

-- what one more line, of this number, makes of what was read
pub data Steps (d : Draft) (at : ℕ) (line : List ℕ) : Result Draft ℕ → Type 0 where
  Said : (said : Option Line) (out : Result Draft ℕ) → IsUtf8 line → line_of at line ≡ Ok said →
      with_said d at said ≡ out → Steps d at line out
  Faulty : (number : ℕ) → IsLineFault at line number → Steps d at line (Err number)

abbrev pub may_stand : Draft → ℕ → Option Line → Bool
may_stand d at None = true
may_stand d at (Some line) = is_some (placed d at line.item)

-- the fault of a line with which the text grows too long: its own, 103 where its item may not stand, 104 at most
pub data OverlongFault (d : Draft) (at : ℕ) (line : List ℕ) : ℕ → Type 0 where
  Unsaid : (number : ℕ) → IsLineFault at line number → OverlongFault d at line (min number 104)
  Too-late : (said : Option Line) (number : ℕ) → IsUtf8 line → line_of at line ≡ Ok said →
      number ≡ (if may_stand d at said then 104 else 103) → OverlongFault d at line number

-- The lines, of which the first has this number, come behind what was read. There is room for so many bytes more. They
-- give all of it, or the first fault and its line.
pub data Reads : Draft → ℕ → ℕ → List (List ℕ) → Result Draft (ℕ × ℕ) → Type 0 where
  Done : (d : Draft) (at room : ℕ) → Reads d at room [] (Ok d)
  Next : (d e : Draft) (at room : ℕ) (line : List ℕ) (lines : List (List ℕ)) (out : Result Draft (ℕ × ℕ)) →
      length line ≤ room → Steps d at (content line) (Ok e) → Reads e (at + 1) (room - length line) lines out →
      Reads d at room (line ∷ lines) out
  Stop : (d : Draft) (at room : ℕ) (line : List ℕ) (lines : List (List ℕ)) (number : ℕ) → length line ≤ room →
      Steps d at (content line) (Err number) → Reads d at room (line ∷ lines) (Err (number, at))
  Overlong : (d : Draft) (at room : ℕ) (line : List ℕ) (lines : List (List ℕ)) (number : ℕ) → room < length line →
      OverlongFault d at (content line) number → Reads d at room (line ∷ lines) (Err (number, at))

abbrev pub start : Draft
start = record { whole = record { globals = []; functions = [] }; place = place.Outside }

-- 105 on the last line, where that is in a function
abbrev pub ended : Module → LineContext → ℕ → Result Module (ℕ × ℕ)
ended m place.Outside count = Ok m
ended m _ count = Err (105, count)

-- a text of at most 1,048,576 bytes makes a module, or has a first fault
pub data Answers (text : List ℕ) : Result Module (ℕ × ℕ) → Type 0 where
  Read : (d : Draft) (out : Result Module (ℕ × ℕ)) → Reads start 1 1048576 (lines_of text) (Ok d)
      → ended d.whole d.place (length (lines_of text)) ≡ out → Answers text out
  Unread : (number at : ℕ) → Reads start 1 1048576 (lines_of text) (Err (number, at)) → Answers text (Err (number, at))

-- if a fault, then the first of the text
abbrev pub IsFaultOfText : List ℕ → Refused → Type 0
IsFaultOfText text fault = IfBroken (λ broken. Answers text (Err (broken.number, broken.line))) fault
