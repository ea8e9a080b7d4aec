-- Reading a text line by line.
use Rattle.std.proofs.Common.{◌≡◌, ℕ, ◌+◌, ◌-◌, ◌<◌, ◌≤◌, List, [], ◌∷◌, length, refl, sym, subst, arith}
use Rattle.std.specs.Prelude.{Result, Ok, Err, Some, IfErr, IsUtf8}
use Rattle.refusal.specs.declared.refused.Refused.{Refused}
use Rattle.refusal.specs.declared.refused.Refused.TheVariants as faults
use Rattle.ir_reader.specs.declared.item.line.Line.{Line}
use Rattle.ir_reader.specs.item.Lines.{line_of}
use Rattle.ir_reader.specs.item.Answers.{IsFaultOfLine}
use Rattle.syntax.specs.declared.module.Module.{Module}
use Rattle.ir_reader.specs.declared.draft.Draft.{Draft}
use Rattle.ir_reader.specs.declared.draft.LineContext.{LineContext}
use Rattle.ir_reader.specs.declared.draft.LineContext.TheVariants as place
use Rattle.ir_reader.specs.Lines.{lines_of, content}
use Rattle.ir_reader.specs.Faults.{IsOnLineOf}
use Rattle.ir_reader.specs.Reading.{start, with_item, Steps, Said, Faulty, Unsaid, Too-late, Reads, Done, Next, Stop, Overlong, ended, Answers, Read, Unread, IsFaultOfText}
use Rattle.ir_reader.specs.Tracking.{FailsAt, FaultSteps, or_too_late, FaultOverlong, FaultTooLate, FaultEnded}

pub said_fault : (e : Refused) (d : Draft) (at : ℕ) (line : List ℕ) → IsFaultOfLine at line e → FaultSteps d at line e
said_fault faults.Memory d at line h = tt
said_fault (faults.Fault number found_at) d at line h = (h.0, Faulty number h.1)

pub item_fault : (e : Refused) (d : Draft) (at : ℕ) (line : List ℕ) (l : Line) → IsUtf8 line → line_of at line ≡ Ok (Some l) → FailsAt at (with_item d at l) e → FaultSteps d at line e
item_fault faults.Memory d at line l utf8 said h = tt
item_fault (faults.Fault number found_at) d at line l utf8 said h = (h.0, Said (Some l) (Err number) utf8 said h.1)

pub overlong_line : (e : Refused) (d : Draft) (at : ℕ) (line : List ℕ) → IsFaultOfLine at line e → FaultOverlong d at line (or_too_late e)
overlong_line faults.Memory d at line h = tt
overlong_line (faults.Fault number found_at) d at line h = (h.0, Unsaid number h.1)

pub overlong_item : (e : Refused) (d : Draft) (at : ℕ) (line : List ℕ) (l : Line) → IsUtf8 line → line_of at line ≡ Ok (Some l) → FaultTooLate d at l e → FaultOverlong d at line e
overlong_item faults.Memory d at line l utf8 said h = tt
overlong_item (faults.Fault number found_at) d at line l utf8 said h = (h.0, Too-late (Some l) number utf8 said h.1)

-- the lines behind those that were read give what all lines give
abbrev pub Goes-on : List ℕ → Draft → ℕ → ℕ → List (List ℕ) → Type 0
Goes-on text d at room lines = (out : Result Draft (ℕ × ℕ)) → Reads d at room lines out → Reads start 1 1048576 (lines_of text) out

pub stopped : (e : Refused) (text : List ℕ) (d : Draft) (at room : ℕ) (line : List ℕ) (lines : List (List ℕ)) → Goes-on text d at room (line ∷ lines) → length line ≤ room → FaultSteps d at (content line) e → IsFaultOfText text e
stopped faults.Memory text d at room line lines so_far fits h = tt
stopped (faults.Fault number found_at) text d at room line lines so_far fits h =
    subst (λ (k : ℕ). Answers text (Err (number, k))) (sym h.0) (Unread number at (so_far (Err (number, at)) (Stop d at room line lines number fits h.1)))

pub too_long : (e : Refused) (text : List ℕ) (d : Draft) (at room : ℕ) (line : List ℕ) (lines : List (List ℕ)) → Goes-on text d at room (line ∷ lines) → room < length line → FaultOverlong d at (content line) e → IsFaultOfText text e
too_long faults.Memory text d at room line lines so_far past h = tt
too_long (faults.Fault number found_at) text d at room line lines so_far past h =
    subst (λ (k : ℕ). Answers text (Err (number, k))) (sym h.0) (Unread number at (so_far (Err (number, at)) (Overlong d at room line lines number past h.1)))

pub goes_on : (text : List ℕ) (d e : Draft) (at room next : ℕ) (line : List ℕ) (lines : List (List ℕ)) → Goes-on text d at room (line ∷ lines) → length line ≤ room → next ≡ room - length line → Steps d at (content line) (Ok e)
    → Goes-on text e (at + 1) next lines
goes_on text d e at room next line lines so_far fits left step = λ out later. so_far out (Next d e at room line lines out fits step (subst (λ (k : ℕ). Reads e (at + 1) k lines out) left later))

pub unfinished : (e : Refused) (text : List ℕ) (d : Draft) → Reads start 1 1048576 (lines_of text) (Ok d) → FaultEnded (ended d.whole d.place (length (lines_of text))) e → IsFaultOfText text e
unfinished faults.Memory text d all h = tt
unfinished (faults.Fault number line) text d all h = Read d (Err (number, line)) all h

-- a fault is on one of the lines

abbrev Within : ℕ → ℕ → Result Draft (ℕ × ℕ) → Type 0
Within at count (Ok d) = Unit {0}
Within at count (Err e) = (at ≤ e.1) × (e.1 < at + count)

later_within : (at count : ℕ) (out : Result Draft (ℕ × ℕ)) → Within (at + 1) count out → Within at (count + 1) out
later_within at count (Ok d) h = tt
later_within at count (Err e) h = (omega arith, omega arith)

within : (d : Draft) (at room : ℕ) (lines : List (List ℕ)) (out : Result Draft (ℕ × ℕ)) → Reads d at room lines out → Within at (length lines) out
within _ _ _ _ _ (Done d at room) = tt
within _ _ _ _ _ (Next d e at room line lines out fits step later) = subst (λ (n : ℕ). Within at n out) (omega arith) (later_within at (length lines) out (within e (at + 1) (room - length line) lines out later))
within _ _ _ _ _ (Stop d at room line lines number fits step) = (omega arith, omega arith)
within _ _ _ _ _ (Overlong d at room line lines number past h) = (omega arith, omega arith)

abbrev IsOnLine : ℕ → Result Module (ℕ × ℕ) → Type 0
IsOnLine count (Ok m) = Unit {0}
IsOnLine count (Err e) = (1 ≤ e.1) × (e.1 ≤ count)

ended_on : (m : Module) (p : LineContext) (count : ℕ) → 1 ≤ count → IsOnLine count (ended m p count)
ended_on m place.Outside count some = tt
ended_on m (place.FunctionHead h) count some = (some, omega arith)
ended_on m (place.BlockHead f h) count some = (some, omega arith)
ended_on m (place.Phis f b) count some = (some, omega arith)
ended_on m (place.Body f b shows) count some = (some, omega arith)
ended_on m (place.Ended f b) count some = (some, omega arith)

none_read : (d : Draft) (at room : ℕ) (lines : List (List ℕ)) (out : Result Draft (ℕ × ℕ)) → Reads d at room lines out → lines ≡ [] → out ≡ Ok d
none_read _ _ _ _ _ (Done d at room) none = refl
none_read _ _ _ _ _ (Next d e at room line lines out fits step later) none = absurd cc
none_read _ _ _ _ _ (Stop d at room line lines number fits step) none = absurd cc
none_read _ _ _ _ _ (Overlong d at room line lines number past h) none = absurd cc

drafts_same : (d e : Draft) (x : Result Draft (ℕ × ℕ)) → x ≡ Ok d → x ≡ Ok e → e ≡ d
drafts_same d e x h k = cc

ended_within : (lines : List (List ℕ)) (d : Draft) → Reads start 1 1048576 lines (Ok d) → IsOnLine (length lines) (ended d.whole d.place (length lines))
ended_within [] d all = subst (λ (e : Draft). IsOnLine 0 (ended e.whole e.place 0)) (drafts_same d start (Ok d) refl (none_read start 1 1048576 [] (Ok d) all refl)) tt
ended_within (line ∷ lines) d all = ended_on d.whole d.place (length (line ∷ lines)) (omega arith)

answer_on : (text : List ℕ) (out : Result Module (ℕ × ℕ)) → Answers text out → IsOnLine (length (lines_of text)) out
answer_on text _ (Read d out all h) = subst (IsOnLine (length (lines_of text))) h (ended_within (lines_of text) d all)
answer_on text _ (Unread number at all) = let h = within start 1 1048576 (lines_of text) (Err (number, at)) all in (h.0, omega arith)

pub on_a_line : (text : List ℕ) (e : Refused) → IsFaultOfText text e → IsOnLineOf (length (lines_of text)) e
on_a_line text faults.Memory h = tt
on_a_line text (faults.Fault number line) h = answer_on text (Err (number, line)) h

pub if_on_a_line : (text : List ℕ) (r : Result Module Refused) → IfErr r (IsFaultOfText text) → IfErr r (IsOnLineOf (length (lines_of text)))
if_on_a_line text (Ok m) h = tt
if_on_a_line text (Err e) h = on_a_line text e h
