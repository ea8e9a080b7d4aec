-- A text is read in one way.
use Rattle.std.proofs.Common.{◌≡◌, ℕ, ◌+◌, ◌-◌, ◌<◌, ◌≤◌, List, [], ◌∷◌, length, Option, Result, Ok, Err, refl, sym, subst, min, ap, ◌∙◌, arith}
use Rattle.std.specs.Prelude.{IsUtf8, if◌then◌else◌}
use Rattle.ir_reader.specs.declared.item.line.Line.{Line}
use Rattle.ir_reader.specs.item.Lines.{line_of, IsLineFault, NotUtf8, NotSaid}
use Rattle.syntax.specs.declared.module.Module.{Module}
use Rattle.ir_reader.specs.declared.draft.Draft.{Draft}
use Rattle.ir_reader.specs.Lines.{lines_of, content}
use Rattle.ir_reader.specs.Reading.{start, with_said, Steps, Said, Faulty, may_stand, OverlongFault, Unsaid, Too-late, Reads, Done, Next, Stop, Overlong, ended, Answers, Read, Unread}

line_fault : (at : ℕ) (line : List ℕ) (m n : ℕ) → IsLineFault at line m → IsLineFault at line n → m ≡ n
line_fault at line _ _ (NotUtf8 h) (NotUtf8 k) = refl
line_fault at line _ _ (NotUtf8 h) (NotSaid n utf8 e) = absurd (h utf8)
line_fault at line _ _ (NotSaid m utf8 e) (NotUtf8 k) = absurd (k utf8)
line_fault at line _ _ (NotSaid m utf8 e) (NotSaid n v f) = cc

no_fault : (at : ℕ) (line : List ℕ) (said : Option Line) (n : ℕ) → IsUtf8 line → line_of at line ≡ Ok said → IsLineFault at line n → ⊥
no_fault at line said _ utf8 means (NotUtf8 h) = h utf8
no_fault at line said _ utf8 means (NotSaid n v e) = cc

one_step : (d : Draft) (at : ℕ) (line : List ℕ) (a b : Result Draft ℕ) → Steps d at line a → Steps d at line b → a ≡ b
one_step d at line _ _ (Said s a utf8 means h) (Said t b v says k) =
    let same : s ≡ t = cc in
    sym h ∙ ap (with_said d at) same ∙ k
one_step d at line _ _ (Said s a utf8 means h) (Faulty n k) = absurd (no_fault at line s n utf8 means k)
one_step d at line _ _ (Faulty m h) (Said t b v says k) = absurd (no_fault at line t m v says h)
one_step d at line _ _ (Faulty m h) (Faulty n k) = ap (λ (x : ℕ). let r : Result Draft ℕ = Err x in r) (line_fault at line m n h k)

one_overlong : (d : Draft) (at : ℕ) (line : List ℕ) (m n : ℕ) → OverlongFault d at line m → OverlongFault d at line n → m ≡ n
one_overlong d at line _ _ (Unsaid m h) (Unsaid n k) = ap (λ (x : ℕ). min x 104) (line_fault at line m n h k)
one_overlong d at line _ _ (Unsaid m h) (Too-late t n v says k) = absurd (no_fault at line t m v says h)
one_overlong d at line _ _ (Too-late s m utf8 means h) (Unsaid n k) = absurd (no_fault at line s n utf8 means k)
one_overlong d at line _ _ (Too-late s m utf8 means h) (Too-late t n v says k) =
    let same : s ≡ t = cc in
    h ∙ ap (λ (x : Option Line). if may_stand d at x then 104 else 103) same ∙ sym k

-- what the first line does
data ReadsLine (d : Draft) (at room : ℕ) (line : List ℕ) (lines : List (List ℕ)) (out : Result Draft (ℕ × ℕ)) : Type 0 where
  goes_on : (e : Draft) → length line ≤ room → Steps d at (content line) (Ok e) → Reads e (at + 1) (room - length line) lines out → ReadsLine d at room line lines out
  stops : (number : ℕ) → length line ≤ room → Steps d at (content line) (Err number) → out ≡ Err (number, at) → ReadsLine d at room line lines out
  too_long : (number : ℕ) → room < length line → OverlongFault d at (content line) number → out ≡ Err (number, at) → ReadsLine d at room line lines out

abbrev ReadsFirst : Draft → ℕ → ℕ → List (List ℕ) → Result Draft (ℕ × ℕ) → Type 0
ReadsFirst d at room [] out = out ≡ Ok d
ReadsFirst d at room (line ∷ lines) out = ReadsLine d at room line lines out

first : (d : Draft) (at room : ℕ) (lines : List (List ℕ)) (out : Result Draft (ℕ × ℕ)) → Reads d at room lines out → ReadsFirst d at room lines out
first _ _ _ _ _ (Done d at room) = refl
first _ _ _ _ _ (Next d e at room line lines out fits step later) = goes_on e fits step later
first _ _ _ _ _ (Stop d at room line lines number fits step) = stops number fits step refl
first _ _ _ _ _ (Overlong d at room line lines number past h) = too_long number past h refl

abbrev fault_at : ℕ → ℕ → Result Draft (ℕ × ℕ)
fault_at number at = Err (number, at)

first_same : (d : Draft) (at room : ℕ) (line : List ℕ) (lines : List (List ℕ)) (a b : Result Draft (ℕ × ℕ)) → ((e : Draft) → Reads e (at + 1) (room - length line) lines a → Reads e (at + 1) (room - length line) lines b → a ≡ b)
    → ReadsLine d at room line lines a → ReadsLine d at room line lines b → a ≡ b
first_same d at room line lines a b later (goes_on e fits step more) (goes_on g fits' step' more') =
    let steps : (let r : Result Draft ℕ = Ok e in r) ≡ Ok g = one_step d at (content line) (Ok e) (Ok g) step step' in
    let same : e ≡ g = cc in
    later g (subst (λ (x : Draft). Reads x (at + 1) (room - length line) lines a) same more) more'
first_same d at room line lines a b later (goes_on e fits step more) (stops n fits' step' h) =
    let steps : (let r : Result Draft ℕ = Ok e in r) ≡ Err n = one_step d at (content line) (Ok e) (Err n) step step' in
    absurd cc
first_same d at room line lines a b later (goes_on e fits step more) (too_long n past k h) = absurd (omega arith)
first_same d at room line lines a b later (stops m fits step h) (goes_on g fits' step' more) =
    let steps : (let r : Result Draft ℕ = Err m in r) ≡ Ok g = one_step d at (content line) (Err m) (Ok g) step step' in
    absurd cc
first_same d at room line lines a b later (stops m fits step h) (stops n fits' step' k) =
    let steps : (let r : Result Draft ℕ = Err m in r) ≡ Err n = one_step d at (content line) (Err m) (Err n) step step' in
    let same : m ≡ n = cc in
    h ∙ ap (λ (x : ℕ). fault_at x at) same ∙ sym k
first_same d at room line lines a b later (stops m fits step h) (too_long n past k e) = absurd (omega arith)
first_same d at room line lines a b later (too_long m past h e) (goes_on g fits step more) = absurd (omega arith)
first_same d at room line lines a b later (too_long m past h e) (stops n fits step k) = absurd (omega arith)
first_same d at room line lines a b later (too_long m past h e) (too_long n past' k f) = e ∙ ap (λ (x : ℕ). fault_at x at) (one_overlong d at (content line) m n h k) ∙ sym f

one_reading : (d : Draft) (at room : ℕ) (lines : List (List ℕ)) (a b : Result Draft (ℕ × ℕ)) → Reads d at room lines a → Reads d at room lines b → a ≡ b
one_reading d at room [] a b h k = first d at room [] a h ∙ sym (first d at room [] b k)
one_reading d at room (line ∷ lines) a b h k =
    first_same d at room line lines a b (λ e more others. one_reading e (at + 1) (room - length line) lines a b more others) (first d at room (line ∷ lines) a h) (first d at room (line ∷ lines) b k)

abbrev draft_ok : Draft → Result Draft (ℕ × ℕ)
draft_ok d = Ok d

pub one_answer : (text : List ℕ) (a b : Result Module (ℕ × ℕ)) → Answers text a → Answers text b → a ≡ b
one_answer text _ _ (Read d a all h) (Read e b others k) =
    let same_read : draft_ok d ≡ draft_ok e = one_reading start 1 1048576 (lines_of text) (Ok d) (Ok e) all others in
    let same : d ≡ e = cc in
    sym h ∙ ap (λ (x : Draft). ended x.whole x.place (length (lines_of text))) same ∙ k
one_answer text _ _ (Read d a all h) (Unread n at others) =
    let same_read : draft_ok d ≡ Err (n, at) = one_reading start 1 1048576 (lines_of text) (Ok d) (Err (n, at)) all others in
    absurd cc
one_answer text _ _ (Unread m at all) (Read e b others k) =
    let same_read : draft_ok e ≡ Err (m, at) = one_reading start 1 1048576 (lines_of text) (Ok e) (Err (m, at)) others all in
    absurd cc
one_answer text _ _ (Unread m at all) (Unread n on others) =
    let same_read : fault_at m at ≡ Err (n, on) = one_reading start 1 1048576 (lines_of text) (Err (m, at)) (Err (n, on)) all others in
    let same : (let p : ℕ × ℕ = (m, at) in p) ≡ (n, on) = cc in
    ap (λ (p : ℕ × ℕ). let r : Result Module (ℕ × ℕ) = Err p in r) same
