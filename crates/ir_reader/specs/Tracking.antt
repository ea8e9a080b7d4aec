-- Only the reader's own functions and its loop need these: what it keeps beside the draft, and what its steps answer.
use Rattle.std.specs.Prelude.{◌≡◌, ℕ, min, Bool, ◌&&◌, is_some, if◌then◌else◌, List, [], Option, Some, None, Result, Ok}
use Rattle.std.specs.Prelude.{Err}
use Rattle.refusal.specs.declared.refused.Refused.{Refused}
use Rattle.refusal.specs.declared.refused.Refused.TheVariants as faults
use Rattle.refusal.specs.Refusals.{IfBroken}
use Rattle.syntax.specs.declared.module.Module.{Module}
use Rattle.ir_reader.specs.declared.item.line.Line.{Line}
use Rattle.ir_reader.specs.declared.draft.Draft.{Draft}
use Rattle.ir_reader.specs.declared.draft.LineContext.{LineContext}
use Rattle.ir_reader.specs.declared.draft.LineContext.TheVariants as place
use Rattle.ir_reader.specs.declared.limits.Counts.{Counts}
use Rattle.ir_reader.specs.declared.scope.Scope.{Scope}
use Rattle.ir_reader.specs.declared.reader.Reader.{Reader}
use Rattle.ir_reader.specs.Defined.{names_outside, names_inside}
use Rattle.ir_reader.specs.Counting.{counts_of, is_within_limits}
use Rattle.ir_reader.specs.Counted.{IsSmall}
use Rattle.ir_reader.specs.Draft.{placed}
use Rattle.ir_reader.specs.Reading.{Steps, OverlongFault}

-- no instruction stands before a phi
abbrev pub IsStepless : LineContext → Type 0
IsStepless (place.BlockHead f h) = h.block.steps ≡ []
IsStepless (place.Phis f b) = b.steps ≡ []
IsStepless _ = Unit {0}

pub record IsTracked (r : Reader) : Type 0 where
  pub outside : r.scope.outside ≡ names_outside r.draft
  pub inside : r.scope.inside ≡ names_inside r.draft
  pub counted : r.counts ≡ counts_of r.draft
  pub small : IsSmall r.counts
  pub stepless : IsStepless r.draft.place

-- 104 comes before 106
abbrev pub judged_reader : ℕ → Bool → Bool → Reader → Result Reader Refused
judged_reader at is_within is_new r =
    if is_within && is_within_limits r.draft then (if is_new then Ok r else Err (faults.Fault 106 at))
    else Err (faults.Fault 104 at)

-- 103 comes first
abbrev pub judged_place : ℕ → Option Draft → Bool → Bool → Counts → Scope → Result Reader Refused
judged_place at None is_within is_new c s = Err (faults.Fault 103 at)
judged_place at (Some e) is_within is_new c s =
    judged_reader at is_within is_new (record { draft = e; counts = c; scope = s })

-- this result; if a fault, then this one
abbrev pub Answered : Result Reader Refused → Result Reader Refused → Type 0
Answered (Err fault) out = IfBroken (λ broken. out ≡ Err (faults.Fault broken.number broken.line)) fault
Answered (Ok r) out = out ≡ Ok r

-- if a fault, then what one more item meets, on this line
abbrev pub FailsAt : ℕ → Result Draft ℕ → Refused → Type 0
FailsAt at out fault = IfBroken (λ broken. (broken.line ≡ at) × (out ≡ Err broken.number)) fault

-- and what one more line meets
abbrev pub FaultSteps : Draft → ℕ → List ℕ → Refused → Type 0
FaultSteps d at line fault = IfBroken (λ broken. (broken.line ≡ at) × Steps d at line (Err broken.number)) fault

-- and where the text grows too long with the line
abbrev pub FaultOverlong : Draft → ℕ → List ℕ → Refused → Type 0
FaultOverlong d at line fault = IfBroken (λ broken. (broken.line ≡ at) × OverlongFault d at line broken.number) fault

-- and with its item
abbrev pub FaultTooLate : Draft → ℕ → Line → Refused → Type 0
FaultTooLate d at line fault =
    IfBroken (λ broken. (broken.line ≡ at) ×
    (broken.number ≡ (if is_some (placed d at line.item) then 104 else 103))) fault

-- the lower of a line's own fault and 104
abbrev pub or_too_late : Refused → Refused
or_too_late faults.Memory = faults.Memory
or_too_late (faults.Fault number at) = faults.Fault (min number 104) at

-- if a fault, then that of the text's end
abbrev pub FaultEnded : Result Module (ℕ × ℕ) → Refused → Type 0
FaultEnded out fault = IfBroken (λ broken. out ≡ Err (broken.number, broken.line)) fault
