-- For the functions of this crate and their loops alone: the rules by the labels of the blocks.
use Rattle.std.specs.Prelude.{◌≡◌, ◌⊎◌, ℕ, true, List, Option, Some, None, Any, slice_get}
use Rattle.program.specs.linear.declared.form.RegisterId.{RegisterId}
use Rattle.program.specs.declared.identifier.BlockId.{BlockId}
use Rattle.program.specs.declared.annotation.Pending.{Pending}
use Rattle.program.specs.declared.instruction.Ending.{Ending}
use Rattle.program.specs.declared.instruction.Terminator.{Terminator}
use Rattle.program.specs.declared.instruction.Terminator.TheVariants.{Return, Detach, Reattach}
use Rattle.program.specs.declared.instruction.Terminator.TheVariants.{Sync}
use Rattle.program.specs.declared.function.Block.{Block}
use Rattle.refusal.specs.declared.broken.Broken.{Broken}
use Rattle.region_match.specs.declared.task.Task.{Task}
use Rattle.region_match.specs.declared.task.Task.TheVariants.{Unreached, Body, Child}
use Rattle.region_match.specs.Tasks.{task_at}
use Rattle.region_match.specs.Labels.{is_seen}
use Rattle.region_match.specs.Rules.{ending_at, IsDetach, Starts, IsOpen, is_leave}
use Rattle.cfg.specs.declared.structure.BlockEdges.{BlockEdges}

abbrev pub IsStartedBy : List Block → List Task → RegisterId → Task → Type 0
IsStartedBy bodies tasks region task = (b : ℕ) × (block : Block) × (slice_get bodies b ≡ Some block) ×
    Starts region block.steps × (task_at tasks b ≡ task)

abbrev pub IsStrayBy : List Block → Task → RegisterId → Type 0
IsStrayBy bodies Unreached region = ⊥
IsStrayBy bodies Body region = Unit {0}
IsStrayBy bodies (Child detach) region = (continuation : BlockId) →
    IsDetach (ending_at bodies detach.0) region continuation → ⊥

abbrev pub IsElsewhereBy : List Block → Task → BlockId → Type 0
IsElsewhereBy bodies Unreached continuation = ⊥
IsElsewhereBy bodies Body continuation = ⊥
IsElsewhereBy bodies (Child detach) continuation = (region : RegisterId) →
    IsDetach (ending_at bodies detach.0) region continuation → ⊥

abbrev pub IsForeignBy : List Block → List Task → Task → RegisterId → Type 0
IsForeignBy bodies tasks task region = (is_seen task ≡ true) × (IsStartedBy bodies tasks region task → ⊥)

abbrev pub IsInsideBy : Task → Type 0
IsInsideBy Unreached = ⊥
IsInsideBy Body = ⊥
IsInsideBy (Child detach) = Unit {0}

abbrev pub IsEndingWrongBy : List Block → List Task → Task → Terminator → ℕ → Type 0
IsEndingWrongBy bodies tasks task (Return value) number = (number ≡ 305) × IsInsideBy task
IsEndingWrongBy bodies tasks task (Detach region body continuation) number = (number ≡ 303) ×
    IsForeignBy bodies tasks task region
IsEndingWrongBy bodies tasks task (Reattach region continuation) number =
    ((number ≡ 301) × IsStrayBy bodies task region) ⊎ ((number ≡ 302) × IsElsewhereBy bodies task continuation)
IsEndingWrongBy bodies tasks task (Sync region target) number = (number ≡ 303) × IsForeignBy bodies tasks task region
IsEndingWrongBy bodies tasks task other number = ⊥

abbrev pub IsEndingBrokenBy : List Block → List Task → Task → Option Ending → Broken → Type 0
IsEndingBrokenBy bodies tasks task None broken = ⊥
IsEndingBrokenBy bodies tasks task (Some ending) broken = (broken.line ≡ ending.line) ×
    IsEndingWrongBy bodies tasks task ending.terminator broken.number

abbrev pub IsPendingBrokenBy : List Block → List Task → Task → List Pending → Broken → Type 0
IsPendingBrokenBy bodies tasks task pending broken =
    Any (λ p. (broken.number ≡ 303) × (broken.line ≡ p.zone.line) × IsForeignBy bodies tasks task p.region) pending

-- 304, at the ends that one detach is open at
abbrev pub IsOpenEndOf : List Block → List BlockEdges → ℕ → Broken → Type 0
IsOpenEndOf bodies blocks detach broken =
    (to : ℕ) × (block : Block) × (ending : Ending) × (slice_get bodies to ≡ Some block) × (block.ending ≡ Some ending)
    × (is_leave ending.terminator ≡ true) × (broken.number ≡ 304) × (broken.line ≡ ending.line) ×
    IsOpen bodies blocks detach to
