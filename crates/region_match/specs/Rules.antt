-- The rules on detach, reattach, sync and ret, and on the places of regions, phis and feet.
use Rattle.std.specs.Prelude.{◌≡◌, ◌≢◌, ◌⊎◌, ℕ, Bool, true, false, List, [], ◌∷◌, Option, Some, None, Any, slice_get}
use Rattle.program.specs.linear.declared.form.RegisterId.{RegisterId}
use Rattle.program.specs.declared.identifier.BlockId.{BlockId}
use Rattle.program.specs.declared.annotation.Pending.{Pending}
use Rattle.program.specs.declared.annotation.Zone.{Zone}
use Rattle.program.specs.declared.instruction.Instruction.TheVariants.{StartRegion}
use Rattle.program.specs.declared.instruction.Step.{Step}
use Rattle.program.specs.declared.instruction.Phi.{Phi}
use Rattle.program.specs.declared.instruction.Ending.{Ending}
use Rattle.program.specs.declared.instruction.Terminator.{Terminator}
use Rattle.program.specs.declared.instruction.Terminator.TheVariants.{Return, Detach, Reattach}
use Rattle.program.specs.declared.instruction.Terminator.TheVariants.{Sync}
use Rattle.program.specs.declared.function.Block.{Block}
use Rattle.cfg.specs.declared.structure.Way.{Way}
use Rattle.cfg.specs.declared.structure.Way.TheVariants.{Detached, Continued}
use Rattle.cfg.specs.declared.structure.BlockEdges.{BlockEdges}
use Rattle.refusal.specs.declared.broken.Broken.{Broken}
use Rattle.cfg.specs.Paths.{edges_of, Leg, IsPath}
use Rattle.cfg.specs.Rules.{IsPredecessor}
use Rattle.region_match.specs.Tasks.{HasTask}

abbrev pub terminator_of : Option Ending → Option Terminator
terminator_of None = None
terminator_of (Some ending) = Some ending.terminator

abbrev pub ending_of : Option Block → Option Terminator
ending_of None = None
ending_of (Some block) = terminator_of block.ending

abbrev pub ending_at : List Block → ℕ → Option Terminator
ending_at bodies b = ending_of (slice_get bodies b)

-- the block ends with a detach within this region, with this continuation
abbrev pub IsDetach : Option Terminator → RegisterId → BlockId → Type 0
IsDetach terminator region continuation = (body : BlockId) × (terminator ≡ Some (Detach region body continuation))

abbrev pub Starts : RegisterId → List Step → Type 0
Starts region steps = Any (λ step. step.instruction ≡ StartRegion region) steps

-- a block of this task starts the region
abbrev pub IsStarted : List Block → List BlockEdges → RegisterId → List ℕ → Type 0
IsStarted bodies blocks region detaches = (b : ℕ) × (block : Block) × (slice_get bodies b ≡ Some block) ×
    Starts region block.steps × HasTask blocks b detaches

-- 301: a reattach in no task, or within another region than its detach's
abbrev pub IsStray : List Block → List BlockEdges → ℕ → RegisterId → Type 0
IsStray bodies blocks b region = HasTask blocks b [] ⊎ ((detach : ℕ) × (outer : List ℕ) × HasTask blocks b
    (detach ∷ outer) × ((continuation : BlockId) → IsDetach (ending_at bodies detach) region continuation → ⊥))

-- 302: a reattach to another continuation than its detach's
abbrev pub IsElsewhere : List Block → List BlockEdges → ℕ → BlockId → Type 0
IsElsewhere bodies blocks b continuation = (detach : ℕ) × (outer : List ℕ) × HasTask blocks b (detach ∷ outer) ×
    ((region : RegisterId) → IsDetach (ending_at bodies detach) region continuation → ⊥)

-- 303: the task of a use did not start the region
abbrev pub IsForeign : List Block → List BlockEdges → ℕ → RegisterId → Type 0
IsForeign bodies blocks b region = (detaches : List ℕ) × HasTask blocks b detaches ×
    (IsStarted bodies blocks region detaches → ⊥)

-- 305: a ret inside a task
abbrev pub IsInside : List BlockEdges → ℕ → Type 0
IsInside blocks b = (detach : ℕ) × (outer : List ℕ) × HasTask blocks b (detach ∷ outer)

-- which rule the terminator of a block breaks by itself
abbrev pub IsEndingWrong : List Block → List BlockEdges → ℕ → Terminator → ℕ → Type 0
IsEndingWrong bodies blocks b (Return value) number = (number ≡ 305) × IsInside blocks b
IsEndingWrong bodies blocks b (Detach region body continuation) number = (number ≡ 303) ×
    IsForeign bodies blocks b region
IsEndingWrong bodies blocks b (Reattach region continuation) number =
    ((number ≡ 301) × IsStray bodies blocks b region) ⊎ ((number ≡ 302) × IsElsewhere bodies blocks b continuation)
IsEndingWrong bodies blocks b (Sync region target) number = (number ≡ 303) × IsForeign bodies blocks b region
IsEndingWrong bodies blocks b other number = ⊥

abbrev pub IsEndingBroken : List Block → List BlockEdges → ℕ → Option Ending → Broken → Type 0
IsEndingBroken bodies blocks b None broken = ⊥
IsEndingBroken bodies blocks b (Some ending) broken = (broken.line ≡ ending.line) ×
    IsEndingWrong bodies blocks b ending.terminator broken.number

-- 303, at a `pending` line
abbrev pub IsPendingBroken : List Block → List BlockEdges → ℕ → List Pending → Broken → Type 0
IsPendingBroken bodies blocks b pending broken = Any (λ p. (broken.number ≡ 303) × (broken.line ≡ p.zone.line) ×
    IsForeign bodies blocks b p.region) pending

abbrev pub is_leave : Terminator → Bool
is_leave (Return value) = true
is_leave (Reattach region continuation) = true
is_leave other = false

abbrev pub IsSync : Option Terminator → RegisterId → Type 0
IsSync terminator region = (target : BlockId) × (terminator ≡ Some (Sync region target))

-- no leg leaves a block that ends with a sync of the region
abbrev pub IsUnsynced : List Block → RegisterId → List Leg → Type 0
IsUnsynced bodies region [] = Unit {0}
IsUnsynced bodies region (leg ∷ legs) = (IsSync (ending_at bodies leg.from) region → ⊥) × IsUnsynced bodies region legs

-- 304: a path from the continuation of a detach to an end of the same task, with no sync of its region
pub record IsOpen (bodies : List Block) (blocks : List BlockEdges) (detach to : ℕ) : Type 0 where
  pub region : RegisterId
  pub continuation : BlockId
  pub is_detach : IsDetach (ending_at bodies detach) region continuation
  pub task : List ℕ
  pub detach_task : HasTask blocks detach task
  pub end_task : HasTask blocks to task
  pub legs : List Leg
  pub path : IsPath blocks continuation.0 legs to
  pub unsynced : IsUnsynced bodies region legs

abbrev pub IsOpenEnd : List Block → List BlockEdges → Broken → Type 0
IsOpenEnd bodies blocks broken = (to : ℕ) × (block : Block) × (ending : Ending) × (slice_get bodies to ≡ Some block) ×
    (block.ending ≡ Some ending) × (is_leave ending.terminator ≡ true) × (broken.number ≡ 304) ×
    (broken.line ≡ ending.line) × (detach : ℕ) × IsOpen bodies blocks detach to

-- an edge leads to the block this way
abbrev pub IsEntered : List BlockEdges → ℕ → Way → Type 0
IsEntered blocks b way = (a : ℕ) × Any (λ e. (e.to.0 ≡ b) × (e.way ≡ way)) (edges_of blocks a)

-- 307, at an instruction: a region starts in an entry block or a detached block
abbrev pub IsStartBroken : List BlockEdges → ℕ → List Step → Broken → Type 0
IsStartBroken blocks b steps broken = (b ≢ 0) × (IsEntered blocks b Detached → ⊥) × Any (λ step. (broken.number ≡ 307) ×
    (broken.line ≡ step.line) × (region : RegisterId) × (step.instruction ≡ StartRegion region)) steps

-- 307, at a phi: detached and continuation blocks have none
abbrev pub IsPhiBroken : List BlockEdges → ℕ → List Phi → Broken → Type 0
IsPhiBroken blocks b phis broken = (IsEntered blocks b Detached ⊎ IsEntered blocks b Continued) ×
    Any (λ phi. (broken.number ≡ 307) × (broken.line ≡ phi.line)) phis

-- 307, at a `foot` line: it stands on detached blocks
abbrev pub IsFootBroken : List BlockEdges → ℕ → List Zone → Broken → Type 0
IsFootBroken blocks b foot broken = (IsEntered blocks b Detached → ⊥) × Any (λ zone. (broken.number ≡ 307) ×
    (broken.line ≡ zone.line)) foot

-- 307, at the label: a detached block has its detach as only predecessor
abbrev pub IsShared : List BlockEdges → ℕ → Type 0
IsShared blocks b = (a : ℕ) × Any (λ e. (e.to.0 ≡ b) × (e.way ≡ Detached)) (edges_of blocks a) × (other : ℕ) ×
    (other ≢ a) × IsPredecessor blocks other b

abbrev pub IsLabelBroken : List BlockEdges → ℕ → Block → Broken → Type 0
IsLabelBroken blocks b block broken = (broken.number ≡ 307) × (broken.line ≡ block.line) × IsShared blocks b

-- 307, in all its forms
abbrev pub IsPlaceBroken : List BlockEdges → ℕ → Block → Broken → Type 0
IsPlaceBroken blocks b block broken = (IsStartBroken blocks b block.steps broken ⊎ IsPhiBroken blocks b block.phis
    broken) ⊎ (IsFootBroken blocks b block.foot broken ⊎ IsLabelBroken blocks b block broken)
