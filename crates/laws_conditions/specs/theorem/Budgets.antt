-- What a frame may still use, and how deep the frames from it on may stand: local conditions, each an inequality
-- between a frame and those that it goes on with, and what they bound of the serial run.
use Rattle.std.specs.Prelude.{◌≡◌, ℕ, ◌<◌, ◌≤◌, List, [], ◌∷◌, Option, None, Bool, true, ℤ, pos, ◌+ℤ◌, ◌≤ℤ◌}
use Rattle.semantics.specs.Paths.{Path}
use Rattle.semantics.specs.Cells.{Memory, globals_of}
use Rattle.semantics.specs.Frames.{Value, Registers, Frame}
use Rattle.semantics.specs.Effect.{Effect, Plain, Detach, Reattach, Sync, Call, Return, action_of}
use Rattle.semantics.specs.State.{went, detached, continued, synced, called, waiting, resumed, root_frame}
use Rattle.semantics.specs.SerialMeaning.{Outcome, written, IsSerialMeaning}
use Rattle.laws_conditions.specs.theorem.SerialConditions.{Says, Finds, Nothing, KeptSerially, Rank, RunsOn}
use Rattle.linear.specs.declared.form.RegisterId.{RegisterId}
use Rattle.program.specs.declared.function.Program.{Program}

-- all covers one instruction and then the rest
abbrev pub Pays : ℤ → ℤ → Type 0
Pays all rest = (rest +ℤ pos 1) ≤ℤ all

-- what a frame may use covers its instruction and what the frames that it goes on with may use
pub record SpendsBudget (prog : Program) (base : Says) (may_use : Frame → ℤ) : Type 0 where
  pub plain_pays : (p : Path) (f : Frame) (m : Memory) (e : Effect) → base p f m → action_of prog p f m ≡ Plain e →
      e.trap ≡ None →
      base p (went f e) (written e m) → Pays (may_use f) (may_use (went f e))
  pub sync_pays : (p : Path) (f : Frame) (m : Memory) (region block : ℕ) (registers : Registers) → base p f m →
      action_of prog p f m ≡ Sync region block registers → base p (synced f region block registers) m →
      Pays (may_use f) (may_use (synced f region block registers))
  pub detach_pays : (p : Path) (f : Frame) (m n : Memory) (region body continuation : ℕ) → base p f m →
      action_of prog p f m ≡ Detach region body continuation →
      base (f.made ∷ p) (detached f region body continuation) m → base p (continued f continuation) n →
      Pays (may_use f) (may_use (detached f region body continuation) +ℤ may_use (continued f continuation))
  pub call_pays : (p : Path) (f : Frame) (m n : Memory) (d : Option RegisterId) (callee : ℕ) (values : List Value)
      (result : Option ℤ) → base p f m →
      action_of prog p f m ≡ Call d callee values → base (f.made ∷ p) (called p f callee values) m →
      base p (resumed (waiting f d) d result) n →
      Pays (may_use f) (may_use (called p f callee values) +ℤ may_use (resumed (waiting f d) d result))
  pub reattach_pays : (p : Path) (f : Frame) (m : Memory) (region : ℕ) → base p f m →
      action_of prog p f m ≡ Reattach region → Pays (may_use f) (pos 0)
  pub return_pays : (p : Path) (f : Frame) (m : Memory) (result : Option ℤ) → base p f m →
      action_of prog p f m ≡ Return result → Pays (may_use f) (pos 0)

-- a child or callee reaches one frame less deep
pub record StaysInDepth (prog : Program) (base : Says) (may_reach : Frame → ℕ) : Type 0 where
  pub plain_reach : (p : Path) (f : Frame) (m : Memory) (e : Effect) → base p f m → action_of prog p f m ≡ Plain e →
      e.trap ≡ None →
      base p (went f e) (written e m) → may_reach (went f e) ≤ may_reach f
  pub sync_reach : (p : Path) (f : Frame) (m : Memory) (region block : ℕ) (registers : Registers) → base p f m →
      action_of prog p f m ≡ Sync region block registers → base p (synced f region block registers) m →
      may_reach (synced f region block registers) ≤ may_reach f
  pub child_reach : (p : Path) (f : Frame) (m : Memory) (region body continuation : ℕ) → base p f m →
      action_of prog p f m ≡ Detach region body continuation →
      base (f.made ∷ p) (detached f region body continuation) m →
      may_reach (detached f region body continuation) < may_reach f
  pub continued_reach : (p : Path) (f : Frame) (m n : Memory) (region body continuation : ℕ) → base p f m →
      action_of prog p f m ≡ Detach region body continuation → base p (continued f continuation) n →
      may_reach (continued f continuation) ≤ may_reach f
  pub callee_reach : (p : Path) (f : Frame) (m : Memory) (d : Option RegisterId) (callee : ℕ) (values : List Value) →
      base p f m →
      action_of prog p f m ≡ Call d callee values → base (f.made ∷ p) (called p f callee values) m →
      may_reach (called p f callee values) < may_reach f
  pub resumed_reach : (p : Path) (f : Frame) (m n : Memory) (d : Option RegisterId) (callee : ℕ) (values : List Value)
      (result : Option ℤ) → base p f m →
      action_of prog p f m ≡ Call d callee values → base p (resumed (waiting f d) d result) n →
      may_reach (resumed (waiting f d) d result) ≤ may_reach f
  pub reattach_reach : (p : Path) (f : Frame) (m : Memory) (region : ℕ) → base p f m →
      action_of prog p f m ≡ Reattach region → 1 ≤ may_reach f
  pub return_reach : (p : Path) (f : Frame) (m : Memory) (result : Option ℤ) → base p f m →
      action_of prog p f m ≡ Return result → 1 ≤ may_reach f

-- all conditions for the serial run: good is kept, post is found of each outcome, nothing traps, the rank falls, and
-- budget and depth are kept
pub record RunsSerially (prog : Program) (good : Says) (post : Finds) (rank : Frame → Rank) (may_use : Frame →
    ℤ) (may_reach : Frame → ℕ) : Type 0 where
  pub kept : KeptSerially prog Nothing good post
  pub runs : RunsOn prog good rank
  pub budget : SpendsBudget prog good may_use
  pub depth : StaysInDepth prog good may_reach

-- for conditions that are given by tests: the serial run of the whole program ends without a trap within its budget and
-- depth, and what is found of its outcome holds
abbrev pub SerialRunExists : Type 0
SerialRunExists =
    (prog : Program) (good : Path → Frame → Memory → Bool) (post : Path → Frame → Memory → Outcome →
    Bool) (rank : Frame → Rank) (may_use : Frame → ℤ)
    (may_reach : Frame → ℕ) →
    RunsSerially prog (λ p f m. good p f m ≡ true) (λ p f m o. post p f m o ≡ true) rank may_use may_reach →
    (arguments : List ℤ) (memory : Memory) → good [] (root_frame prog arguments) (globals_of memory) ≡ true →
    (o : Outcome) × IsSerialMeaning prog arguments memory o ×
    (post [] (root_frame prog arguments) (globals_of memory) o ≡ true) ×
    (pos o.count ≤ℤ may_use (root_frame prog arguments)) × (o.depth ≤ may_reach (root_frame prog arguments))
