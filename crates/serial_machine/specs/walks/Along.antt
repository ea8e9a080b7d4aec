-- The laws: what holds of each run that steps over a stack of frames lead to, from the start of a serial run on.
use Rattle.std.specs.Prelude.{◌≡◌, ⊤, ℕ, suc, ◌<◌, ◌≤◌, Bool, true, List, [], ◌∷◌, length, Some, ℤ}
use Rattle.semantics.specs.Paths.{Path}
use Rattle.semantics.specs.Cells.{Memory, globals_of}
use Rattle.semantics.specs.Frames.{Frame}
use Rattle.laws_schedule.specs.laws_conditions.theorem.SerialConditions.{Says, Finds, Nothing, KeptSerially}
use Rattle.semantics.specs.SerialMeaning.{Gave, Outcome, IsSerialMeaning}
use Rattle.semantics.specs.State.{root_frame}
use Rattle.program.specs.declared.function.Program.{Program}
use Rattle.laws_strands.specs.stacks.Strands.{Placed}
use Rattle.serial_stack.specs.Steps.{Run, IsStuck, Walk, starting}

-- after n steps of a serial run whose outcome is o: one more instruction is left at least, and there are no more frames
-- than o has
pub record GoesOnTo (prog : Program) (o : Outcome) (n : ℕ) (s : Run) : Type 0 where
  pub not_stuck : IsStuck prog s → ⊥
  pub counted : n < o.count
  pub deep : suc (length s.below) ≤ o.depth

-- where the serial meaning gives a number, no step on the way to it is stuck, or goes beyond its count or its depth
abbrev pub WalksGoOn : Type 0
WalksGoOn =
    (prog : Program) (arguments : List ℤ) (memory : Memory) (o : Outcome) (z : ℤ) →
    IsSerialMeaning prog arguments memory o → o.ending ≡ Gave (Some z) →
    (n peak : ℕ) (s : Run) → Walk prog (starting prog arguments memory) n peak s → GoesOnTo prog o n s

-- where a serial run keeps good, and it is so of the first frame, it is so of the frame on top of each stack
abbrev pub KeepsAlong : Program → Says → Finds → Type 0
KeepsAlong prog good post =
    KeptSerially prog Nothing good post → (arguments : List ℤ) (memory : Memory) →
    good [] (root_frame prog arguments) (globals_of memory) →
    (n peak : ℕ) (s : Run) → Walk prog (starting prog arguments memory) n peak s → good s.path s.frame s.memory

-- so it is whatever is kept: here of conditions that are given by tests
abbrev pub WalksKeepTests : Type 0
WalksKeepTests =
    (prog : Program) (good : Path → Frame → Memory → Bool) (post : Path → Frame → Memory → Outcome → Bool) →
    KeepsAlong prog (λ p f m. good p f m ≡ true) (λ p f m o. post p f m o ≡ true)

-- neither its place in its block nor the number of frames that it made is above n
pub record IsWithin (n : ℕ) (f : Frame) : Type 0 where
  pub index : f.index ≤ n
  pub made : f.made ≤ n

-- so it is of each of these frames
abbrev pub AreWithin : ℕ → List Placed → Type 0
AreWithin n [] = ⊤
AreWithin n (g ∷ below) = IsWithin n g.frame × AreWithin n below

-- so it is of all frames of a run, and there are no more than n below the one on top
pub record IsCounted (n : ℕ) (s : Run) : Type 0 where
  pub top : IsWithin n s.frame
  pub below : AreWithin n s.below
  pub deep : length s.below ≤ n

-- places, frames made and frames below are no more than the steps
abbrev pub WalksCount : Type 0
WalksCount = (prog : Program) (arguments : List ℤ) (memory : Memory) (n peak : ℕ) (s : Run) →
    Walk prog (starting prog arguments memory) n peak s →
    IsCounted n s
