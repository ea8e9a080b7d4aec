-- Local conditions for the serial run alone, where a child is over before its continuation begins: what is kept, that
-- no instruction traps, and that a rank falls. With them the serial meaning exists.
use Rattle.std.specs.Prelude.{◌≡◌, ℕ, ◌<◌, List, ◌∷◌, Option, None, ℤ}
use Rattle.semantics.specs.Paths.{Path}
use Rattle.semantics.specs.Cells.{Memory}
use Rattle.semantics.specs.Frames.{Value, Registers, Frame}
use Rattle.semantics.specs.Effect.{Effect, Plain, Detach, Reattach, Sync, Call, Return, action_of}
use Rattle.semantics.specs.State.{went, detached, continued, synced, called, waiting, resumed}
use Rattle.semantics.specs.SerialMeaning.{Left, Gave, Outcome, written, cleared, one_more, both_outcomes, at_last}
use Rattle.linear.specs.declared.form.RegisterId.{RegisterId}
use Rattle.program.specs.declared.function.Program.{Program}

-- something said of a frame at its path, with the memory
abbrev pub Says : Type 1
Says = Path → Frame → Memory → Type 0

-- something said of such a frame and the outcome of its rest
abbrev pub Finds : Type 1
Finds = Path → Frame → Memory → Outcome → Type 0

-- good is kept by each instruction that does not trap, where base is; and post holds of the outcome
pub record KeptSerially (prog : Program) (base good : Says) (post : Finds) : Type 0 where
  pub plain_kept : (p : Path) (f : Frame) (m : Memory) (e : Effect) → base p f m → good p f m →
      action_of prog p f m ≡ Plain e → e.trap ≡ None →
      base p (went f e) (written e m) →
      record {
        next : good p (went f e) (written e m);
        finds : (o : Outcome) → post p (went f e) (written e m) o →
            post p f m (one_more o);
      }
  pub sync_kept : (p : Path) (f : Frame) (m : Memory) (region block : ℕ) (registers : Registers) → base p f m →
      good p f m →
      action_of prog p f m ≡ Sync region block registers → base p (synced f region block registers) m →
      record {
        next : good p (synced f region block registers) m;
        finds : (o : Outcome) → post p (synced f region block registers) m o →
            post p f m (one_more o);
      }
  pub child_kept : (p : Path) (f : Frame) (m : Memory) (region body continuation : ℕ) → base p f m → good p f m →
      action_of prog p f m ≡ Detach region body continuation →
      base (f.made ∷ p) (detached f region body continuation) m →
      good (f.made ∷ p) (detached f region body continuation) m
  pub continued_kept : (p : Path) (f : Frame) (m : Memory) (region body continuation : ℕ) → base p f m → good p f m →
      action_of prog p f m ≡ Detach region body continuation →
      base (f.made ∷ p) (detached f region body continuation) m →
      (o : Outcome) → o.ending ≡ Left → post (f.made ∷ p) (detached f region body continuation) m o →
      base p (continued f continuation) o.memory →
      record {
        next : good p (continued f continuation) o.memory;
        finds : (u : Outcome) → post p (continued f continuation) o.memory u →
            post p f m (both_outcomes o u);
      }
  pub callee_kept : (p : Path) (f : Frame) (m : Memory) (d : Option RegisterId) (callee : ℕ) (values : List Value) →
      base p f m → good p f m →
      action_of prog p f m ≡ Call d callee values → base (f.made ∷ p) (called p f callee values) m →
      good (f.made ∷ p) (called p f callee values) m
  pub resumed_kept : (p : Path) (f : Frame) (m : Memory) (d : Option RegisterId) (callee : ℕ) (values : List Value) →
      base p f m → good p f m →
      action_of prog p f m ≡ Call d callee values → base (f.made ∷ p) (called p f callee values) m →
      (o : Outcome) (result : Option ℤ) → o.ending ≡ Gave result → post (f.made ∷ p) (called p f callee values) m o →
      base p (resumed (waiting f d) d result) o.memory →
      record {
        next : good p (resumed (waiting f d) d result) o.memory;
        finds : (u : Outcome) → post p (resumed (waiting f d) d result) o.memory u →
            post p f m (both_outcomes o u);
      }
  pub reattach_finds : (p : Path) (f : Frame) (m : Memory) (region : ℕ) → base p f m → good p f m →
      action_of prog p f m ≡ Reattach region →
      post p f m (at_last Left m)
  pub return_finds : (p : Path) (f : Frame) (m : Memory) (result : Option ℤ) → base p f m → good p f m →
      action_of prog p f m ≡ Return result →
      post p f m (at_last (Gave result) (cleared p m))

-- what falls, the first that differs deciding: the function, its measure, what its block may still use, the steps of
-- the block that are left
pub record Rank : Type 0 where
  pub function : ℕ
  pub measure : ℕ
  pub left : ℕ
  pub steps : ℕ

pub data Below (a b : Rank) : Type 0 where
  by_function : a.function < b.function → Below a b
  by_measure : a.function ≡ b.function → a.measure < b.measure → Below a b
  by_left : a.function ≡ b.function → a.measure ≡ b.measure → a.left < b.left → Below a b
  by_steps : a.function ≡ b.function → a.measure ≡ b.measure → a.left ≡ b.left → a.steps < b.steps → Below a b

-- no instruction of a good frame traps, and the rank falls from it to each frame that it goes on with
pub record RunsOn (prog : Program) (good : Says) (rank : Frame → Rank) : Type 0 where
  pub no_trap : (p : Path) (f : Frame) (m : Memory) (e : Effect) → good p f m → action_of prog p f m ≡ Plain e →
      e.trap ≡ None
  pub plain_falls : (p : Path) (f : Frame) (m : Memory) (e : Effect) → good p f m → action_of prog p f m ≡ Plain e →
      good p (went f e) (written e m) →
      Below (rank (went f e)) (rank f)
  pub sync_falls : (p : Path) (f : Frame) (m : Memory) (region block : ℕ) (registers : Registers) → good p f m →
      action_of prog p f m ≡ Sync region block registers → good p (synced f region block registers) m →
      Below (rank (synced f region block registers)) (rank f)
  pub child_falls : (p : Path) (f : Frame) (m : Memory) (region body continuation : ℕ) → good p f m →
      action_of prog p f m ≡ Detach region body continuation →
      good (f.made ∷ p) (detached f region body continuation) m →
      Below (rank (detached f region body continuation)) (rank f)
  pub continued_falls : (p : Path) (f : Frame) (m n : Memory) (region body continuation : ℕ) → good p f m →
      action_of prog p f m ≡ Detach region body continuation → good p (continued f continuation) n →
      Below (rank (continued f continuation)) (rank f)
  pub callee_falls : (p : Path) (f : Frame) (m : Memory) (d : Option RegisterId) (callee : ℕ) (values : List Value) →
      good p f m →
      action_of prog p f m ≡ Call d callee values → good (f.made ∷ p) (called p f callee values) m →
      Below (rank (called p f callee values)) (rank f)
  pub resumed_falls : (p : Path) (f : Frame) (m n : Memory) (d : Option RegisterId) (callee : ℕ) (values : List Value)
      (result : Option ℤ) → good p f m →
      action_of prog p f m ≡ Call d callee values → good p (resumed (waiting f d) d result) n →
      Below (rank (resumed (waiting f d) d result)) (rank f)

abbrev pub Nothing : Says
Nothing p f m = Unit {0}
