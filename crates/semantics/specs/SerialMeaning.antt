-- The serial meaning: a detach is its child's whole meaning and then the continuation's (Tapir, PPoPP 2017, section 3,
-- "serial elision").
use Rattle.std.specs.Prelude.{◌≡◌, ℕ, zero, suc, ◌+◌, max, List, ◌∷◌, [], Option, Some, None, ℤ}
use Rattle.semantics.specs.Paths.{Path}
use Rattle.semantics.specs.Cells.{Memory, globals_of}
use Rattle.semantics.specs.Arithmetic.{Trap}
use Rattle.semantics.specs.Frames.{Frame}
use Rattle.semantics.specs.Effect.{Effect, Action, Plain, Detach, Reattach, Sync, Call, Return, action_of}
use Rattle.semantics.specs.State.{override, added, clears, went, detached, continued, synced, called, waiting, resumed}
use Rattle.semantics.specs.State.{root_frame}
use Rattle.program.specs.linear.declared.form.RegisterId.{RegisterId}
use Rattle.program.specs.declared.function.Program.{Program}

-- how the rest of a child or of a function's body ends
pub data Ending : Type 0 where
  Left : Ending
  Gave : (result : Option ℤ) → Ending

pub record Outcome : Type 0 where
  pub ending : Ending
  pub memory : Memory
  pub count : ℕ  -- instructions done, each 1 but phis
  pub depth : ℕ  -- frames from this one on, itself counted

abbrev pub Rest : Type 0
Rest = Path → Frame → Memory → Option Outcome

abbrev pub written : Effect → Memory → Memory
written e m x = added (e.adds x) (override (e.writes x) (m x))

abbrev pub cleared : Path → Memory → Memory
cleared p m x = override (clears p x) (m x)

abbrev pub one_more : Outcome → Outcome
one_more o = record o { count = suc o.count }

-- a child or callee and then the rest
abbrev pub both_outcomes : Outcome → Outcome → Outcome
both_outcomes o u =
    record { ending = u.ending; memory = u.memory; count = suc (o.count + u.count); depth = max (suc o.depth) u.depth }

abbrev pub at_last : Ending → Memory → Outcome
at_last ending m = record { ending = ending; memory = m; count = 1; depth = 1 }

abbrev pub counted : Option Outcome → Option Outcome
counted None = None
counted (Some o) = Some (one_more o)

abbrev pub joined : Outcome → Option Outcome → Option Outcome
joined o None = None
joined o (Some u) = Some (both_outcomes o u)

abbrev pub last : Ending → Memory → Option Outcome
last ending m = Some (at_last ending m)

abbrev pub after_effect : Rest → Path → Frame → Memory → Effect → Option Trap → Option Outcome
after_effect rest p f m e (Some t) = None
after_effect rest p f m e None = counted (rest p (went f e) (written e m))

abbrev pub after_left : Rest → Path → Frame → Outcome → Ending → Option Outcome
after_left rest p f o Left = joined o (rest p f o.memory)
after_left rest p f o (Gave result) = None

abbrev pub after_child : Rest → Path → Frame → Option Outcome → Option Outcome
after_child rest p f None = None
after_child rest p f (Some o) = after_left rest p f o o.ending

abbrev pub after_gave : Rest → Path → Frame → Option RegisterId → Outcome → Ending → Option Outcome
after_gave rest p f d o Left = None
after_gave rest p f d o (Gave result) = joined o (rest p (resumed f d result) o.memory)

abbrev pub after_call : Rest → Path → Frame → Option RegisterId → Option Outcome → Option Outcome
after_call rest p f d None = None
after_call rest p f d (Some o) = after_gave rest p f d o o.ending

abbrev pub by_action : Rest → Path → Frame → Memory → Action → Option Outcome
by_action rest p f m (Plain e) = after_effect rest p f m e e.trap
by_action rest p f m (Detach region body continuation) =
    after_child rest p (continued f continuation) (rest (f.made ∷ p) (detached f region body continuation) m)
by_action rest p f m (Reattach region) = last Left m
by_action rest p f m (Sync region block r) = counted (rest p (synced f region block r) m)
by_action rest p f m (Call d callee values) =
    after_call rest p (waiting f d) d (rest (f.made ∷ p) (called p f callee values) m)
by_action rest p f m (Return result) = last (Gave result) (cleared p m)

-- the rest of the frame at a path from this memory on, if it ends without a trap within so many instructions one after
-- another
abbrev pub meaning : Program → ℕ → Rest
meaning prog zero p f m = None
meaning prog (suc n) p f m = by_action (meaning prog n) p f m (action_of prog p f m)

-- what a run of the whole program gives, serially
pub record IsSerialMeaning (prog : Program) (arguments : List ℤ) (memory : Memory) (o : Outcome) : Type 0 where
  pub within : ℕ
  pub meets : meaning prog within [] (root_frame prog arguments) (globals_of memory) ≡ Some o
