-- After the end.
use Rattle.std.specs.Prelude.{◌≡◌, ℕ, ◌≤◌, List, None, true, ℤ}
use Rattle.semantics.specs.Cells.{Memory}
use Rattle.semantics.specs.Events.{Event, event, start}
use Rattle.semantics.specs.Replay.{replay, has_ended}
use Rattle.program.specs.declared.function.Program.{Program}

-- in a state that a schedule leads to, and in which the root has returned, no event is enabled
abbrev pub EndedEnablesNothing : Type 0
EndedEnablesNothing =
    (prog : Program) (arguments : List ℤ) (memory : Memory) (workers : ℕ) → 1 ≤ workers → (events : List Event) →
    has_ended (replay prog workers events (start prog arguments memory)) ≡ true →
    (e : Event) → event prog workers e (replay prog workers events (start prog arguments memory)) ≡ None
