-- A whole schedule, and what is seen of a machine.
use Rattle.std.specs.Prelude.{◌≡◌, ℕ, List, [], ◌∷◌, length, Option, Some, None, Bool, is_none, is_some}
use Rattle.std.specs.List.{IsDistinct}
use Rattle.std.specs.Set.{is_member}
use Rattle.semantics.specs.Paths.{Path, same_path}
use Rattle.semantics.specs.State.{State}
use Rattle.semantics.specs.Events.{Machine, Event, event}
use Rattle.program.specs.declared.function.Program.{Program}

abbrev pub or_unchanged : Option Machine → Machine → Machine
or_unchanged None m = m
or_unchanged (Some after) m = after

-- an event that is not enabled changes nothing
abbrev pub replay : Program → ℕ → List Event → Machine → Machine
replay prog workers [] m = m
replay prog workers (e ∷ events) m = replay prog workers events (or_unchanged (event prog workers e m) m)

-- the run has ended: the root has returned
abbrev pub has_ended : Machine → Bool
has_ended m = is_none (m.core.frames [])

-- so many frames live
pub record CountsFrames (s : State) (n : ℕ) : Type 0 where
  pub living : List Path
  pub distinct : IsDistinct same_path living
  pub all : (p : Path) → is_member same_path living p ≡ is_some (s.frames p)
  pub count : n ≡ length living
