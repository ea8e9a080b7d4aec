-- The events that the entries of a history spell.
use Rattle.std.specs.Prelude.{ℕ, List, [], ◌∷◌, ◌++◌, replicate}
use Rattle.frame.specs.declared.event.Event.{Event}
use Rattle.frame.specs.declared.event.Event.TheVariants as event
use Rattle.shared_run.specs.declared.history.Entry.{Entry}
use Rattle.shared_run.specs.declared.history.Entry.TheVariants.{Steps, Steal}
use Rattle.shared_run.specs.declared.history.Keeping.{Keeping}
use Rattle.shared_run.specs.declared.history.Keeping.TheVariants as keeping

-- a history as contracts see it: the events, whether they are kept, and for how many more entries there is room
pub record Chronicle : Type 0 where
  pub events : List Event
  pub keeping : Keeping
  pub spare : ℕ

-- where events are not kept they take no room
abbrev pub room_of : Keeping → ℕ → ℕ
room_of keeping.Events free = free
room_of keeping.Nothing free = 1

abbrev pub events_of : Entry → List Event
events_of (Steps worker count) = replicate count (event.Step worker)
events_of (Steal worker path) = event.Steal worker path ∷ []

abbrev pub spelled : List Entry → List Event
spelled [] = []
spelled (entry ∷ entries) = events_of entry ++ spelled entries
