-- The pointers that steps define, what a put zone touches, and edges with other facts.
use Rattle.std.specs.Prelude.{List, [], ◌∷◌, Option}
use Rattle.program.specs.declared.instruction.Step.{Step}
use Rattle.footprints.specs.declared.access.Pointer.{Pointer}
use Rattle.footprints.specs.Pointers.{defined_pointer, with_pointer}
use Rattle.linear.specs.declared.form.Fact.{Fact}
use Rattle.ranges.specs.declared.table.EdgeFacts.{EdgeFacts}
use Rattle.footprints_feet.specs.footprints_zones.declared.place.Use.{Use}
use Rattle.footprints_feet.specs.footprints_zones.Zones.{Span}
use Rattle.footprints_feet.specs.footprints_zones.Places.{Place}
use Rattle.footprints.specs.Footprints.{is_put_allowed, is_put_clear}

-- the pointers that steps define, in their order
abbrev pub pointers_of : List Step → List Pointer
pointers_of [] = []
pointers_of (step ∷ steps) = with_pointer (defined_pointer step.instruction) (pointers_of steps)

-- 604: a callee's zone
abbrev pub put_use : Place → Option Span → Use
put_use p y = record { number = 604; covered = is_put_allowed p y; clear = is_put_clear p y }

-- an edge where these facts are all that is known
abbrev pub with_facts : List Fact → EdgeFacts → EdgeFacts
with_facts facts e = record { to = e.to; way = e.way; moves = e.moves; facts = facts }
