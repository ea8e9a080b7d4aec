-- What is touched at a place: whether it is covered, and clear of what is pending there.
use Rattle.std.specs.Prelude.{Bool, true, false, not, ◌||◌, List}
use Rattle.std.specs.List.{list_all}
use Rattle.linear.specs.declared.form.Fact.{Fact}
use Rattle.program.specs.declared.annotation.Pending.{Pending}
use Rattle.program.specs.declared.annotation.Zone.{Zone}
use Rattle.program.specs.declared.identifier.ObjectName.{ObjectName}
use Rattle.program.specs.declared.identifier.ObjectName.TheVariants.{Alloca}
use Rattle.footprints_zones.specs.Zones.{Span, as_written, conflict, is_covered}

-- what is known at a place, the zones that must cover what is touched there, whether it is one of the function's own
-- blocks, and what is pending
pub record Place : Type 0 where
  pub facts : List Fact
  pub covering : List Zone
  pub own : Bool
  pub pending : List Pending

abbrev pub place_of : List Fact → List Zone → Bool → List Pending → Place
place_of facts covering own pending = record { facts = facts; covering = covering; own = own; pending = pending }

-- an alloca of the function in one of its own blocks
abbrev pub is_own : Bool → ObjectName → Bool
is_own true (Alloca a) = true
is_own one other = false

-- 601 and 604: it needs no cover, or has one
unfoldable pub is_allowed : Place → Span → Bool
is_allowed p y = is_own p.own y.object || is_covered p.facts p.covering y

-- 602: nothing that is pending conflicts with it
unfoldable pub is_clear : Place → Span → Bool
is_clear p y = list_all (λ (q : Pending). not (conflict p.facts (as_written q.zone) y)) p.pending
