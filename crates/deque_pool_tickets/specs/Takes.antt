-- What a thief's call does.
use Rattle.std.specs.Prelude.{◌≡◌}
use Rattle.deque_pool_tickets.specs.declared.ticket_list.Move.TheVariants.{Oldest}
use Rattle.deque_pool_tickets.specs.declared.taken.Taken.{Taken}
use Rattle.deque_pool_tickets.specs.declared.taken.Taken.TheVariants.{Ticket, Empty, Again}
use Rattle.deque_pool_tickets.specs.TicketList.{End, MayHaveFew, Moved}

-- the oldest ticket of the history that the thief then sees; or one at most was left in some order of steps; or nothing
-- is known
abbrev pub Takes : End → End → Taken → Type 0
Takes old new (Ticket t) = Moved old new (Oldest t)
Takes old new Empty = (new ≡ old) × MayHaveFew 1 old.moves old.seen
Takes old new Again = new ≡ old
