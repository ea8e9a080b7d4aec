use Rattle.deque_pool_tickets.proofs.Steps.{compares, takes_in}
use Rattle.deque_pool_tickets.proofs.hands.Hands.take_in.Goals as goal

pub absorb-requires-clause-rule : goal.absorb-requires-clause-rule
absorb-requires-clause-rule c = takes_in _ _ _ _ c.thief.invariant.1

pub len_as-tickets-requires : goal.len_as-tickets-requires
len_as-tickets-requires c = compares _ _
