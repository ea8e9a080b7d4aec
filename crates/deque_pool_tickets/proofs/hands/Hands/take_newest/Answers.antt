use Rattle.deque_pool_tickets.proofs.Steps.{finds_none, pops}
use Rattle.deque_pool_tickets.proofs.hands.Hands.take_newest.Goals as goal

pub pop_as-requires-clause-lifo : goal.pop_as-requires-clause-lifo
pop_as-requires-clause-lifo c = λ _. pops _ _ c.self.invariant.0 c.self.invariant.1

pub pop_as-requires-clause-empty : goal.pop_as-requires-clause-empty
pop_as-requires-clause-empty c = finds_none _ _ c.self.invariant.0
