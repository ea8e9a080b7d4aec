use Rattle.deque_pool_tickets.proofs.Steps.{pushes}
use Rattle.deque_pool_tickets.proofs.hands.Hands.offer.Goals as goal

pub push_as-requires-clause-pushes : goal.push_as-requires-clause-pushes
push_as-requires-clause-pushes c = pushes _ _ _ c.self.invariant.0 c.self.invariant.1
