use Rattle.deque_pool_tickets.proofs.Steps.{finds, takes}
use Rattle.deque_pool_tickets.proofs.hands.Thief.take_oldest.Goals as goal

pub steal_as-requires-clause-takes : goal.steal_as-requires-clause-takes
steal_as-requires-clause-takes c = takes _ _ c.self.invariant.0 c.self.invariant.1
