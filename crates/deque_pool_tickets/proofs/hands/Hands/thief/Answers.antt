use Rattle.deque_pool_tickets.proofs.Steps.{admits}
use Rattle.deque_pool_tickets.proofs.hands.Hands.thief.Goals as goal

pub pass-pass-requires : goal.pass-pass-requires
pass-pass-requires c = admits
