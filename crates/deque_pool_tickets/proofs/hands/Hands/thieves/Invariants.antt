use Rattle.std.specs.Prelude.{◌≡◌, All, vec_len}
use Rattle.deque_pool_tickets.specs.TicketList.{fresh}
use Rattle.deque_pool_tickets.proofs.hands.Hands.thieves.Given as goal

abbrev pub invariant-loop-made : goal.invariant-loop-made
invariant-loop-made l = (vec_len l.thieves ≡ l._made) × All (λ thief. thief ≡ fresh l.self.list) l.thieves.items
