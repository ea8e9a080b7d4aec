use Rattle.deque_pool_tickets.proofs.Often.{each_as_often}
use Rattle.deque_pool_tickets.proofs.law.each_as_often.Goals as goal

pub returns : goal.returns
returns c = each_as_often
