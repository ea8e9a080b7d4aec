use Rattle.std.proofs.Common.{arith}
use Rattle.linear_shown.proofs.Indexing.{begun_later}
use Rattle.linear_shown.proofs.fact_cursor.FactCursor.seek.Goals as goal

pub invariant_of-self-else-count-self : goal.invariant_of-self-else-count-self
invariant_of-self-else-count-self c = begun_later c.self.inside.facts.now c.self.inside.count c.args.count c.self.inside.index.entered.count c.self.inside.index.settled.items c.self.inside.index.recent.items c.self.inside.index.entered.is_consistent (omega arith) c.self.invariant
