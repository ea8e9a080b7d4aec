use Rattle.std.proofs.Common.{◌∷◌, []}
use Rattle.linear_shown.proofs.Indexing.{begun_more}
use Rattle.linear_shown.proofs.fact_list.FactList.push.Goals as goal

pub invariant_of-self-2 : goal.invariant_of-self-2
invariant_of-self-2 c = rw c.in_ok-push.ensures.items (begun_more c.self.inside.facts.items (c.args.fact ∷ []) c.self.inside.index.entered.count c.self.inside.index.settled.items c.self.inside.index.recent.items c.self.inside.index.entered.is_consistent c.self.invariant)
