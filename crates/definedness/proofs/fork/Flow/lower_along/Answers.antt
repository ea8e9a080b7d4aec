use Rattle.cfg.proofs.Searching.{edges_within}
use Rattle.definedness.proofs.Greatest.{edge_above, settled_now}
use Rattle.definedness.proofs.OnOk.{on_ok_two}
use Rattle.definedness.proofs.fork.Flow.lower_along.Goals as goal

pub label_along-requires-clause-within : goal.label_along-requires-clause-within
label_along-requires-clause-within c = rw c.requires.fit.labels (edges_within c.args.self.now.blocks.now c.args.from c.requires.edge)

pub narrow-requires-clause-given : goal.narrow-requires-clause-given
narrow-requires-clause-given c = edge_above c.args.stops.now c.args.self.now.forks.now c.args.self.now.blocks.now c.args.sets.now c.args.from c.args.edge.now c.in_ok-given.given c.requires.size c.requires.edge (λ k h. (c.in_ok-given.ensures.exact k).1 h)

pub returns-clause-kept : goal.returns-clause-kept
returns-clause-kept c = on_ok_two c.narrow.result _ _ _ (λ lowers taken. settled_now c.args.stops.now c.args.self.now.forks.now c.args.self.now.blocks.now c.args.sets.now c.narrow.new.sets c.args.work.now.items c.narrow.new.work.items c.args.from c.args.edge.now c.in_ok-given.given c.requires.edge (λ k h. (c.in_ok-given.ensures.exact k).0 h) lowers taken) c.narrow.ensures.lowers c.narrow.ensures.taken
