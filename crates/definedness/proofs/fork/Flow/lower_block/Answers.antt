use Rattle.std.proofs.Common.{sym, ◌∙◌}
use Rattle.cfg.proofs.Searching.{edges_of-read}
use Rattle.definedness.proofs.Greatest.{no_edges}
use Rattle.definedness.proofs.fork.Flow.lower_block.Goals as goal

pub returns-then-from-self-clause-kept : goal.returns-then-from-self-clause-kept
returns-then-from-self-clause-kept c = no_edges c.args.stops.now c.args.self.now.forks.now c.args.self.now.blocks.now c.args.sets.now c.args.work.now.items c.args.from c.if-from-self.true

pub lower_edges-requires-clause-edges : goal.lower_edges-requires-clause-edges
lower_edges-requires-clause-edges c = c.as_slice-edges.ensures ∙ sym (edges_of-read c.args.self.now.blocks.now c.args.from c.index-self-from.result c.if-from-self.false)

pub returns-clause-kept : goal.returns-clause-kept
returns-clause-kept c = rw (edges_of-read c.args.self.now.blocks.now c.args.from c.index-self-from.result c.if-from-self.false, ← c.as_slice-edges.ensures) c.lower_edges.ensures.kept
