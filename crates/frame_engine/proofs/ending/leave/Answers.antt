use Rattle.std.proofs.Common.{refl, length}
use Rattle.frame_engine.specs.Names.{sizes}
use Rattle.frame_engine.proofs.Edges.{test_of}
use Rattle.frame_engine.proofs.ending.leave.Goals as goal

pub next_block-requires : goal.next_block-requires
next_block-requires c = test_of (sizes (length c.args.regs.now) 0 0) (length c.args.regs.now) (length c.args.moves.now) c.args.from.0 c.args.blocks.now c.args.terminator.now refl c.requires

pub enter-requires : goal.enter-requires
enter-requires c = c.in-Some.ensures.edge (sizes (length c.args.regs.now) 0 0) (length c.args.moves.now) c.args.from.0 c.args.blocks.now c.requires

pub returns-in-Some-clause-there : goal.returns-in-Some-clause-there
returns-in-Some-clause-there c = (c.in-Some.ensures.edge (sizes (length c.args.regs.now) 0 0) (length c.args.moves.now) c.args.from.0 c.args.blocks.now c.requires).there
