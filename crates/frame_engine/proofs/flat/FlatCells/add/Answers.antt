use Rattle.std.specs.Int.{w64}
use Rattle.std.proofs.lemmas.Int.{to_z-of_z}
use Rattle.frame_engine.proofs.Bits.{written}
use Rattle.frame_engine.proofs.FlatCells.{add_here, add_there}
use Rattle.frame_engine.proofs.flat.FlatCells.add.Goals as goal

pub returns-clause-here : goal.returns-clause-here
returns-clause-here c = λ z now.
    add_here _ c.as_slice.result.now c.args.at _ c.number_at.result _ c.args.number _ z c.sum-sum.result _ (to_z-of_z w64 c.args.at c.ranges.at) c.as_slice.ensures.value c.number_at.ensures (written c.number_at.result c.number_at.type_inv) (to_z-of_z w64 c.args.number c.ranges.number) c.sum-sum.ensures (written c.sum-sum.result c.sum-sum.type_inv) now

pub returns-clause-others : goal.returns-clause-others
returns-clause-others c = λ a z now other. add_there _ c.args.at _ a z _ c.requires (to_z-of_z w64 c.args.at c.ranges.at) other now
