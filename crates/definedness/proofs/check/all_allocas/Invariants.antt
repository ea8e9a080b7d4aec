use Rattle.std.proofs.Common.{◌≡◌, take, map}
use Rattle.definedness.specs.AllocaActs.{alloca_acts}
use Rattle.program.specs.declared.function.Block.{Block}
use Rattle.definedness.specs.declared.act.BlockActs.{BlockActs}
use Rattle.definedness.proofs.check.all_allocas.Given as goal

abbrev pub invariant-loop-block : goal.invariant-loop-block
invariant-loop-block l = l.table.items ≡ map (λ (block : Block). let acts : BlockActs = record { acts = alloca_acts l.allocas block } in acts) (take l.block-index l.block-items)
