use Rattle.cost_table.specs.Cost.{calls_done, instructions_done}
use Rattle.cost_table.proofs.Judging.{pair_named}
use Rattle.cost_table.proofs.judge.BlockEnd.end_fault.Goals as goal

pub returns : goal.returns
returns c = λ functions f is.
    let block = c.args.self.now.block.now in
    pair_named 702 _ _ _ _ _ _ (c.in_ok-calls.ensures (calls_done f block) is.calls) (c.in_ok-instructions.ensures (instructions_done functions f block) is.instructions) c.fault_unless.ensures
