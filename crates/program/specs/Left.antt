-- What is left at a block's start of the self calls and the instructions of its function's budget.
use Rattle.std.specs.Prelude.{Option, Some, None, pos}
use Rattle.linear.specs.Terms.{Combination, constant_form}
use Rattle.program.specs.declared.function.Block.{Block}

abbrev pub left_calls : Option Block → Combination
left_calls None = constant_form (pos 0)
left_calls (Some block) = block.left.self_calls

abbrev pub left_instructions : Option Block → Combination
left_instructions None = constant_form (pos 0)
left_instructions (Some block) = block.left.instructions
