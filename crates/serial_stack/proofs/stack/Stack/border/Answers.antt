use Rattle.serial_stack.proofs.Turning.{has_ending}
use Rattle.serial_stack.proofs.stack.Stack.border.Goals as goal

pub item-requires-clause-ends : goal.item-requires-clause-ends
item-requires-clause-ends c = λ b e none. has_ending c.args.program.now c.args.places.now _ _ _ b c.requires.text e none
