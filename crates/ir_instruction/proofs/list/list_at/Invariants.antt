use Rattle.std.proofs.Common.{◌≡◌, ◌-◌, length}
use Rattle.ir_instruction.specs.Lists.{list_at}
use Rattle.ir_instruction.proofs.ListLoop.{with_front}
use Rattle.ir_instruction.proofs.list.list_at.Given as goal

-- the elements so far and those to come are all of them
abbrev pub invariant-loop : goal.invariant-loop
invariant-loop g l = with_front l.found.items (list_at g.T.Listed.element g.T.Listed.follows (length l.symbols - l.counter) l.rest) ≡ list_at g.T.Listed.element g.T.Listed.follows (length l.symbols) l.symbols
