use Rattle.std.proofs.Common.{◌≡◌, take, map}
use Rattle.ir_instruction.specs.Symbols.{symbol_at}
use Rattle.ir_instruction.proofs.tokens.symbols_of.Given as goal

abbrev pub invariant-loop-token : goal.invariant-loop-token
invariant-loop-token l = l.symbols.items ≡ map (symbol_at l.line) (take l.token-index l.tokens)
