use Rattle.std.proofs.Common.{◌≡◌, take, map}
use Rattle.ir_lex.specs.Texts.{text_at}
use Rattle.ir_instruction.proofs.tokens.words_of.Given as goal

abbrev pub invariant-loop-token : goal.invariant-loop-token
invariant-loop-token l = l.words.items ≡ map (text_at l.line) (take l.token-index l.tokens)
