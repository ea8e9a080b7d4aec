use Rattle.ir_lex.specs.Texts.{text_at}
use Rattle.ir_instruction.proofs.Pushed.{pushed}
use Rattle.ir_instruction.proofs.tokens.words_of.Goals as goal

pub loop-token-preserved : goal.loop-token-preserved
loop-token-preserved c =
    pushed (text_at c.args.line.now) c.args.tokens.now c.loop-token.token-index _ c.in_ok-word_at.field-0 c.loop-token.words.items c.push.new.self.items
    c.loop-token-test.true c.in_ok-word_at.ensures c.in_ok-push.ensures.items c.loop-token.invariant
