use Rattle.ir_instruction.specs.Symbols.{symbol_at}
use Rattle.ir_instruction.proofs.Pushed.{pushed}
use Rattle.ir_instruction.proofs.tokens.symbols_of.Goals as goal

pub loop-token-preserved : goal.loop-token-preserved
loop-token-preserved c =
    pushed (symbol_at c.args.line.now) c.args.tokens.now c.loop-token.token-index _ c.in_ok-symbol_of.field-0 c.loop-token.symbols.items c.push.new.self.items
    c.loop-token-test.true c.in_ok-symbol_of.ensures c.in_ok-push.ensures.items c.loop-token.invariant

pub symbol_of-requires : goal.symbol_of-requires
symbol_of-requires c = (c.requires c.loop-token.token-index _ c.loop-token-test.true).kind
