use Rattle.ir_lex.proofs.Numerals.{numeral_utf8, small_parsed, large_parsed}
use Rattle.ir_lex.proofs.numeral.small_value.Goals as goal

pub returns-in-Err : goal.returns-in-Err
returns-in-Err c = absurd (c.in-Err.ensures.cases.0 (numeral_utf8 c.args.digits.now c.requires))

pub returns-in-Err-parse : goal.returns-in-Err-parse
returns-in-Err-parse c = large_parsed c.in-Ok.text.now c.args.digits.now c.in-Ok.ensures.cases.0 c.requires c.in-Err-parse.ensures.value.0

pub returns-in-Ok-parse : goal.returns-in-Ok-parse
returns-in-Ok-parse c = small_parsed c.in-Ok.text.now c.args.digits.now c.in-Ok-parse.value c.in-Ok.ensures.cases.0 c.requires c.in-Ok-parse.ensures.value.0
