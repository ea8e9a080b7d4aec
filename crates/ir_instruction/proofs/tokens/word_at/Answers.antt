use Rattle.ir_lex.specs.Texts.{text_at}
use Rattle.ir_lex.proofs.Plain.{token_ascii}
use Rattle.ir_instruction.proofs.tokens.word_at.Goals as goal

pub name_of-requires : goal.name_of-requires
name_of-requires c = token_ascii c.args.token.kind (text_at c.args.line.now c.args.token) c.requires.kind
