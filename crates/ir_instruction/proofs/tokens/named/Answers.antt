use Rattle.ir_lex.specs.declared.token.Kind.TheVariants as kinds
use Rattle.ir_lex.proofs.Plain.{token_ascii}
use Rattle.ir_instruction.proofs.Pushed.{behind_ascii, register_named, global_named}
use Rattle.ir_instruction.proofs.tokens.named.Goals as goal

pub returns-then-text-eq37 : goal.returns-then-text-eq37
returns-then-text-eq37 c = register_named c.args.text.now c.in_ok-name.name c.in_ok-name.ensures c.if-text-eq37.true

pub returns-else-text-eq37 : goal.returns-else-text-eq37
returns-else-text-eq37 c = global_named c.args.text.now c.in_ok-name.name c.in_ok-name.ensures c.if-text-eq37.false

pub name_of-requires : goal.name_of-requires
name_of-requires c = behind_ascii c.args.text.now (token_ascii kinds.Name c.args.text.now c.requires)
