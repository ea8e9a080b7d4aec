use Rattle.std.proofs.Common.{ap, ◌∙◌, sym, subst}
use Rattle.std.specs.Int.{w64}
use Rattle.std.specs.Int.RustNames.{FitsSigned}
use Rattle.std.proofs.lemmas.Int.{to_z-of_z}
use Rattle.std.specs.Prelude.{Some}
use Rattle.std.proofs.lemmas.Str.{IsUtf8-from_ascii}
use Rattle.ir_instruction.proofs.Numbers.{numeral_token, out_of_range, within_range}
use Rattle.ir_instruction.proofs.tokens.number_of.Goals as goal

pub returns-in-Err : goal.returns-in-Err
returns-in-Err c = absurd (c.in-Err.ensures.cases.0 (IsUtf8-from_ascii c.args.text.now (numeral_token c.args.text.now c.requires).ascii))

pub returns-in-Err-parse : goal.returns-in-Err-parse
returns-in-Err-parse c = out_of_range c.in-Ok.text.now c.args.text.now c.in-Ok.ensures.cases.0 c.requires c.in-Err-parse.ensures.value.0

pub returns-in-Ok-parse : goal.returns-in-Ok-parse
returns-in-Ok-parse c =
    let p = c.in-Ok-parse.ensures.value.0 in
    let fits : FitsSigned w64 c.in-Ok-parse.n = subst (FitsSigned w64) (sym p.1) p.0.1 in
    ap Some (to_z-of_z w64 c.in-Ok-parse.n fits) ∙ within_range c.in-Ok.text.now c.args.text.now c.in-Ok-parse.n c.in-Ok.ensures.cases.0 p.0.1 p.1
