use Rattle.std.proofs.Common.{List, ℕ, ◌++◌, ◌∙◌, ap}
use Rattle.std.specs.Prelude.{string_bytes, codes}
use Rattle.std.proofs.lemmas.Result.{on_ok_weaker}
use Rattle.ir_spelling.specs.Spelling.{address_text}
use Rattle.ir_spelling.proofs.Grouped.{four}
use Rattle.ir_spelling.proofs.instruction_text.push_load.Goals as goal

pub returns : goal.returns
returns c =
    on_ok_weaker c.push_pieces.result
    (λ h. h ∙ ap (λ (t : List ℕ). string_bytes c.args.out.now ++ t)
    (four (codes "%") c.args.register.now (codes " = load i64, ") (address_text c.args.address.now)))
    c.push_pieces.ensures
