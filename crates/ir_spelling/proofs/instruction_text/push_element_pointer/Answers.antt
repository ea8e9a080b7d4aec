use Rattle.std.proofs.Common.{List, ℕ, ◌++◌, ◌∙◌, ap}
use Rattle.std.specs.Prelude.{string_bytes, codes}
use Rattle.std.proofs.lemmas.Result.{on_ok_weaker}
use Rattle.ir_spelling.specs.Spelling.{operand_text, address_text}
use Rattle.ir_spelling.proofs.Grouped.{six}
use Rattle.ir_spelling.proofs.instruction_text.push_element_pointer.Goals as goal

pub returns : goal.returns
returns c =
    on_ok_weaker c.push_pieces.result
    (λ h. h ∙ ap (λ (t : List ℕ). string_bytes c.args.out.now ++ t)
    (six (codes "%") c.args.register.now (codes " = getelementptr inbounds i64, ")
    (address_text c.args.base.now) (codes ", i64 ") (operand_text c.args.index.now)))
    c.push_pieces.ensures
