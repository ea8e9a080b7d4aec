use Rattle.std.proofs.Common.{◌*◌, ◌∙◌}
use Rattle.std.specs.Prelude.{string_bytes, codes}
use Rattle.std.specs.Fmt.{decimal}
use Rattle.std.proofs.lemmas.Result.{on_ok_weaker}
use Rattle.ir_spelling.specs.Spelling.{pointer_parameter_text}
use Rattle.ir_spelling.proofs.Grouped.{parameter_ends}
use Rattle.ir_spelling.proofs.spelling.push_pointer_parameter.Goals as goal

pub returns : goal.returns
unfolding pointer_parameter_text
returns c =
    on_ok_weaker c.push_pieces.result
    (λ h. h ∙ parameter_ends (string_bytes c.args.out.now) c.args.before.now (codes "ptr noalias dereferenceable(")
    (decimal (c.args.cells * 8)) (codes ") %") c.args.name.now)
    c.push_pieces.ensures
