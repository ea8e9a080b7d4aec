use Rattle.std.proofs.Common.{List, ℕ, ◌++◌, ◌∙◌, ap}
use Rattle.std.specs.Prelude.{string_bytes, codes}
use Rattle.std.specs.Fmt.{decimal}
use Rattle.std.proofs.lemmas.Result.{on_ok_weaker}
use Rattle.ir_spelling.proofs.Grouped.{array_within}
use Rattle.ir_spelling.proofs.lines.push_global.Goals as goal

pub returns : goal.returns
returns c =
    on_ok_weaker c.push_pieces.result
    (λ h. h ∙ ap (λ (t : List ℕ). string_bytes c.args.out.now ++ t)
    (array_within (codes "@") c.args.global.now.name (codes " = global ") (codes "[")
    (decimal c.args.global.now.cells) (codes " x i64]") (codes " zeroinitializer\n")))
    c.push_pieces.ensures
