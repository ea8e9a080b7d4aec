use Rattle.std.proofs.Common.{List, ℕ, ◌++◌, ◌∙◌, ap}
use Rattle.std.specs.Prelude.{string_bytes, codes}
use Rattle.std.proofs.lemmas.Result.{on_ok_weaker}
use Rattle.ir_spelling.specs.TerminatorText.{reattach_text}
use Rattle.ir_spelling.proofs.Grouped.{label_ends}
use Rattle.ir_spelling.proofs.terminator_text.push_reattach.Goals as goal

pub returns : goal.returns
unfolding reattach_text
returns c =
    on_ok_weaker c.push_pieces.result
    (λ h. h ∙ ap (λ (t : List ℕ). string_bytes c.args.out.now ++ t)
    (label_ends (codes "reattach within ") (codes "%") c.args.region.now (codes ", ") (codes "label ") c.args.continuation.now))
    c.push_pieces.ensures
