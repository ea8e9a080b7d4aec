use Rattle.std.proofs.Common.{◌≡◌, sym, ◌∙◌}
use Rattle.std.proofs.lemmas.Slice.Eq.{bytes_eq-Decides}
use Rattle.annotate.proofs.own_lines.are_same.Goals as goal

pub returns : goal.returns
returns c = λ t.
    let same : c.content.result.now ≡ c.content-2.result.now = (bytes_eq-Decides c.content.result.now c.content-2.result.now).0 (sym c.eq.ensures ∙ t) in
    sym c.content.ensures ∙ same ∙ c.content-2.ensures
