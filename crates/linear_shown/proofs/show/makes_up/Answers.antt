use Rattle.std.proofs.Common.{◌∙◌, ◌≡◌, false, sym, ap}
use Rattle.std.proofs.lemmas.Bool.{false≢true}
use Rattle.linear_shown.specs.Search.{side_at, has_some}
use Rattle.linear_shown.proofs.Left.{left_stays}
use Rattle.linear_shown.proofs.show.makes_up.Goals as goal

pub returns-else-has_some : goal.returns-else-has_some
returns-else-has_some c =
    let g = side_at c.args.facts.now c.args.second in
    let without : has_some g.terms c.args.left ≡ false = ap (λ ts. has_some ts c.args.left) (sym c.side_at.ensures.terms) ∙ sym c.has_some.ensures ∙ c.if-has_some.false in (
      λ h. absurd (false≢true (sym c.if-has_some.false ∙ h)),
      λ s. absurd (left_stays c.args.form.now c.args.a (side_at c.args.facts.now c.args.first) c.args.left c.requires.left s.0 g without s.2),
    )
