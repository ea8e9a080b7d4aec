use Rattle.linear_shown.proofs.Looking.{same_terms}
use Rattle.linear_shown.proofs.index.has_same_terms.Goals as goal

pub returns : goal.returns
returns c =
    let one = c.side_of_place-one.ensures in
    let other = c.side_of_place-other.ensures in
    let same = same_terms c.side_of_place-one.result.terms.now c.side_of_place-other.result.terms.now one.rising other.rising in (
      λ h. rw (one.terms, other.terms) at (same.0 (c.agree.ensures.0 h)),
      λ all. c.agree.ensures.1 (same.1 (rw (one.terms, other.terms) all)),
    )
