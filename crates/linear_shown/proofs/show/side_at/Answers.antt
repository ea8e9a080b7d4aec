use Rattle.std.proofs.Common.{◌∙◌, ◌<◌, sym, ap, arith}
use Rattle.linear.specs.Terms.{Combination}
use Rattle.linear_shown.proofs.Newest.{side_is}
use Rattle.linear_shown.proofs.show.side_at.Goals as goal

pub returns-clause-terms : goal.returns-clause-terms
returns-clause-terms c =
    let some : 0 < c.args.index = omega (arith, c.if-index-eq0.false) in
    c.side_of.ensures.terms ∙ ap (λ (f : Combination). f.terms) (sym (side_is c.args.facts.now c.args.index c.index-facts-facts.result some c.requires))

pub returns-clause-constant : goal.returns-clause-constant
returns-clause-constant c =
    let some : 0 < c.args.index = omega (arith, c.if-index-eq0.false) in
    c.side_of.ensures.constant ∙ ap (λ (f : Combination). f.constant) (sym (side_is c.args.facts.now c.args.index c.index-facts-facts.result some c.requires))
