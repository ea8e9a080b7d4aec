use Rattle.std.proofs.Common.{◌≡◌, ◌∙◌, ◌<◌, refl, get_or, length, ap, arith}
use Rattle.std.proofs.lemmas.List.Elements.{Contains-get_or}
use Rattle.linear_shown.specs.Search.{factors}
use Rattle.linear_shown.proofs.Indexing.{alone_shown}
use Rattle.linear_shown.proofs.Parts.{length_factors}
use Rattle.linear_shown.proofs.lookup.made_up_alone.Goals as goal

pub returns-then-is_made_up_alone : goal.returns-then-is_made_up_alone
returns-then-is_made_up_alone c =
    let e = c.args.search.now.form.now in
    let same = c.side_of.ensures.terms in
    let is : c.factor.result ≡ get_or (factors e.terms) c.loop-index.index 0 = c.factor.ensures.value ∙ ap (λ ts. get_or (factors ts) c.loop-index.index 0) same in
    let within : c.loop-index.index < length (factors e.terms) = rw (length_factors e.terms) (omega (arith, c.loop-index-test.true, ap length same)) in
    λ h. alone_shown c.args.search.now.facts.now e (get_or (factors e.terms) c.loop-index.index 0) (rw same at c.side_of.ensures.rising) (Contains-get_or (factors e.terms) c.loop-index.index 0 within)
    (rw is at (c.if-is_made_up_alone.ensures refl))
