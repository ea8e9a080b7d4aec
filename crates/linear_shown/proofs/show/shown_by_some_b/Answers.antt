use Rattle.std.proofs.Common.{◌≡◌, ◌∙◌, get_or, length, ap, arith}
use Rattle.std.proofs.lemmas.Bool.{false≢true}
use Rattle.std.proofs.lemmas.List.Elements.{All-more}
use Rattle.linear_shown.specs.Shown.{IsSum}
use Rattle.linear_shown.specs.Search.{factors, side_at}
use Rattle.linear_shown.proofs.Parts.{none_found, length_factors}
use Rattle.linear_shown.proofs.show.shown_by_some_b.Goals as goal

pub loop-index-preserved : goal.loop-index-preserved
loop-index-preserved c =
    let terms = c.args.form.now.terms in
    let same = c.side_of.ensures.terms in
    let is : c.factor.result ≡ get_or (factors terms) c.loop-index.index 0 = c.factor.ensures.value ∙ ap (λ ts. get_or (factors ts) c.loop-index.index 0) same in
    All-more (λ b. IsSum c.args.form.now c.args.a (side_at c.args.facts.now c.args.first) b (side_at c.args.facts.now c.args.second) → ⊥) (factors terms) c.loop-index.index 0
    (rw (length_factors terms) (omega (arith, c.loop-index-test.true, ap length same))) c.loop-index.invariant
    (λ s. false≢true (c.if-adds_up.ensures.1 (rw is s)))

pub returns : goal.returns
returns c = (
  λ h. absurd (false≢true h),
  λ s. absurd (none_found (λ b. IsSum c.args.form.now c.args.a (side_at c.args.facts.now c.args.first) b (side_at c.args.facts.now c.args.second)) (factors c.args.form.now.terms) c.loop-index.index c.loop-index.invariant (rw (length_factors c.args.form.now.terms) (omega (arith, c.loop-index-test.false, ap length c.side_of.ensures.terms))) s.0 s.1 s.2),
)
