use Rattle.std.proofs.Common.{◌≡◌, ◌∙◌, ◌<◌, refl, get_or, length, ap, arith}
use Rattle.std.proofs.lemmas.Bool.{false≢true}
use Rattle.std.proofs.lemmas.List.Elements.{All-more, Contains-get_or}
use Rattle.linear_shown.specs.Search.{factors, IsFoundByA, side_at}
use Rattle.linear_shown.proofs.Parts.{none_found, length_factors}
use Rattle.linear_shown.proofs.show.shown_with.Goals as goal

pub returns-then-shown_by_a : goal.returns-then-shown_by_a
returns-then-shown_by_a c =
    let terms = c.args.form.now.terms in
    let same = c.side_of.ensures.terms in
    let is : c.factor.result ≡ get_or (factors terms) c.loop-index.index 0 = c.factor.ensures.value ∙ ap (λ ts. get_or (factors ts) c.loop-index.index 0) same in
    let within : c.loop-index.index < length (factors terms) = rw (length_factors terms) (omega (arith, c.loop-index-test.true, ap length same)) in
    (λ _. (get_or (factors terms) c.loop-index.index 0, Contains-get_or (factors terms) c.loop-index.index 0 within, rw (← is) (c.if-shown_by_a.ensures.0 refl)), λ _. refl)

pub loop-index-preserved : goal.loop-index-preserved
loop-index-preserved c =
    let terms = c.args.form.now.terms in
    let same = c.side_of.ensures.terms in
    let is : c.factor.result ≡ get_or (factors terms) c.loop-index.index 0 = c.factor.ensures.value ∙ ap (λ ts. get_or (factors ts) c.loop-index.index 0) same in
    All-more (λ a. IsFoundByA c.args.facts.now c.args.form.now (side_at c.args.facts.now c.args.first) a → ⊥) (factors terms) c.loop-index.index 0
    (rw (length_factors terms) (omega (arith, c.loop-index-test.true, ap length same))) c.loop-index.invariant
    (λ s. false≢true (c.if-shown_by_a.ensures.1 (rw is s)))

pub returns : goal.returns
returns c = (
  λ h. absurd (false≢true h),
  λ s. absurd (none_found (λ a. IsFoundByA c.args.facts.now c.args.form.now (side_at c.args.facts.now c.args.first) a) (factors c.args.form.now.terms) c.loop-index.index c.loop-index.invariant (rw (length_factors c.args.form.now.terms) (omega (arith, c.loop-index-test.false, ap length c.side_of.ensures.terms))) s.0 s.1 s.2),
)
