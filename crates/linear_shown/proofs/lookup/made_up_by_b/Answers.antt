use Rattle.std.proofs.Common.{◌++◌, ◌≡◌, ◌∙◌, ◌<◌, ℕ, List, refl, get_or, length, ap, sym, subst, arith}
use Rattle.std.proofs.lemmas.Bool.{false≢true}
use Rattle.std.proofs.lemmas.List.Elements.{All-more}
use Rattle.linear.specs.declared.form.Term.{Term}
use Rattle.linear_shown.specs.Search.{factors}
use Rattle.linear_shown.specs.Index.{IsMadeUpWith}
use Rattle.linear_shown.proofs.Indexing.{nothing_not}
use Rattle.linear_shown.proofs.Parts.{none_found, repeated_not, length_factors}
use Rattle.linear_shown.proofs.lookup.made_up_by_b.Goals as goal

pub loop-index-preserved-then-b-eq0 : goal.loop-index-preserved-then-b-eq0
loop-index-preserved-then-b-eq0 c =
    let terms = c.args.search.now.form.now.terms in
    let same = c.side_of.ensures.terms in
    let is : c.factor-b.result ≡ get_or (factors terms) c.loop-index.index 0 = c.factor-b.ensures.value ∙ ap (λ ts. get_or (factors ts) c.loop-index.index 0) same in
    All-more (λ (x : ℕ). (IsMadeUpWith c.args.search.now.facts.now c.args.search.now.form.now (c.args.search.now.layers.settled.now ++ c.args.search.now.layers.recent.now) c.args.a x) → ⊥) (factors terms) c.loop-index.index 0
    (rw (length_factors terms) (omega (arith, c.loop-index-test.true, ap length same))) c.loop-index.invariant
    (nothing_not c.args.search.now.facts.now c.args.search.now.form.now (c.args.search.now.layers.settled.now ++ c.args.search.now.layers.recent.now) c.args.a c.loop-index.index (sym is ∙ c.if-b-eq0.true) c.loop-index.invariant)

pub loop-index-preserved-then-is_repeated : goal.loop-index-preserved-then-is_repeated
loop-index-preserved-then-is_repeated c =
    let terms = c.args.search.now.form.now.terms in
    let same = c.side_of.ensures.terms in
    let within : c.loop-index.index < length (factors terms) = rw (length_factors terms) (omega (arith, c.loop-index-test.true, ap length same)) in
    let twice = c.if-is_repeated.ensures refl in
    All-more (λ (x : ℕ). (IsMadeUpWith c.args.search.now.facts.now c.args.search.now.form.now (c.args.search.now.layers.settled.now ++ c.args.search.now.layers.recent.now) c.args.a x) → ⊥) (factors terms) c.loop-index.index 0 within c.loop-index.invariant
    (repeated_not (λ (x : ℕ). IsMadeUpWith c.args.search.now.facts.now c.args.search.now.form.now (c.args.search.now.layers.settled.now ++ c.args.search.now.layers.recent.now) c.args.a x) (factors terms) c.loop-index.index twice.0 within twice.1
    (subst (λ (ts : List Term). get_or (factors ts) twice.0 0 ≡ get_or (factors ts) c.loop-index.index 0) same twice.2) c.loop-index.invariant)

pub loop-index-preserved : goal.loop-index-preserved
loop-index-preserved c =
    let terms = c.args.search.now.form.now.terms in
    let same = c.side_of.ensures.terms in
    let is : c.factor-b.result ≡ get_or (factors terms) c.loop-index.index 0 = c.factor-b.ensures.value ∙ ap (λ ts. get_or (factors ts) c.loop-index.index 0) same in
    All-more (λ (x : ℕ). (IsMadeUpWith c.args.search.now.facts.now c.args.search.now.form.now (c.args.search.now.layers.settled.now ++ c.args.search.now.layers.recent.now) c.args.a x) → ⊥) (factors terms) c.loop-index.index 0
    (rw (length_factors terms) (omega (arith, c.loop-index-test.true, ap length same))) c.loop-index.invariant
    (λ s. false≢true (c.if-made_up_with.ensures.1 (rw is s)))

pub returns : goal.returns
returns c = (
  λ h. absurd (false≢true h),
  λ s. absurd (none_found (λ (x : ℕ). IsMadeUpWith c.args.search.now.facts.now c.args.search.now.form.now (c.args.search.now.layers.settled.now ++ c.args.search.now.layers.recent.now) c.args.a x) (factors c.args.search.now.form.now.terms) c.loop-index.index c.loop-index.invariant (rw (length_factors c.args.search.now.form.now.terms) (omega (arith, c.loop-index-test.false, ap length c.side_of.ensures.terms))) s.0 s.1 s.2),
)
