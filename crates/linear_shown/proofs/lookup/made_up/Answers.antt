use Rattle.std.proofs.Common.{◌++◌, ◌≡◌, ◌∙◌, ◌<◌, ◌≤◌, ℕ, List, refl, get_or, length, ap, subst, arith}
use Rattle.std.specs.List.{Contains}
use Rattle.std.proofs.lemmas.Bool.{false≢true}
use Rattle.std.proofs.lemmas.List.Elements.{All-more, Contains-get_or}
use Rattle.linear.specs.declared.form.Term.{Term}
use Rattle.linear.specs.Forms.{IsRising}
use Rattle.linear_shown.specs.Search.{factors}
use Rattle.linear_shown.specs.Index.{IsMadeUpByB}
use Rattle.linear_shown.proofs.Indexing.{not_before, shown_by_index, index_shows}
use Rattle.linear_shown.proofs.Layers.{layers_index}
use Rattle.linear_shown.proofs.Parts.{none_found, repeated_not, length_factors}
use Rattle.linear_shown.proofs.lookup.made_up.Goals as goal

pub made_up_by_b-requires-clause-from : goal.made_up_by_b-requires-clause-from
made_up_by_b-requires-clause-from c =
    let e = c.args.search.now.form.now in
    let same = c.side_of.ensures.terms in
    let is : c.factor.result ≡ get_or (factors e.terms) c.loop-index.index 0 = c.factor.ensures.value ∙ ap (λ ts. get_or (factors ts) c.loop-index.index 0) same in
    let within : c.loop-index.index < length (factors e.terms) = rw (length_factors e.terms) (omega (arith, c.loop-index-test.true, ap length same)) in
    not_before c.args.search.now.facts.now (c.args.search.now.layers.settled.now ++ c.args.search.now.layers.recent.now) (layers_index _ _ _ _ c.requires.index) e c.factor.result c.loop-index.index (rw is (Contains-get_or (factors e.terms) c.loop-index.index 0 within)) c.loop-index.invariant

pub loop-index-preserved-then-is_repeated : goal.loop-index-preserved-then-is_repeated
loop-index-preserved-then-is_repeated c =
    let terms = c.args.search.now.form.now.terms in
    let same = c.side_of.ensures.terms in
    let within : c.loop-index.index < length (factors terms) = rw (length_factors terms) (omega (arith, c.loop-index-test.true, ap length same)) in
    let twice = c.if-is_repeated.ensures refl in
    All-more (λ (x : ℕ). (IsMadeUpByB c.args.search.now.facts.now c.args.search.now.form.now (c.args.search.now.layers.settled.now ++ c.args.search.now.layers.recent.now) x) → ⊥) (factors terms) c.loop-index.index 0 within c.loop-index.invariant
    (repeated_not (λ (x : ℕ). IsMadeUpByB c.args.search.now.facts.now c.args.search.now.form.now (c.args.search.now.layers.settled.now ++ c.args.search.now.layers.recent.now) x) (factors terms) c.loop-index.index twice.0 within twice.1
    (subst (λ (ts : List Term). get_or (factors ts) twice.0 0 ≡ get_or (factors ts) c.loop-index.index 0) same twice.2) c.loop-index.invariant)

pub loop-index-preserved : goal.loop-index-preserved
loop-index-preserved c =
    let terms = c.args.search.now.form.now.terms in
    let same = c.side_of.ensures.terms in
    let is : c.factor.result ≡ get_or (factors terms) c.loop-index.index 0 = c.factor.ensures.value ∙ ap (λ ts. get_or (factors ts) c.loop-index.index 0) same in
    All-more (λ (x : ℕ). (IsMadeUpByB c.args.search.now.facts.now c.args.search.now.form.now (c.args.search.now.layers.settled.now ++ c.args.search.now.layers.recent.now) x) → ⊥) (factors terms) c.loop-index.index 0
    (rw (length_factors terms) (omega (arith, c.loop-index-test.true, ap length same))) c.loop-index.invariant
    (λ s. false≢true (c.if-made_up_by_b.ensures.1 (rw is s)))

pub returns-then-made_up_by_b : goal.returns-then-made_up_by_b
returns-then-made_up_by_b c =
    let e = c.args.search.now.form.now in
    let same = c.side_of.ensures.terms in
    let is : c.factor.result ≡ get_or (factors e.terms) c.loop-index.index 0 = c.factor.ensures.value ∙ ap (λ ts. get_or (factors ts) c.loop-index.index 0) same in
    let within : c.loop-index.index < length (factors e.terms) = rw (length_factors e.terms) (omega (arith, c.loop-index-test.true, ap length same)) in
    let in_a : Contains (factors e.terms) c.factor.result = rw is (Contains-get_or (factors e.terms) c.loop-index.index 0 within) in
    let rises : IsRising e.terms = rw same at c.side_of.ensures.rising in
    (λ _. shown_by_index c.args.search.now.facts.now (c.args.search.now.layers.settled.now ++ c.args.search.now.layers.recent.now) (layers_index _ _ _ _ c.requires.index) e rises (c.factor.result, in_a, c.if-made_up_by_b.ensures.0 refl), λ _. refl)

pub returns : goal.returns
returns c =
    let facts = c.args.search.now.facts.now in
    let entries = (c.args.search.now.layers.settled.now ++ c.args.search.now.layers.recent.now) in
    let e = c.args.search.now.form.now in
    let same = c.side_of.ensures.terms in
    let rises : IsRising e.terms = rw same at c.side_of.ensures.rising in
    let tried : length (factors e.terms) ≤ c.loop-index.index = rw (length_factors e.terms) (omega (arith, c.loop-index-test.false, ap length same)) in (
      λ h. absurd (false≢true h),
      λ s.
          let made = index_shows facts entries (layers_index _ _ _ _ c.requires.index) e rises s in
          absurd (none_found (λ (x : ℕ). IsMadeUpByB facts e entries x) (factors e.terms) c.loop-index.index c.loop-index.invariant tried made.0 made.1 made.2),
    )
