use Rattle.std.proofs.Common.{◌∙◌, ◌++◌, inl, inr, refl, suc, length, sym}
use Rattle.std.proofs.lemmas.Bool.{false≢true, cases_Bool}
use Rattle.std.proofs.lemmas.List.Elements.{Contains-append_left, Contains-append_right}
use Rattle.linear_shown.proofs.Layers.{layers_index}
use Rattle.linear_shown.proofs.Passing.{same_factors, between_more, between_with, with_between, none_of_two}
use Rattle.linear_shown.proofs.lookup.made_up_with.Goals as goal

pub returns-then-made_up_within : goal.returns-then-made_up_within
returns-then-made_up_within c =
    let facts = c.args.search.now.facts.now in
    let e = c.args.search.now.form.now in
    let settled = c.args.search.now.layers.settled.now in
    let recent = c.args.search.now.layers.recent.now in
    let index = layers_index facts (suc (length facts)) settled recent c.requires.index in (
      λ _. between_with facts (settled ++ recent) index e c.args.a c.args.b
          (between_more facts e settled settled (settled ++ recent) (settled ++ recent) c.args.a c.args.b (Contains-append_left settled recent) (Contains-append_left settled recent) (c.if-made_up_within.ensures.0 refl)),
      λ _. refl,
    )

pub returns-then-made_up_within-2 : goal.returns-then-made_up_within-2
returns-then-made_up_within-2 c =
    let facts = c.args.search.now.facts.now in
    let e = c.args.search.now.form.now in
    let settled = c.args.search.now.layers.settled.now in
    let recent = c.args.search.now.layers.recent.now in
    let index = layers_index facts (suc (length facts)) settled recent c.requires.index in (
      λ _. between_with facts (settled ++ recent) index e c.args.a c.args.b
          (between_more facts e recent recent (settled ++ recent) (settled ++ recent) c.args.a c.args.b (Contains-append_right settled recent) (Contains-append_right settled recent) (c.if-made_up_within-2.ensures.0 refl)),
      λ _. refl,
    )

pub returns-then-made_up_between : goal.returns-then-made_up_between
returns-then-made_up_between c =
    let facts = c.args.search.now.facts.now in
    let e = c.args.search.now.form.now in
    let settled = c.args.search.now.layers.settled.now in
    let recent = c.args.search.now.layers.recent.now in
    let index = layers_index facts (suc (length facts)) settled recent c.requires.index in (
      λ _. between_with facts (settled ++ recent) index e c.args.a c.args.b
          (between_more facts e settled recent (settled ++ recent) (settled ++ recent) c.args.a c.args.b (Contains-append_left settled recent) (Contains-append_right settled recent) (c.if-made_up_between.ensures.0 refl)),
      λ _. refl,
    )

pub returns-then-a-b : goal.returns-then-a-b
returns-then-a-b c =
    let facts = c.args.search.now.facts.now in
    let e = c.args.search.now.form.now in
    let settled = c.args.search.now.layers.settled.now in
    let recent = c.args.search.now.layers.recent.now in
    let index = layers_index facts (suc (length facts)) settled recent c.requires.index in (
      λ h. absurd (false≢true h),
      λ made. absurd (none_of_two facts e settled recent c.args.a c.args.b
          (λ m. false≢true (c.if-made_up_within.ensures.1 m)) (λ m. false≢true (c.if-made_up_within-2.ensures.1 m)) (λ m. false≢true (c.if-made_up_between.ensures.1 m))
          (λ m. false≢true (c.if-made_up_between.ensures.1 (same_factors facts e settled recent c.args.a c.args.b c.if-a-b.true m)))
          (with_between facts (settled ++ recent) index e c.args.a c.args.b made)),
    )

pub returns : goal.returns
returns c =
    let facts = c.args.search.now.facts.now in
    let e = c.args.search.now.form.now in
    let settled = c.args.search.now.layers.settled.now in
    let recent = c.args.search.now.layers.recent.now in
    let index = layers_index facts (suc (length facts)) settled recent c.requires.index in (
      λ h. between_with facts (settled ++ recent) index e c.args.a c.args.b
          (between_more facts e recent settled (settled ++ recent) (settled ++ recent) c.args.a c.args.b (Contains-append_right settled recent) (Contains-append_left settled recent) (c.made_up_between-2.ensures.0 h)),
      λ made. elim (cases_Bool c.made_up_between-2.result) [
        | inl is ↦ is
        | inr not ↦ absurd (none_of_two facts e settled recent c.args.a c.args.b
            (λ m. false≢true (c.if-made_up_within.ensures.1 m)) (λ m. false≢true (c.if-made_up_within-2.ensures.1 m)) (λ m. false≢true (c.if-made_up_between.ensures.1 m))
            (λ m. false≢true (sym not ∙ c.made_up_between-2.ensures.1 m))
            (with_between facts (settled ++ recent) index e c.args.a c.args.b made))
      ],
    )
