use Rattle.std.proofs.Common.{inl, inr, refl}
use Rattle.std.proofs.lemmas.List.Elements.{Contains-append_cases}
use Rattle.linear_shown.proofs.index.one_of_both_contradicts.Goals as goal

pub returns-else-contradicts : goal.returns-else-contradicts
returns-else-contradicts c = λ d no d_in s. elim (Contains-append_cases c.args.settled.now c.args.recent.now d d_in) [
  | inl settles ↦ c.if-contradicts.ensures d refl settles s
  | inr late ↦ c.contradicts-else-contradicts.ensures d no late s
]
