use Rattle.std.proofs.Common.{inl, inr, refl}
use Rattle.std.proofs.lemmas.List.Elements.{Contains-append_cases}
use Rattle.linear_shown.proofs.merge.one_contradicts_both.Goals as goal

pub returns-else-one_contradicts : goal.returns-else-one_contradicts
returns-else-one_contradicts c = λ e d no e_in d_in s. elim (Contains-append_cases c.args.settled.now c.args.recent.now d d_in) [
  | inl settles ↦ c.if-one_contradicts.ensures e d refl e_in settles s
  | inr late ↦ c.one_contradicts-else-one_contradicts.ensures e d no e_in late s
]
