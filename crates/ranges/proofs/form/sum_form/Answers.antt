use Rattle.std.proofs.Common.{◌≡◌, List, [], ◌∷◌, None, refl, sym, ap, ◌∙◌, drop}
use Rattle.std.proofs.lemmas.List.{drop_all}
use Rattle.ranges_owed.specs.declared.sum.Part.{Part}
use Rattle.ranges.specs.Sums.{with_parts, start_of, sum_form}
use Rattle.ranges.proofs.form.sum_form.Goals as goal

nothing_stays : (parts : List Part) → with_parts parts None ≡ None
nothing_stays [] = refl
nothing_stays (p ∷ parts) = refl

pub returns-in-None : goal.returns-in-None
unfolding sum_form
returns-in-None c =
    sym (nothing_stays (drop c.loop-part.part-index c.as_slice-parts.result.now))
    ∙ (rw c.in-None.is at c.loop-part.invariant)
    ∙ ap (λ parts. with_parts parts (start_of c.args.sum.now.constant)) c.as_slice-parts.ensures

pub returns : goal.returns
unfolding sum_form
returns c =
    rw (drop_all c.loop-part.part-index c.as_slice-parts.result.now c.loop-part-test.false) at c.loop-part.invariant
    ∙ ap (λ parts. with_parts parts (start_of c.args.sum.now.constant)) c.as_slice-parts.ensures
