use Rattle.std.proofs.Common.{◌≡◌, ◌∙◌, ap}
use Rattle.refusal.proofs.Elements.{earliest_both}
use Rattle.ranges_owed.specs.Owed.{owed}
use Rattle.ranges.specs.Places.{with_shows}
use Rattle.ranges.specs.Rules.{AreUnmet, AreUnshown}
use Rattle.ranges.proofs.walk.walk_step.Goals as goal

pub returns-clause-named : goal.returns-clause-named
returns-clause-named c =
    let step = c.args.step.now in
    let before = c.args.facts.now in
    let known : c.known.result ≡ with_shows before step.shows = c.known.ensures ∙ c.index.ensures ∙ c.in_ok-unshown.ensures.known ∙ ap (with_shows before) c.as_slice.ensures in
    earliest_both (AreUnshown before step.shows) (AreUnmet (with_shows before step.shows) step.line (owed c.args.program.now c.args.function.now step.instruction)) _ _ _
    (rw c.as_slice.ensures at c.in_ok-unshown.ensures.named)
    (rw (known, c.deref.ensures.value, c.in_ok-owed.ensures) at c.in_ok-unmet.ensures)
    c.lower.ensures
