use Rattle.std.proofs.Common.{◌≡◌, ◌∙◌, [], sym, ap, subst, false, take_all}
use Rattle.std.proofs.lemmas.List.{append-nil}
use Rattle.refusal.specs.declared.broken.Broken.{Broken}
use Rattle.refusal.specs.Earliest.{IsEarliest}
use Rattle.ranges.specs.Sums.{shows}
use Rattle.ranges_owed.specs.Inequalities.{difference_of}
use Rattle.ranges.specs.Places.{with_shows}
use Rattle.ranges.specs.Rules.{IsUnshown}
use Rattle.refusal.proofs.Places.{below_nothing, below_next, below_all}
use Rattle.ranges.proofs.Walking.{shows_next}
use Rattle.ranges.proofs.judge.push_shows.Goals as goal

pub loop-inequality-init : goal.loop-inequality-init
loop-inequality-init c = (sym (append-nil c.args.facts.now), below_nothing (IsUnshown c.args.facts.now c.args.lines.now) c.args.lines.now)

pub loop-inequality-preserved : goal.loop-inequality-preserved
loop-inequality-preserved c =
    let lines = c.args.lines.now in
    let i = c.loop-inequality.inequality-index in
    let q = c.inequality-item.result in (
      shows_next c.args.facts.now c.loop-inequality.facts _ lines i q c.loop-inequality-test.true c.inequality-item.is c.loop-inequality.invariant.0 c.in_ok-broken.ensures.known,
      below_next (IsUnshown c.args.facts.now lines) lines i q _ _ _ c.loop-inequality-test.true c.inequality-item.is c.loop-inequality.invariant.1
          (subst (λ k. IsEarliest (λ (b : Broken). (b.number ≡ 508) × (b.line ≡ q.line) × (shows k (difference_of [] q) ≡ false)) c.in_ok-broken.broken) c.loop-inequality.invariant.0 c.in_ok-broken.ensures.named)
          c.lower-named.ensures,
    )

pub returns-clause-known : goal.returns-clause-known
returns-clause-known c = c.loop-inequality.invariant.0 ∙ ap (with_shows c.args.facts.now) (take_all c.loop-inequality.inequality-index c.args.lines.now c.loop-inequality-test.false)

pub returns-clause-named : goal.returns-clause-named
returns-clause-named c = below_all (IsUnshown c.args.facts.now c.args.lines.now) c.args.lines.now _ _ c.loop-inequality-test.false c.loop-inequality.invariant.1
