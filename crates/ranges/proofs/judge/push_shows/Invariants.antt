use Rattle.std.proofs.Common.{◌≡◌, take}
use Rattle.refusal.specs.Earliest.{IsEarliest}
use Rattle.ranges.specs.Places.{with_shows}
use Rattle.ranges.specs.Rules.{IsUnshown}
use Rattle.refusal.proofs.Places.{Below}
use Rattle.ranges.proofs.judge.push_shows.Given as goal

abbrev pub invariant-loop-inequality : goal.invariant-loop-inequality
invariant-loop-inequality l =
    (l.facts ≡ with_shows l.initial.facts (take l.inequality-index l.lines))
    × IsEarliest (Below (IsUnshown l.initial.facts l.lines) l.lines l.inequality-index) l.named
