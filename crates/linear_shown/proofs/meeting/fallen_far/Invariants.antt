use Rattle.std.proofs.Common.{ℕ, ◌<◌, ◌≤◌, ◌+◌, ◌-◌, ◌*◌, get_or}
use Rattle.linear_shown.specs.declared.index.Entry.{Entry}
use Rattle.linear_shown.proofs.meeting.fallen_far.Given as goal

abbrev pub invariant-loop-step : goal.invariant-loop-step
invariant-loop-step l =
    (l.count ≤ l.upto) × (l.step ≤ 2 * (l.upto - l.count) + 1)
    × ((k : ℕ) (d : Entry) → l.count ≤ k → k < l.upto → l.total < l.b * (get_or l.entries k d).key + l.beside)

abbrev pub decreases-loop-step : goal.decreases-loop-step
decreases-loop-step l = 2 * l.count + l.step
