use Rattle.std.proofs.Common.{ℕ, ◌<◌, ◌≤◌, ◌+◌, ◌-◌, length}
use Rattle.linear_shown.specs.Index.{Meet, Serve}
use Rattle.linear_shown.proofs.meeting.skipped_alike.Given as goal

abbrev pub invariant-loop-first : goal.invariant-loop-first
invariant-loop-first l =
    (l.at ≤ l.first) × (l.first ≤ length l.pass.firsts.now) × (l.count ≤ l.upto)
    × ((i k : ℕ) → l.at ≤ i → i < length l.pass.firsts.now → k < l.upto → Meet l.pass.firsts.now l.pass.seconds.now 1 1 l.total i k
    → Serve l.pass.firsts.now l.pass.seconds.now l.pass.a l.pass.a l.pass.most i k → (l.first ≤ i) × (k < l.count))

abbrev pub decreases-loop-first : goal.decreases-loop-first
decreases-loop-first l = length l.pass.firsts.now - l.first + l.count
