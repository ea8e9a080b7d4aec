use Rattle.std.proofs.Common.{◌≡◌, ℕ, ◌<◌, ◌≤◌, ◌+◌, ◌-◌, ◌*◌, get_or, length}
use Rattle.linear_shown.specs.declared.index.Entry.{Entry}
use Rattle.linear_shown.proofs.meeting.risen_far.Given as goal

abbrev pub invariant-loop-step : goal.invariant-loop-step
invariant-loop-step l =
    (l.from ≤ l.place) × (l.place ≤ length l.entries) × (l.step ≤ 2 * l.place + 1)
    × ((k : ℕ) (d : Entry) → l.from ≤ k → k < l.place → l.a * (get_or l.entries k d).key + l.beside < l.total)
    × ((d : Entry) → l.step ≡ 0 → l.place < length l.entries → l.total ≤ l.a * (get_or l.entries l.place d).key + l.beside)

abbrev pub decreases-loop-step : goal.decreases-loop-step
decreases-loop-step l = 2 * (length l.entries - l.place) + l.step
