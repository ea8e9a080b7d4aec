use Rattle.std.proofs.Common.{◌≡◌, ◌≤◌, ℕ, ◌+◌, length}
use Rattle.cost_table.specs.Depth.{detaches_within, detaches_around}
use Rattle.cost_table.proofs.level.detaches_around.Given as goal

-- the detaches that were passed, and those further out
abbrev pub invariant-loop-step : goal.invariant-loop-step
invariant-loop-step l =
    record {
      within : l.level ≤ l._step;
      outer : (n : ℕ) → l._step + n ≡ length l.tasks → l.level + detaches_within l.tasks n l.task ≡ detaches_around l.tasks l.block;
    }
