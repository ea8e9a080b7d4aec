use Rattle.std.proofs.Common.{◌-◌, ◌≤◌, ℕ}
use Rattle.cactus.specs.ByPath.{IsTree}
use Rattle.schedule_workers.specs.Lowest.{IsLowestBelow}
use Rattle.schedule_workers.proofs.Lengths.{HasLength}
use Rattle.schedule_workers.proofs.run.Run.lowest_below.Given as goal

abbrev pub invariant-loop : goal.invariant-loop
invariant-loop l = record { is_lowest : (low : ℕ) → IsLowestBelow l.self.cactus l.lowest low → IsLowestBelow l.self.cactus l.top low; length : IsTree l.self.cactus → HasLength l.self.cactus l.lowest (l.most - l.counter); within : l.counter ≤ l.most }
