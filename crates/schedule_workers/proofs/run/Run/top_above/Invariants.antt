use Rattle.std.proofs.Common.{◌≡◌, ◌-◌, ◌≤◌}
use Rattle.schedule_workers.specs.Tasks.{top_within}
use Rattle.schedule_workers.proofs.run.Run.top_above.Given as goal

abbrev pub invariant-loop : goal.invariant-loop
invariant-loop l = record { exact : top_within l.self.cactus (l.self.peak - l.counter) l.top ≡ top_within l.self.cactus l.self.peak l.lowest; in_peak : l.counter ≤ l.self.peak }
