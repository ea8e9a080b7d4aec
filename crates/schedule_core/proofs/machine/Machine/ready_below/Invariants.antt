use Rattle.std.proofs.Common.{◌-◌, ◌≤◌}
use Rattle.std.specs.Prelude.{vec_capacity, vec_len}
use Rattle.cactus.specs.ByPath.{IsTree}
use Rattle.schedule_workers.specs.Scheduling.{hand_of}
use Rattle.schedule_core.proofs.ReadyBelow.{Walks}
use Rattle.schedule_core.proofs.machine.Machine.ready_below.Given as goal

abbrev pub invariant-loop-level : goal.invariant-loop-level
invariant-loop-level l = record {
  walk : IsTree l.self.stage.run.cactus → Walks l.self.stage.run.cactus l.levels (hand_of l.self.stage.run.hands.items l.worker) (l.levels - l._level) l.slot l.tickets.items;
  short : vec_len l.tickets ≤ l._level;
  room : l.levels ≤ vec_capacity l.tickets;
}
