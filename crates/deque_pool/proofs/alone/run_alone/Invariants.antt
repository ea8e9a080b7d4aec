use Rattle.std.specs.Prelude.{◌*◌, ◌≤◌}
use Rattle.deque_pool.specs.Gates.{LetsOn}
use Rattle.lone_run.specs.UnderWay.{IsRunOf}
use Rattle.deque_pool.proofs.alone.run_alone.Given as goal

abbrev pub invariant-loop : goal.invariant-loop
invariant-loop g l = record {
  run : IsRunOf l.verified l.arguments l.fn.memory l.run;
  asked : LetsOn (g.G.Gate.says l.gate) l.strand;
  -- so the number of the strand has room
  few : l.strand ≤ l.run.done;
  enough : l.run.done ≤ l.strand * 65537;
}
