use Rattle.std.proofs.Common.{List, subst}
use Rattle.store.specs.Cells.{NamedCells}
use Rattle.store.specs.Named.{HasGlobalCells}
use Rattle.kernel_calls.specs.Told.{memory_from}
use Rattle.kernel_calls.proofs.Replayed.{ends_by, is_after, stands_after}
use Rattle.kernel_calls.proofs.replay.replay_over.Goals as goal

pub returns-in-Ok-replay-clause-ended : goal.returns-in-Ok-replay-clause-ended
returns-in-Ok-replay-clause-ended c is =
    let args = c.args in
    let program = args.kernel.now in
    let row = args.cells.now in
    let filled = c.in-Ok.ensures in
    let ran = c.in-Ok-replay.ensures in
    let cells : HasGlobalCells program (memory_from program row) = subst (λ (m : List NamedCells). HasGlobalCells program m) filled.filled filled.cells in
    let after = is_after program args.arguments.now row args.workers args.events.now _ filled.filled ran.admitted.0 filled.long ran.admitted.1 ran.keeps in
    let ended = c.come_to.ensures.ended is _ (stands_after program args.arguments.now row args.workers args.events.now _ filled.filled _ ran.replays) in
    ends_by program c.program-program.ensures.accepted args.arguments.now row args.workers args.events.now ran.admitted.0 cells after _ _ ended

pub returns-in-Ok-replay-clause-stands : goal.returns-in-Ok-replay-clause-stands
returns-in-Ok-replay-clause-stands c is =
    let args = c.args in
    let program = args.kernel.now in
    let row = args.cells.now in
    let filled = c.in-Ok.ensures in
    let ran = c.in-Ok-replay.ensures in
    record {
      machine = _;
      replayed = is_after program args.arguments.now row args.workers args.events.now _ filled.filled ran.admitted.0 filled.long ran.admitted.1 ran.keeps;
      stands = c.come_to.ensures.stands is _ (stands_after program args.arguments.now row args.workers args.events.now _ filled.filled _ ran.replays);
    }
