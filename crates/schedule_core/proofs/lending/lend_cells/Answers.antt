use Rattle.std.proofs.Common.{length, ap}
use Rattle.std.proofs.Math.Logic.{∥∥₁_map}
use Rattle.schedule_workers.specs.declared.run.Run.{Run}
use Rattle.schedule_workers.proofs.Uses.{keeps_follows}
use Rattle.frame.specs.declared.event.Event.TheVariants.{Step}
use Rattle.schedule_core.specs.Replaying.{LeavesAsBefore}
use Rattle.schedule_core.specs.Stages.{program_of}
use Rattle.schedule_core.proofs.Promised.{machine_same}
use Rattle.schedule_core.proofs.Replaying.{leaves_as_before, with_run}
use Rattle.schedule_core.proofs.lending.lend_cells.Goals as goal

left : (c : goal.After-lend) → LeavesAsBefore c.args.stage.now (with_run c.args.stage.now c.lend.new.self)
left c =
    let old = c.args.stage.now in
    leaves_as_before old c.lend.new.self (ap (λ (x : Run). length x.hands.items) c.lend.ensures.only) (c.lend.ensures.left (program_of old) old.places)

pub returns-clause-as_before : goal.returns-clause-as_before
returns-clause-as_before c = left c

pub returns-clause-machine : goal.returns-clause-machine
returns-clause-machine c =
    let old = c.args.stage.now in
    let k = c.lend.new.self in
    let follows = keeps_follows old.run.cactus k.cactus (c.lend.ensures.left (program_of old) old.places).uses in
    ∥∥₁_map c.requires
    (machine_same old k (ap (λ (x : Run). length x.hands.items) c.lend.ensures.only) (ap (λ (x : Run). length x.moves.items) c.lend.ensures.only) follows (Step 0) (left c))
