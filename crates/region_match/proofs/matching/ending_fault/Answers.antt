use Rattle.region_match.proofs.Endings.{ending_known, use_known}
use Rattle.region_match.proofs.matching.ending_fault.Goals as goal

pub returns-in-Reattach : goal.returns-in-Reattach
returns-in-Reattach c = ending_known c.args.bodies.now c.args.tasks.now c.args.task c.args.ending.now c.in-Some.ending _ _ c.in-Some.is c.in-Reattach.is c.reattach_fault.ensures

pub returns-in-Detach : goal.returns-in-Detach
returns-in-Detach c = ending_known c.args.bodies.now c.args.tasks.now c.args.task c.args.ending.now c.in-Some.ending _ _ c.in-Some.is c.in-Detach.is (use_known c.args.bodies.now c.args.tasks.now c.args.task c.in-Detach.region c.in-Some.ending.line _ c.use_fault.ensures)

pub returns-in-Sync : goal.returns-in-Sync
returns-in-Sync c = ending_known c.args.bodies.now c.args.tasks.now c.args.task c.args.ending.now c.in-Some.ending _ _ c.in-Some.is c.in-Sync.is (use_known c.args.bodies.now c.args.tasks.now c.args.task c.in-Sync.region c.in-Some.ending.line _ c.use_fault-in-Sync.ensures)
