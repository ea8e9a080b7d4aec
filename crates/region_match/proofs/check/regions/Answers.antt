use Rattle.std.proofs.Common.{Some, None}
use Rattle.refusal.specs.Earliest.{IsEarliest, IsJudged}
use Rattle.region_match.specs.Mixed.{IsMixed}
use Rattle.region_match.specs.Matched.{IsRegionBroken}
use Rattle.region_match.specs.Tasks.{AreAllTasks}
use Rattle.region_match.proofs.Naming.{mixed_first, others_next}
use Rattle.region_match.proofs.check.regions.Goals as goal

pub returns-in-Some-clause-fault : goal.returns-in-Some-clause-fault
returns-in-Some-clause-fault c =
    let program = c.args.graph.now.program in
    let named : IsEarliest (IsMixed program) (Some c.in-Some.broken) = rw c.in-Some.is at c.in_ok-tables.ensures in
    rw c.into.ensures (mixed_first program c.in-Some.broken named)

pub returns-in-Some-2-clause-fault : goal.returns-in-Some-2-clause-fault
returns-in-Some-2-clause-fault c =
    let program = c.args.graph.now.program in
    let judged : IsJudged (AreAllTasks c.args.graph.now.functions c.in_ok-tables.tables.items) (IsMixed program) None =
    rw c.in_default.is at c.in_ok-tables.ensures in
    let named : IsEarliest (IsRegionBroken program) (Some c.in-Some-2.broken) = rw c.in-Some-2.is at c.in_ok-broken.ensures in
    rw c.into-in-Some-2.ensures (others_next program c.in-Some-2.broken judged.1 named)
