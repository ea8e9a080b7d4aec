use Rattle.region_match.proofs.AllTables.{Tabling}
use Rattle.region_match.proofs.check.all_tasks.Given as goal

abbrev pub invariant-loop-index : goal.invariant-loop-index
invariant-loop-index l = Tabling l.functions l.graphs l.index l.tables.items l.named
