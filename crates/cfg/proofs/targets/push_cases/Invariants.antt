use Rattle.std.proofs.Common.{◌≡◌, ◌++◌, map, take}
use Rattle.cfg.specs.Edges.{case_successor}
use Rattle.cfg.proofs.targets.push_cases.Given as goal

abbrev pub invariant-loop-case : goal.invariant-loop-case
invariant-loop-case l = l.list.items ≡ l.fn.list.items ++ map (case_successor l.value) (take l.case-index l.cases)
