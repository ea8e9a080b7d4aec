-- The blocks' tasks give the levels that depths are counted by.
use Rattle.program.specs.declared.function.Program.{Program}
use Rattle.cfg.specs.Edges.{graphs_of}
use Rattle.cfg.specs.Rules.{IsGraphRight}
use Rattle.region_match.specs.Matched.{AreRegionsRight}
use Rattle.region_match.specs.Tasks.{AreAllTasks}
use Rattle.region_match.specs.declared.tables.Regions.{Regions}
use Rattle.laws_conditions.specs.rules.Depths.{Levels}
use Rattle.laws_phases.specs.defined.Names.{IsNamed}
use Rattle.laws_phases.specs.costs.Depths.{level_of}

abbrev pub LevelsByTasks : Type 0
LevelsByTasks = (prog : Program) (regions : Regions) → IsNamed prog → IsGraphRight prog → AreRegionsRight prog →
    AreAllTasks (graphs_of prog) regions.functions → Levels prog (level_of regions)
