use Rattle.refusal.specs.Earliest.{IsEarliest}
use Rattle.ranges.specs.Tables.{IsBlockTable}
use Rattle.ranges.specs.Rules.{IsBlockBroken}
use Rattle.refusal.proofs.Places.{Below}
use Rattle.ranges.proofs.Tabling.{Tabled}
use Rattle.ranges.proofs.check.function_facts.Given as goal

abbrev pub invariant-loop-index : goal.invariant-loop-index
invariant-loop-index l =
    Tabled (IsBlockTable l.program.functions l.function) l.blocks l.index l.tables.items
    × IsEarliest (Below (IsBlockBroken l.program l.function) l.blocks l.index) l.named
