use Rattle.std.proofs.Common.{take}
use Rattle.strand_pages.specs.Adding.{AddsArePut}
use Rattle.strand_pages.specs.Tables.{pages_log}
use Rattle.strand_pages.proofs.added.write_adds.Given as goal

abbrev pub invariant-loop-index : goal.invariant-loop-index
invariant-loop-index l = AddsArePut (pages_log l.pages) (take l.index l.adds) l.initial.row l.row
