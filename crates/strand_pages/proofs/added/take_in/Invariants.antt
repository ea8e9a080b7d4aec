use Rattle.std.proofs.Common.{◌≡◌, take}
use Rattle.strand_pages.specs.Tables.{pages_log, taken_in}
use Rattle.strand_pages.proofs.added.take_in.Given as goal

abbrev pub invariant-loop-index : goal.invariant-loop-index
invariant-loop-index l = pages_log l.pages ≡ taken_in (pages_log l.initial.pages) l.at (take l.index l.adds)
