use Rattle.strand_pages.specs.Committing.{ArePut}
use Rattle.strand_pages.specs.Paging.{kept_of}
use Rattle.strand_pages.proofs.page.Page.put_stored.Given as goal

abbrev pub invariant-loop-place : goal.invariant-loop-place
invariant-loop-place l = ArePut (kept_of l.self) l.from l.place l.initial.row l.row
