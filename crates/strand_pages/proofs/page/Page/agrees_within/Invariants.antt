use Rattle.std.proofs.Common.{◌≡◌, true, false}
use Rattle.strand_pages.specs.Committing.{AgreesWithin, PageDiffers}
use Rattle.strand_pages.specs.Paging.{kept_of}
use Rattle.strand_pages.proofs.page.Page.agrees_within.Given as goal

abbrev pub invariant-loop-place : goal.invariant-loop-place
invariant-loop-place l = (l.same ≡ true → AgreesWithin (kept_of l.self) l.from l.place l.row) × (l.same ≡ false → PageDiffers (kept_of l.self) l.row)
