use Rattle.std.proofs.Common.{◌≡◌, ◌<◌, ℕ, Some}
use Rattle.std.specs.Prelude.{slice_get}
use Rattle.strand_pages.specs.Committing.{PageAgrees}
use Rattle.strand_pages.specs.Paging.{kept_of}
use Rattle.strand_pages.specs.declared.page.Page.{Page}
use Rattle.strand_pages.proofs.table.Pages.reads_agree.Given as goal

abbrev pub invariant-loop-slot : goal.invariant-loop-slot
invariant-loop-slot l = (s : ℕ) (p : Page) → s < l.slot → slice_get l.self.pages s ≡ Some p → PageAgrees (kept_of p) l.row
