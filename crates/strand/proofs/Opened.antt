-- What can be stored to can be so while more pages are put in use.
use Rattle.std.proofs.Common.{◌≡◌, ◌∙◌, ℤ, ap, sym}
use Rattle.strand_pages.specs.Logs.{IsWider}
use Rattle.strand_pages.specs.Tables.{log_of}
use Rattle.strand.specs.OwnCells.{CanStore, own_cell}
use Rattle.strand.specs.declared.cells.StrandCells.{StrandCells}

pub still_can : (x y : StrandCells) (a : ℤ) → y ≡ record x { log = y.log } → IsWider (log_of x.log) (log_of y.log) → CanStore x a → CanStore y a
still_can x y a only wide can none = wide.in_use a (can (sym (ap (λ (z : StrandCells). own_cell z a) only) ∙ none))
