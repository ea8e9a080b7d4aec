use Rattle.std.proofs.Common.{ℕ, List, ap, length}
use Rattle.std.specs.Prelude.{slice_index}
use Rattle.strand_pages.proofs.Paged.{unused_log}
use Rattle.strand_pages.proofs.table.Pages.new.Goals as goal

pub returns : goal.returns
returns c =
    let none = c.new.ensures.items in
    unused_log c.new.result.items _ (λ (n : ℕ). ap (λ (xs : List ℕ). slice_index xs n) none) 0 (ap (λ (xs : List ℕ). length xs) none)
