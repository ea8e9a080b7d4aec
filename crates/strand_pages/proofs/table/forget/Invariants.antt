use Rattle.std.proofs.Common.{◌≡◌, ◌≤◌, ℕ, suc, length}
use Rattle.std.specs.Prelude.{slice_index}
use Rattle.strand_pages.proofs.table.forget.Given as goal

abbrev pub invariant-loop-slot : goal.invariant-loop-slot
invariant-loop-slot l = (length l.directory ≡ length l.initial.directory) × ((n s : ℕ) → slice_index l.directory n ≡ suc s → (slice_index l.initial.directory n ≡ suc s) × (l.slot ≤ s))
