use Rattle.std.proofs.Common.{◌≡◌, ℕ, ◌<◌, Some}
use Rattle.std.specs.Prelude.{slice_get}
use Rattle.frame_engine.specs.Flat.{cell_in}
use Rattle.frame_strand.specs.declared.cells.Read.{Read}
use Rattle.schedule_commit.proofs.fitting.hold_reads.Given as goal

abbrev pub invariant-loop-read : goal.invariant-loop-read
invariant-loop-read l = (i : ℕ) (r : Read) → i < l.read-index → slice_get l.reads i ≡ Some r → cell_in l.row r.at ≡ Some r.value
