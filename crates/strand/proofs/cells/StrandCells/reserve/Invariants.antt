use Rattle.std.proofs.Common.{◌≡◌, ◌<◌, ℕ, pos, ◌+ℤ◌}
use Rattle.semantics.specs.Arithmetic.{wrapped}
use Rattle.syntax.specs.declared.operator.Width.TheVariants.{Bits64}
use Rattle.strand_pages.specs.Logs.{IsWider}
use Rattle.strand_pages.specs.Tables.{log_of}
use Rattle.strand.specs.OwnCells.{CanStore}
use Rattle.strand.proofs.cells.StrandCells.reserve.Given as goal

abbrev pub invariant-loop-index : goal.invariant-loop-index
invariant-loop-index l = record {
  only : l.self ≡ record l.fn.self { log = l.self.log };
  wider : IsWider (log_of l.fn.self.log) (log_of l.self.log);
  at : l.next ≡ wrapped Bits64 (l.at +ℤ pos l._index);
  can : (j : ℕ) → j < l._index → CanStore l.self (wrapped Bits64 (l.at +ℤ pos j));
}
