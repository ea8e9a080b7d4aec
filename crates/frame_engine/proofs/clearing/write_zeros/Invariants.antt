use Rattle.std.proofs.Common.{◌≡◌, ◌≢◌, ◌<◌, ℕ, ℤ, pos, ◌+ℤ◌}
use Rattle.std.specs.Prelude.{IsTrue}
use Rattle.semantics.specs.Arithmetic.{wrapped}
use Rattle.syntax.specs.declared.operator.Width.TheVariants.{Bits64}
use Rattle.frame_engine.specs.Accesses.{Zeroed}
use Rattle.frame_engine.proofs.clearing.write_zeros.Given as goal

abbrev pub invariant-loop-index : goal.invariant-loop-index
invariant-loop-index g l = record {
  at : l.next ≡ wrapped Bits64 (l.at +ℤ pos l._index);
  zeros : (i : ℕ) → i < l._index → g.C.Cells.holds l.cells (wrapped Bits64 (l.at +ℤ pos i)) (pos 0);
  others : (a z : ℤ) → g.C.Cells.holds l.initial.cells a z → ((i : ℕ) → i < l._index → a ≢ wrapped Bits64 (l.at +ℤ pos i)) → g.C.Cells.holds l.cells a z;
  zeroed : Zeroed g.C.Cells.does l.at l.initial.cells l._index l.cells;
  reaches : (a : ℤ) → IsTrue (g.C.Cells.reaches l.initial.cells a) → IsTrue (g.C.Cells.reaches l.cells a);
}
