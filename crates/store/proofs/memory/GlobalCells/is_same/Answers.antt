use Rattle.std.proofs.lemmas.Slice.Eq.{slice_eq-Decides}
use Rattle.std.proofs.lemmas.Bool.Decides.{Decides-int_eq}
use Rattle.store.proofs.Setting.{same_cells}
use Rattle.store.proofs.memory.GlobalCells.is_same.Goals as goal

pub returns-then-is_same : goal.returns-then-is_same
returns-then-is_same c =
    let d = slice_eq-Decides Decides-int_eq c.as_slice.result.now c.as_slice-then-is_same.result.now c.eq.result c.eq.ensures in
    same_cells c.self.inside.name c.other.inside.name c.self.inside.cells.items c.other.inside.cells.items c.as_slice.result.now c.as_slice-then-is_same.result.now c.args.self.now c.args.other.now c.eq.result c.self.view_is c.other.view_is (c.is_same.ensures.0 c.if-is_same.true) c.as_slice.ensures.value c.as_slice-then-is_same.ensures.value d
