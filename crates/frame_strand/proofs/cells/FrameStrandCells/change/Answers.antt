use Rattle.std.proofs.Common.{◌≡◌, ◌∙◌, ap, sym, subst, Some}
use Rattle.std.specs.Prelude.{slice_get}
use Rattle.std.proofs.lemmas.Option.{same_Some}
use Rattle.frame_strand.specs.Buffers.{Buffers, change_in}
use Rattle.frame_strand.specs.Keeping.{AreDifferent}
use Rattle.frame_strand.specs.declared.cells.Written.{Written}
use Rattle.frame_strand.proofs.CellsKept.{change_at, change_absent, key_there}
use Rattle.frame_strand.proofs.cells.FrameStrandCells.change.Goals as goal

pub returns-in-Some-clause-change : goal.returns-in-Some-clause-change
returns-in-Some-clause-change c =
    let there : slice_get c.self.inside.writes.items c.in-Some.place ≡ Some c.written_at.result = ap (λ xs. slice_get xs c.in-Some.place) (sym c.as_slice.ensures.value) ∙ c.written_at.ensures in
    let w = key_there (λ (x : Written). x.at) c.self.inside.writes.items c.in-Some.place c.args.at.now (ap (λ xs. slice_get xs c.in-Some.place) (sym c.self.invariant.write_places) ∙ c.in-Some.ensures.found) in
    ap (λ (b : Buffers). change_in b.writes c.args.at.now) (sym c.self.view_is) ∙
    change_at c.self.inside.writes.items c.in-Some.place c.written_at.result c.args.at.now there (ap (λ (x : Written). x.at) (same_Some c.written_at.result w.0 (sym there ∙ w.1)) ∙ w.2) (subst AreDifferent c.self.invariant.write_places c.self.invariant.writes_differ)

pub returns-in-None-clause-absent : goal.returns-in-None-clause-absent
returns-in-None-clause-absent c =
    ap (λ (b : Buffers). change_in b.writes c.args.at.now) (sym c.self.view_is) ∙ change_absent c.self.inside.writes.items c.args.at.now (λ i h. c.in-None.ensures.absent i (ap (λ xs. slice_get xs i) c.self.invariant.write_places ∙ h))
