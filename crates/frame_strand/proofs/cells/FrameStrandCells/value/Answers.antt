use Rattle.std.proofs.Common.{◌≡◌, ◌∙◌, ap, sym, subst, rules, Some, ℤ, w64}
use Rattle.std.specs.Prelude.{FitsSigned, slice_get}
use Rattle.std.proofs.lemmas.Int.{to_z-of_z}
use Rattle.std.proofs.lemmas.Option.{same_Some}
use Rattle.frame_strand.specs.Buffers.{Buffers, value_in}
use Rattle.frame_strand.specs.Keeping.{AreDifferent}
use Rattle.frame_strand.specs.declared.cells.Read.{Read}
use Rattle.frame_strand.proofs.CellsKept.{value_at, value_absent, key_there}
use Rattle.frame_strand.proofs.cells.FrameStrandCells.value.Goals as goal

pub returns-in-Some : goal.returns-in-Some
returns-in-Some c =
    let fit : FitsSigned w64 c.read_at.result.value = search rules in
    let there : slice_get c.self.inside.reads.items c.in-Some.place ≡ Some c.read_at.result = ap (λ xs. slice_get xs c.in-Some.place) (sym c.as_slice.ensures.value) ∙ c.read_at.ensures in
    let r = key_there (λ (x : Read). x.at) c.self.inside.reads.items c.in-Some.place c.args.at.now (ap (λ xs. slice_get xs c.in-Some.place) (sym c.self.invariant.read_places) ∙ c.in-Some.ensures.found) in
    ap (λ (z : ℤ). Some z) (to_z-of_z w64 c.read_at.result.value fit) ∙
    sym (ap (λ (b : Buffers). value_in b.reads c.args.at.now) (sym c.self.view_is) ∙
    value_at c.self.inside.reads.items c.in-Some.place c.read_at.result c.args.at.now there (ap (λ (x : Read). x.at) (same_Some c.read_at.result r.0 (sym there ∙ r.1)) ∙ r.2) (subst AreDifferent c.self.invariant.read_places c.self.invariant.reads_differ))

pub returns-in-None : goal.returns-in-None
returns-in-None c =
    sym (ap (λ (b : Buffers). value_in b.reads c.args.at.now) (sym c.self.view_is) ∙ value_absent c.self.inside.reads.items c.args.at.now (λ i h. c.in-None.ensures.absent i (ap (λ xs. slice_get xs i) c.self.invariant.read_places ∙ h)))
