use Rattle.std.proofs.Common.{◌≡◌, ◌∙◌, ap, sym, refl, rules, Some, w64}
use Rattle.std.specs.Prelude.{FitsSigned, slice_get, slice_set}
use Rattle.std.specs.Vec.{with_item}
use Rattle.std.proofs.lemmas.Int.{to_z-of_z}
use mir.Val.{to_z, of_z}
use Rattle.semantics.specs.Arithmetic.{cell_sum}
use Rattle.frame_strand.specs.Buffers.{Buffers, settled_changes, with_change}
use Rattle.frame_strand.specs.Keeping.{IsKept}
use Rattle.frame_strand.specs.declared.cells.Written.{Written}
use Rattle.frame_strand.specs.declared.cells.Change.{Change}
use Rattle.frame_strand.specs.declared.cells.Change.TheVariants.{Stored}
use Rattle.frame_strand.specs.declared.cells.FrameStrandCells.TheInside.{Inside}
use Rattle.frame_strand.proofs.Keeps.{kept_set}
use Rattle.frame_strand.proofs.cells.FrameStrandCells.settle.Goals as goal

-- the cells afterwards
abbrev after : goal.After-self-1 → Inside
after c = record { read_places = c.self.inside.read_places; reads = c.self.inside.reads; write_places = c.self.inside.write_places; writes = with_item c.self.inside.writes c.in-Some-default-Delta.place (record { at = to_z w64 (of_z w64 c.args.at.now); change = Stored (to_z w64 (of_z w64 c.sum.result)) }) }

sum_is : (c : goal.After-self-1) → c.sum.result ≡ cell_sum c.args.value.now c.in-Some-default-Delta.number
sum_is c =
    let fit : FitsSigned w64 c.args.value.now = search rules in
    let fits : FitsSigned w64 c.in-Some-default-Delta.number = search rules in
    c.sum.ensures ∙ (λ i. cell_sum (to_z-of_z w64 c.args.value.now fit i) (to_z-of_z w64 c.in-Some-default-Delta.number fits i))

set_there : (c : goal.After-self-1) → IsKept (after c) × ((after c).writes.items ≡ with_change c.self.inside.writes.items c.args.at.now (Stored (cell_sum c.args.value.now c.in-Some-default-Delta.number)))
set_there c =
    let fit : FitsSigned w64 c.args.at.now = search rules in
    let fits : FitsSigned w64 c.sum.result = search rules in
    kept_set c.self.inside (after c) c.in-Some-default-Delta.place (record { at = c.args.at.now; change = c.in-Some-default-Delta.field-0-1 }) c.args.at.now (Stored (cell_sum c.args.value.now c.in-Some-default-Delta.number)) c.self.invariant refl refl refl
    (ap (λ (w : Written). slice_set c.self.inside.writes.items c.in-Some-default-Delta.place w) (λ i. record { at = to_z-of_z w64 c.args.at.now fit i; change = Stored ((to_z-of_z w64 c.sum.result fits ∙ sum_is c) i) })) refl
    (ap (λ (b : Buffers). slice_get b.writes c.in-Some-default-Delta.place) c.self.view_is ∙ c.in-Some-default-Delta.ensures.found) refl (λ z e. absurd cc)

pub invariant_of-self : goal.invariant_of-self
invariant_of-self c = (set_there c).0

pub returns-in-Some-default-Delta-clause-is : goal.returns-in-Some-default-Delta-clause-is
returns-in-Some-default-Delta-clause-is c =
    let done = (set_there c).1 in
    (λ i. record { reads = c.self.inside.reads.items; writes = done i }) ∙
    ap (λ (b : Buffers). record b { writes = with_change b.writes c.args.at.now (Stored (cell_sum c.args.value.now c.in-Some-default-Delta.number)) }) c.self.view_is ∙
    ap (λ o. record c.args.self.now { writes = settled_changes c.args.self.now.writes c.args.at.now c.args.value.now o }) (sym (c.in-Some-default-Delta.ensures.change ∙ ap (λ (u : Change). Some u) c.in-Some-default-Delta.field-0-1-is))
