use Rattle.std.proofs.Common.{◌∙◌, ◌++◌, ◌∷◌, [], ap, sym, refl, rules, w64}
use Rattle.std.specs.Prelude.{FitsSigned}
use Rattle.std.proofs.lemmas.Int.{to_z-of_z}
use Rattle.frame_strand.specs.Buffers.{Buffers, change_in, value_in}
use Rattle.frame_strand.specs.declared.cells.Read.{Read}
use Rattle.frame_strand.proofs.Keeps.{kept_read, settled_away}
use Rattle.frame_strand.proofs.cells.FrameStrandCells.take.Goals as goal

pub invariant_of-self : goal.invariant_of-self
invariant_of-self c =
    let fit : FitsSigned w64 c.args.at.now = search rules in
    let fits : FitsSigned w64 c.args.value.now = search rules in
    let rs = ap (λ (b : Buffers). b.reads) (c.self.view_is ∙ c.settle.ensures.is) in
    let ws = ap (λ (b : Buffers). b.writes) (c.self.view_is ∙ c.settle.ensures.is) in
    kept_read c.self.inside _ c.args.at.now c.args.value.now c.self.invariant c.push.ensures
    (c.push_reserved.ensures.items ∙ ap (λ (r : Read). c.self.inside.reads.items ++ r ∷ []) (λ i. record { at = to_z-of_z w64 c.args.at.now fit i; value = to_z-of_z w64 c.args.value.now fits i }))
    c.push_reserved.ensures.capacity refl refl
    (ap (λ l. value_in l c.args.at.now) rs ∙ c.settle.ensures.unread c.requires.new)
    (λ z h. settled_away c.args.self.now.writes c.args.at.now c.args.value.now z (sym (ap (λ l. change_in l c.args.at.now) ws) ∙ h))
