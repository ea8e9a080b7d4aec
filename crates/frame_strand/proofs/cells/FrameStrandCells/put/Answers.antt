use Rattle.std.proofs.Common.{◌≡◌, ◌∙◌, ◌<◌, ◌++◌, ◌∷◌, [], ap, sym, subst, refl, rules, arith, length, None, Some, ℤ, w64}
use Rattle.std.specs.Prelude.{FitsSigned, slice_get, slice_set, vec_capacity}
use Rattle.std.specs.Vec.{with_item}
use Rattle.std.proofs.lemmas.Int.{to_z-of_z}
use mir.Val.{to_z, of_z}
use Rattle.frame_strand.specs.Buffers.{Buffers, change_in, value_in, with_change}
use Rattle.frame_strand.specs.Keeping.{IsKept}
use Rattle.frame_strand.specs.declared.cells.FrameStrandCells.TheInside.{Inside}
use Rattle.frame_strand.proofs.Keeps.{kept_set, kept_new}
use Rattle.frame_strand.proofs.cells.FrameStrandCells.put.Goals as goal

-- the cell has a place
set_there : (c : goal.After-self-1) → (y : Inside) → y.read_places ≡ c.self.inside.read_places → y.reads ≡ c.self.inside.reads → y.write_places ≡ c.self.inside.write_places → y.writes.items ≡ slice_set c.self.inside.writes.items c.in-Some.place (record { at = c.args.at.now; change = c.args.change }) → vec_capacity y.writes ≡ vec_capacity c.self.inside.writes → IsKept y × (y.writes.items ≡ with_change c.self.inside.writes.items c.args.at.now c.args.change)
set_there c y rp rs wp ws cap =
    kept_set c.self.inside y c.in-Some.place (record { at = c.args.at.now; change = c.in-Some.field-0-1 }) c.args.at.now c.args.change c.self.invariant rp rs wp ws cap
    (ap (λ (b : Buffers). slice_get b.writes c.in-Some.place) c.self.view_is ∙ (rw c.in-Some.is at c.requires.found)) refl
    (λ z e. ap (λ (b : Buffers). value_in b.reads c.args.at.now) c.self.view_is ∙ c.requires.unread z e)

pub invariant_of-self : goal.invariant_of-self
invariant_of-self c =
    let fit : FitsSigned w64 c.args.at.now = search rules in
    (set_there c _ refl refl refl (ap (λ (z : ℤ). slice_set c.self.inside.writes.items c.in-Some.place (record { at = z; change = c.args.change })) (to_z-of_z w64 c.args.at.now fit)) refl).0

pub returns-in-Some-clause-done : goal.returns-in-Some-clause-done
returns-in-Some-clause-done c =
    let fit : FitsSigned w64 c.args.at.now = search rules in
    let done = (set_there c (record { read_places = c.self.inside.read_places; reads = c.self.inside.reads; write_places = c.self.inside.write_places; writes = with_item c.self.inside.writes c.in-Some.place (record { at = to_z w64 (of_z w64 c.args.at.now); change = c.args.change }) }) refl refl refl (ap (λ (z : ℤ). slice_set c.self.inside.writes.items c.in-Some.place (record { at = z; change = c.args.change })) (to_z-of_z w64 c.args.at.now fit)) refl).1 in
    let old : change_in c.args.self.now.writes c.args.at.now ≡ Some c.in-Some.field-0-1 = rw c.in-Some.is at c.requires.change in
    record {
      place = λ h. let bad = sym h ∙ old in absurd cc;
      is = (λ i. record { reads = c.self.inside.reads.items; writes = done i }) ∙ ap (λ (b : Buffers). record b { writes = with_change b.writes c.args.at.now c.args.change }) c.self.view_is;
    }

pub invariant_of-self-in-None : goal.invariant_of-self-in-None
invariant_of-self-in-None c =
    let fit : FitsSigned w64 c.args.at.now = search rules in
    let none : change_in c.self.inside.writes.items c.args.at.now ≡ None = ap (λ (b : Buffers). change_in b.writes c.args.at.now) c.self.view_is ∙ (rw c.in-None.is at c.requires.absent) in
    (kept_new c.self.inside _ c.args.at.now c.args.change c.self.invariant refl refl c.push.ensures (c.push_reserved.ensures.items ∙ ap (λ (z : ℤ). c.self.inside.writes.items ++ record { at = z; change = c.args.change } ∷ []) (to_z-of_z w64 c.args.at.now fit)) c.push_reserved.ensures.capacity none
    (λ z e. ap (λ (b : Buffers). value_in b.reads c.args.at.now) c.self.view_is ∙ c.requires.unread z e)).0

pub returns-else-len-ge-PLACES-clause-done : goal.returns-else-len-ge-PLACES-clause-done
returns-else-len-ge-PLACES-clause-done c =
    let fit : FitsSigned w64 c.args.at.now = search rules in
    let none : change_in c.self.inside.writes.items c.args.at.now ≡ None = ap (λ (b : Buffers). change_in b.writes c.args.at.now) c.self.view_is ∙ (rw c.in-None.is at c.requires.absent) in
    let done : c.push_reserved.new.self.items ≡ with_change c.self.inside.writes.items c.args.at.now c.args.change =
    (kept_new c.self.inside (record { read_places = c.self.inside.read_places; reads = c.self.inside.reads; write_places = c.push.new.self; writes = c.push_reserved.new.self }) c.args.at.now c.args.change c.self.invariant refl refl c.push.ensures (c.push_reserved.ensures.items ∙ ap (λ (z : ℤ). c.self.inside.writes.items ++ record { at = z; change = c.args.change } ∷ []) (to_z-of_z w64 c.args.at.now fit)) c.push_reserved.ensures.capacity none
    (λ z e. ap (λ (b : Buffers). value_in b.reads c.args.at.now) c.self.view_is ∙ c.requires.unread z e)).1 in
    let few : length c.self.inside.writes.items < 256 = let n = c.len.ensures in let m = c.self.inside.writes.ok.0 in let f = c.if-len-ge-PLACES.false in omega (arith, n, m, f) in
    record {
      place = λ h. subst (λ (b : Buffers). length b.writes < 256) c.self.view_is few;
      is = (λ i. record { reads = c.self.inside.reads.items; writes = done i }) ∙ ap (λ (b : Buffers). record b { writes = with_change b.writes c.args.at.now c.args.change }) c.self.view_is;
    }
