use Rattle.std.proofs.Common.{◌≡◌, ◌≤◌, ◌<◌, ◌+◌, ◌∙◌, List, length, length-set, ap, sym, subst, arith, rules, ◌++◌, ◌∷◌, [], ℤ, w64}
use Rattle.std.specs.Prelude.{slice_get, slice_set, FitsSigned}
use Rattle.std.proofs.lemmas.Int.{to_z-of_z}
use Rattle.std.proofs.lemmas.List.{length-map}
use Rattle.frame_strand.specs.Indexing.{IsChained}
use Rattle.frame_strand.specs.declared.finding.IndexEntry.{IndexEntry}
use Rattle.frame_strand.proofs.Chained.{chained_push, length_push}
use Rattle.frame_strand.proofs.finding.Index.push.Goals as goal

pub invariant_of-self : goal.invariant_of-self
invariant_of-self c =
    let fit : FitsSigned w64 c.args.at.now = search rules in
    let heads = c.self.inside.heads.items in
    let y : IndexEntry = record { at = c.args.at.now; earlier = c.head_at-earlier.result } in
    let items : c.push_reserved.new.self.items ≡ c.self.inside.entries.items ++ record { at = c.args.at.now; earlier = c.head_at-earlier.result } ∷ [] = c.push_reserved.ensures.items ∙ ap (λ (z : ℤ). c.self.inside.entries.items ++ record { at = z; earlier = c.head_at-earlier.result } ∷ []) (to_z-of_z w64 c.args.at.now fit) in
    let more : length c.push_reserved.new.self.items ≡ length c.self.inside.entries.items + 1 = ap (λ (xs : List IndexEntry). length xs) items ∙ length_push c.self.inside.entries.items (record { at = c.args.at.now; earlier = c.head_at-earlier.result }) in
    let few : length c.self.inside.entries.items < 256 = let r = c.requires in let v = ap (λ (xs : List ℤ). length xs) c.self.view_is in let m = length-map c.self.inside.entries.items (λ (e : IndexEntry). e.at) in omega (arith, r, v, m) in
    record {
      chained = subst (λ (xs : List IndexEntry). IsChained (slice_set c.self.inside.heads.items c.slot-slot.result c.len.result) xs) (sym items)
          (chained_push c.self.inside.heads.items c.self.inside.entries.items (record { at = c.args.at.now; earlier = c.head_at-earlier.result }) c.self.invariant.chained
          (ap (λ k. slice_get c.self.inside.heads.items k) (sym c.slot-slot.ensures.is) ∙ ap (λ xs. slice_get xs c.slot-slot.result) (sym c.as_slice.ensures.value) ∙ c.head_at-earlier.ensures)
          c.slot-slot.result c.len.result (c.len.ensures ∙ c.push_reserved.new.self.ok.0 ∙ more) c.slot-slot.ensures.is (length-set c.self.inside.heads.items c.slot-slot.result c.len.result)
          (subst (λ (k : _). c.slot-slot.result < k) (sym c.self.invariant.chained.chains) c.slot-slot.ensures.within));
      room = subst (λ (k : _). 256 ≤ k) (sym c.push_reserved.ensures.capacity) c.self.invariant.room;
      few = omega (arith, more, few);
    }
