use Rattle.std.proofs.Common.{◌≡◌, ◌∙◌, ◌<◌, ◌++◌, ◌∷◌, [], List, length, length-set, refl, subst, arith}
use Rattle.frame_strand.specs.Indexing.{IsChained}
use Rattle.frame_strand.specs.declared.finding.IndexEntry.{IndexEntry}
use Rattle.frame_strand.proofs.Chained.{chained_pop, nil_of}
use Rattle.frame_strand.proofs.finding.unchain.Goals as goal

pub loop-entry-init : goal.loop-entry-init
loop-entry-init c = (c.requires, refl)

pub index_mut-requires : goal.index_mut-requires
index_mut-requires c = let k = c.loop-entry.heads.ok.0 in let n = c.loop-entry.invariant.0.chains in let w = c.slot-slot.ensures.within in omega (arith, k, n, w)

pub loop-entry-preserved : goal.loop-entry-preserved
loop-entry-preserved c =
    let heads = c.loop-entry.heads.items in
    let w = c.slot-slot.ensures.within in
    let n = c.loop-entry.invariant.0.chains in
    let within : c.slot-slot.result < length heads = omega (arith, w, n) in
    let chained : IsChained heads (c.pop.new.self.items ++ c.in-Some.entry ∷ []) = subst (λ (xs : List IndexEntry). IsChained heads xs) c.in-Some.ensures.items c.loop-entry.invariant.0 in (
      chained_pop heads c.pop.new.self.items c.in-Some.entry chained c.slot-slot.result c.slot-slot.ensures.is (length-set heads c.slot-slot.result c.in-Some.entry.earlier) within,
      c.pop.ensures.capacity ∙ c.loop-entry.invariant.1,
    )

pub returns-clause-chained : goal.returns-clause-chained
returns-clause-chained c =
    let none = c.in_default.ensures.cases.0 in
    let k = c.loop-entry.entries.ok.0 in
    let empty : length c.loop-entry.entries.items ≡ 0 = omega (arith, none, k) in
    subst (λ (xs : List IndexEntry). IsChained c.loop-entry.heads.items xs) (nil_of c.loop-entry.entries.items empty) c.loop-entry.invariant.0

pub returns-clause-room : goal.returns-clause-room
returns-clause-room c = c.pop.ensures.capacity ∙ c.loop-entry.invariant.1
