use Rattle.std.proofs.Common.{◌<◌, ◌+◌, ◌∙◌, ℕ, cond, eqb, length, refl, ap, arith}
use Rattle.std.proofs.lemmas.Option.{slice_get_read}
use Rattle.sync_join.specs.Counting.{Counts, living_in}
use Rattle.sync_join.proofs.Counted.{busy_opened, few, living_at, one_more}
use Rattle.sync_join.proofs.counts.RegionCounts.open.Goals as goal

pub with_child-self-inside-requires : goal.with_child-self-inside-requires
with_child-self-inside-requires c =
    let v = c.self.inside.counts in
    let busy = c.self.invariant in
    let low = few v.items in
    let a = v.ok.0 in
    let b = v.ok.1 in
    let s = v.small in
    omega (arith, busy, low, a, b, s)

pub opened-requires : goal.opened-requires
opened-requires c =
    let v = c.self.inside.counts in
    let same = ap (λ (k : Counts). living_in k.items c.args.region) c.self.view_is in
    let long = ap (λ (k : Counts). length k.items) c.self.view_is in
    let there = c.requires.there in
    let within : c.args.region < length v.items = omega (arith, there, long) in
    let here = living_at v.items c.args.region c.index_mut.result.now (slice_get_read v.items (length v.items) c.args.region c.index_mut.result.now refl within c.index_mut.ensures.value) in
    let room = c.requires.room in
    omega (arith, same, here, room)

pub invariant_of-self : goal.invariant_of-self
invariant_of-self c =
    let v = c.self.inside.counts in
    let long = ap (λ (k : Counts). length k.items) c.self.view_is in
    let there = c.requires.there in
    let within : c.args.region < length v.items = omega (arith, there, long) in
    let was = slice_get_read v.items (length v.items) c.args.region c.index.result.now refl within c.index.ensures in
    let here = living_at v.items c.args.region c.index.result.now was in
    let again = living_at v.items c.args.region c.index_mut.result.now (slice_get_read v.items (length v.items) c.args.region c.index_mut.result.now refl within c.index_mut.ensures.value) in
    let more = c.opened.ensures in
    busy_opened v.items c.args.region c.index.result.now c.opened.new.self c.with_child-self-inside.result was (omega (arith, here, again, more))
    (c.with_child-self-inside.ensures ∙ ap (λ (n : ℕ). n + 1) c.self.invariant)

pub returns-clause-counted : goal.returns-clause-counted
returns-clause-counted c = λ other.
    let v = c.self.inside.counts in
    let long = ap (λ (k : Counts). length k.items) c.self.view_is in
    let there = c.requires.there in
    let within : c.args.region < length v.items = omega (arith, there, long) in
    let was = slice_get_read v.items (length v.items) c.args.region c.index_mut.result.now refl within c.index_mut.ensures.value in
    one_more v.items c.args.region other c.index_mut.result.now c.opened.new.self within was c.opened.ensures
    ∙ ap (λ (k : Counts). cond (eqb c.args.region other) (living_in k.items c.args.region + 1) (living_in k.items other)) c.self.view_is
