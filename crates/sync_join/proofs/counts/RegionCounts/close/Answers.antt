use Rattle.std.proofs.Common.{◌≡◌, ◌<◌, ◌+◌, ◌-◌, ◌∙◌, ℕ, cond, eqb, length, set, length-set, refl, sym, ap, arith}
use Rattle.std.proofs.lemmas.Option.{slice_get_read}
use Rattle.sync_join.specs.Counting.{Counts, busy_by, busy_in, living_in}
use Rattle.sync_join.proofs.Counted.{busy_above, busy_closed, living_at, living_here, one_less}
use Rattle.sync_join.proofs.counts.RegionCounts.close.Goals as goal

pub without_child-self-inside-requires : goal.without_child-self-inside-requires
without_child-self-inside-requires c =
    let v = c.self.inside.counts in
    let same = ap (λ (k : Counts). living_in k.items c.args.region) c.self.view_is in
    let long = ap (λ (k : Counts). length k.items) c.self.view_is in
    let there = c.requires.there in
    let within : c.args.region < length v.items = omega (arith, there, long) in
    let was = slice_get_read v.items (length v.items) c.args.region c.index_mut.result.now refl within c.index_mut.ensures.value in
    let here = living_at v.items c.args.region c.index_mut.result.now was in
    let living = c.requires.living in
    let some = busy_above v.items c.args.region c.index_mut.result.now was (omega (arith, same, here, living)) in
    let busy = c.self.invariant in
    omega (arith, some, busy)

pub invariant_of-self : goal.invariant_of-self
invariant_of-self c =
    let v = c.self.inside.counts in
    let new = c.closed-outcome.new.self in
    let long = ap (λ (k : Counts). length k.items) c.self.view_is in
    let there = c.requires.there in
    let within : c.args.region < length v.items = omega (arith, there, long) in
    let as_long = length-set v.items c.args.region new in
    let inside : c.args.region < length (set v.items c.args.region new) = omega (arith, within, as_long) in
    let was = slice_get_read v.items (length v.items) c.args.region c.index_mut.result.now refl within c.index_mut.ensures.value in
    let after = slice_get_read (set v.items c.args.region new) (length (set v.items c.args.region new)) c.args.region c.index.result.now refl inside c.index.ensures in
    let same : c.index.result.now.living ≡ new.living = sym (living_at (set v.items c.args.region new) c.args.region c.index.result.now after) ∙ living_here v.items c.args.region new within in
    busy_closed v.items c.args.region c.index_mut.result.now new c.without_child-self-inside.result was c.closed-outcome.ensures.counted
    (c.without_child-self-inside.ensures ∙ (ap (λ (n : ℕ). n + busy_by c.index.result.now.living) c.self.invariant ∙ ap (λ (n : ℕ). busy_in v.items + busy_by n) same))

pub returns-clause-counted : goal.returns-clause-counted
returns-clause-counted c = λ other.
    let v = c.self.inside.counts in
    let long = ap (λ (k : Counts). length k.items) c.self.view_is in
    let there = c.requires.there in
    let within : c.args.region < length v.items = omega (arith, there, long) in
    let was = slice_get_read v.items (length v.items) c.args.region c.index_mut.result.now refl within c.index_mut.ensures.value in
    one_less v.items c.args.region other c.index_mut.result.now c.closed-outcome.new.self within was c.closed-outcome.ensures.counted
    ∙ ap (λ (k : Counts). cond (eqb c.args.region other) (living_in k.items c.args.region - 1) (living_in k.items other)) c.self.view_is

pub returns-clause-stalled : goal.returns-clause-stalled
returns-clause-stalled c =
    let v = c.self.inside.counts in
    let long = ap (λ (k : Counts). length k.items) c.self.view_is in
    let there = c.requires.there in
    let within : c.args.region < length v.items = omega (arith, there, long) in
    let here = living_here v.items c.args.region c.closed-outcome.new.self within in
    let is = c.closed-outcome.ensures.stalled in (
      (λ e. let h = is.0 e in (h.0, here ∙ h.1)),
      (λ h. is.1 (h.0, sym here ∙ h.1)),
    )
