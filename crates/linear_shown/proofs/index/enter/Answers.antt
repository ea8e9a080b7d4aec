use Rattle.std.proofs.Common.{◌≡◌, ◌∙◌, ◌≤ℤ◌, ◌<◌, ltb, length, get_or, sym, refl, subst, arith, rules}
use Rattle.std.proofs.lemmas.Bool.{ltb-true, ltb-false}
use Rattle.std.proofs.lemmas.List.{get_or_default}
use Rattle.std.proofs.lemmas.List.Sorted.{IsPartitionPoint-from_clause, IsPartitionedBy-ltb}
use Rattle.linear_shown.specs.declared.index.Entry.{Entry}
use Rattle.linear_shown.specs.Index.{place_at}
use Rattle.linear_shown.proofs.Indexing.{joined_same, joined_set, joined_insert}
use Rattle.linear_shown.proofs.index.enter.Goals as goal

pub returns-then-is_below : goal.returns-then-is_below
returns-then-is_below c =
    let es = c.args.entries.now.items in
    let entry = c.args.entry in
    let within : c.in-Some.k < length es = rw c.as_slice.ensures.value at c.in-Some.ensures.within in
    let same = (rw c.as_slice.ensures.value at c.in-Some.ensures.same) entry in
    let it : get_or es c.in-Some.k entry ≡ c.index.result.now = get_or_default es c.in-Some.k entry c.index.result.now within ∙ sym c.index.ensures in
    joined_set c.args.facts.now es entry c.in-Some.k c.requires.entries c.requires.entry within same.0 same.1
    (subst (λ (x : Entry). (place_at c.args.facts.now entry.place).constant ≤ℤ (place_at c.args.facts.now x.place).constant) (sym it) (c.if-is_below.ensures.less refl))

pub returns-else-is_below : goal.returns-else-is_below
returns-else-is_below c =
    let es = c.args.entries.now.items in
    let entry = c.args.entry in
    let within : c.in-Some.k < length es = rw c.as_slice.ensures.value at c.in-Some.ensures.within in
    let same = (rw c.as_slice.ensures.value at c.in-Some.ensures.same) entry in
    let it : get_or es c.in-Some.k entry ≡ c.index.result.now = get_or_default es c.in-Some.k entry c.index.result.now within ∙ sym c.index.ensures in
    joined_same c.args.facts.now es entry c.in-Some.k c.requires.entries within same.1
    (subst (λ (x : Entry). (place_at c.args.facts.now x.place).constant ≤ℤ (place_at c.args.facts.now entry.place).constant) (sym it) (c.if-is_below.ensures.more refl))

pub returns-in_ok-insert-in-None : goal.returns-in_ok-insert-in-None
returns-in_ok-insert-in-None c =
    let es = c.args.entries.now.items in
    let point = IsPartitionPoint-from_clause (λ (e : Entry). ltb e.key c.args.entry.key) _ _ c.partition_point-from.ensures.partitioned (IsPartitionedBy-ltb (λ (e : Entry). e.key) c.deref.result.now c.args.entry.key (rw c.deref.ensures.value c.requires.entries.sorted)) (λ a r q k. search rules) in
    let before = rw c.deref.ensures.value at point.0 in
    let after = rw c.deref.ensures.value at point.1 in
    let grown = joined_insert c.args.facts.now es c.args.entry c.partition_point-from.result c.requires.entries c.requires.entry (rw c.deref.ensures.value at c.partition_point-from.ensures.bound)
    (λ k d l. omega (arith, ltb-true _ _ (before k d (omega arith) l)))
    (λ k d le l. ltb-false _ _ (after k d le l)) in
    rw c.in_ok-insert-in-None.ensures.items grown
