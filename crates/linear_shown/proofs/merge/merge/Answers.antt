use Rattle.std.proofs.Common.{◌≡◌, ◌∙◌, pos, ◌≤◌, ◌++◌, ◌+◌, false, take, drop, get_or, leb, sym, ap, arith, rules}
use Rattle.std.specs.List.{Contains}
use Rattle.std.proofs.lemmas.Bool.{leb-false}
use Rattle.std.proofs.lemmas.List.{length-drop, get_or-drop, take_all}
use Rattle.std.proofs.lemmas.List.Sorted.{IsPartitionPoint-from_clause, IsPartitionedBy-leb}
use Rattle.linear_shown.specs.declared.index.Entry.{Entry}
use Rattle.linear_shown.proofs.Merging.{merging_poured, merging_entered, all_merged, all_kept, all_entered}
use Rattle.linear_shown.proofs.merge.merge.Goals as goal

abbrev none : Entry
none = record { key = 0; constant = pos 0; place = 0 }

pub enter-requires-clause-entries : goal.enter-requires-clause-entries
enter-requires-clause-entries c =
    let poured = merging_poured c.args.facts.now c.args.entries.now _ c.loop-entry.rest.now c.loop-entry.all.items c.partition_point-upto.result c.loop-entry.invariant in
    rw (c.in_ok-extend_from_slice.ensures.items, c.split_at.ensures.front) poured.in_order

pub loop-entry-preserved : goal.loop-entry-preserved
loop-entry-preserved c =
    let facts = c.args.facts.now in
    let fresh = c.args.fresh.now in
    let rest = c.loop-entry.rest.now in
    let upto = c.partition_point-upto.result in
    let at = c.loop-entry.entry-index in
    let poured = merging_poured facts c.args.entries.now (take at fresh) rest c.loop-entry.all.items upto c.loop-entry.invariant in
    let joined = rw (c.in_ok-extend_from_slice.ensures.items, c.split_at.ensures.front) at c.in_ok-enter.ensures in
    let point = IsPartitionPoint-from_clause (λ (e : Entry). leb e.key (get_or fresh at none).key) _ _ c.partition_point-upto.ensures.partitioned
    (IsPartitionedBy-leb (λ (e : Entry). e.key) rest (get_or fresh at none).key c.loop-entry.invariant.waiting.sorted) (λ a r q k. search rules) in
    let before : (e : Entry) → Contains (drop upto rest) e → (get_or fresh at none).key ≤ e.key = λ e (k, l, is).
    let later : leb (get_or rest (upto + k) e).key (get_or fresh at none).key ≡ false = point.1 (upto + k) e (omega arith) (omega (arith, l, length-drop upto rest)) in
    let there : get_or rest (upto + k) e ≡ e = sym (get_or-drop upto rest k e) ∙ is in
    let key_is : (get_or rest (upto + k) e).key ≡ e.key = ap (λ (x : Entry). x.key) there in
    omega (arith, leb-false _ _ later, key_is) in
    rw c.split_at.ensures.back
    (merging_entered facts c.args.entries.now fresh (drop upto rest) (c.loop-entry.all.items ++ take upto rest) c.enter.new.entries.items at none c.loop-entry-test.true poured joined before)

pub returns-clause-entries : goal.returns-clause-entries
returns-clause-entries c =
    rw c.in_ok-extend_from_slice-2.ensures.items
    (all_merged c.args.facts.now c.args.entries.now _ c.loop-entry.rest.now c.loop-entry.all.items c.loop-entry.invariant)

pub returns-clause-kept : goal.returns-clause-kept
returns-clause-kept c =
    rw c.in_ok-extend_from_slice-2.ensures.items
    (all_kept c.args.facts.now c.args.entries.now _ c.loop-entry.rest.now c.loop-entry.all.items c.loop-entry.invariant)

pub returns-clause-entered : goal.returns-clause-entered
returns-clause-entered c =
    let invariant = rw (take_all c.loop-entry.entry-index c.args.fresh.now (omega (arith, c.loop-entry-test.false))) at c.loop-entry.invariant in
    rw c.in_ok-extend_from_slice-2.ensures.items
    (all_entered c.args.facts.now c.args.entries.now c.args.fresh.now c.loop-entry.rest.now c.loop-entry.all.items invariant)
