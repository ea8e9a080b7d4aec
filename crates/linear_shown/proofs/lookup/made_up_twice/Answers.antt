use Rattle.std.proofs.Common.{◌≡◌, ◌<◌, ◌≤◌, ◌-◌, ◌*◌, ◌/◌, ℕ, List, sym, subst, leb, ltb, length, get_or, take, drop, ap, arith, rules}
use Rattle.std.proofs.lemmas.Bool.{leb-false, ltb-true}
use Rattle.std.proofs.lemmas.List.{take_all, length-drop}
use Rattle.std.proofs.lemmas.List.Sorted.{IsPartitionPoint-from_clause, IsPartitionedBy-leb, IsPartitionedBy-ltb}
use Rattle.linear_shown.specs.declared.index.Entry.{Entry}
use Rattle.linear_shown.specs.Index.{IsMadeUpBetween}
use Rattle.linear_shown.proofs.Slices.{from_front, from_back, are_taken, are_left}
use Rattle.linear_shown.proofs.Passing.{between_more, halved}
use Rattle.linear_shown.proofs.lookup.made_up_twice.Goals as goal

pub returns : goal.returns
returns c =
    let facts = c.args.search.now.facts.now in
    let e = c.args.search.now.form.now in
    let es = c.args.entries.now in
    let a = c.args.a in
    let total = c.total_of.result in
    let upto = c.partition_point-upto.result in
    let from = c.partition_point-from.result in
    let back : take (length es - from) (drop from es) ≡ drop from es = take_all (length es - from) (drop from es) (omega (arith, length-drop from es)) in
    let middle = total / (c.from.result * 2) in
    let is : middle ≡ total / (a * 2) = ap (λ (n : ℕ). total / (n * 2)) c.from.ensures in
    let upper = IsPartitionPoint-from_clause (λ (x : Entry). leb x.key middle) _ _ c.partition_point-upto.ensures.partitioned (IsPartitionedBy-leb (λ (x : Entry). x.key) es middle c.requires.entries.sorted) (λ a r q k. search rules) in
    let lower = IsPartitionPoint-from_clause (λ (x : Entry). ltb x.key middle) _ _ c.partition_point-from.ensures.partitioned (IsPartitionedBy-ltb (λ (x : Entry). x.key) es middle c.requires.entries.sorted) (λ a r q k. search rules) in
    let above : (k : ℕ) (d : Entry) → upto ≤ k → k < length es → total / (a * 2) < (get_or es k d).key = λ k d le l. rw is at (leb-false _ _ (upper.1 k d le l)) in
    let below : (k : ℕ) (d : Entry) → k < from → (get_or es k d).key < total / (a * 2) = λ k d l. rw is at (ltb-true _ _ (lower.0 k d (omega arith) l)) in (
      λ h. between_more facts e (take upto es) (drop from es) es es a a (from_front upto es) (from_back from es)
          (subst (λ (ys : List Entry). IsMadeUpBetween facts e (take upto es) ys a a) back (c.made_up_between.ensures.0 h)),
      λ made. c.made_up_between.ensures.1 (subst (λ (ys : List Entry). IsMadeUpBetween facts e (take upto es) ys a a) (sym back)
          (halved facts e es c.requires.entries a c.args.search.now.key total upto from c.requires.key c.requires.some c.total_of.ensures c.partition_point-upto.ensures.bound above below made)),
    )

pub made_up_between-requires-clause-firsts : goal.made_up_between-requires-clause-firsts
made_up_between-requires-clause-firsts c = are_taken c.args.search.now.facts.now _ c.args.entries.now c.requires.entries

pub made_up_between-requires-clause-seconds : goal.made_up_between-requires-clause-seconds
made_up_between-requires-clause-seconds c = are_taken c.args.search.now.facts.now _ _ (are_left c.args.search.now.facts.now _ c.args.entries.now c.requires.entries)
