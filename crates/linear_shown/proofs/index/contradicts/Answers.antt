use Rattle.std.proofs.Common.{◌≡◌, ◌∙◌, ◌-◌, ltb, get_or, inl, inr, sym, ap, subst, arith, rules}
use Rattle.std.proofs.lemmas.Bool.{ltb-true, ltb-false, cases_lt}
use Rattle.std.proofs.lemmas.List.Elements.{All-contains}
use Rattle.std.proofs.lemmas.List.Sorted.{IsPartitionPoint-from_clause, IsPartitionedBy-ltb}
use Rattle.linear_shown.specs.declared.index.Entry.{Entry}
use Rattle.linear_shown.specs.Index.{place_at, IsEntry, IsContradiction}
use Rattle.linear_shown.proofs.Indexing.{contradiction_keys}
use Rattle.linear_shown.proofs.index.contradicts.Goals as goal

pub contradicted_from-requires-clause-above : goal.contradicted_from-requires-clause-above
contradicted_from-requires-clause-above c = λ k d le l.
    let wanted = 2535301200456458802993406410752 - c.args.entry.key in
    let point = IsPartitionPoint-from_clause (λ (e : Entry). ltb e.key wanted) _ _ c.partition_point-from.ensures.partitioned (IsPartitionedBy-ltb (λ (e : Entry). e.key) c.args.entries.now wanted c.requires.sorted) (λ a r q k. search rules) in
    ltb-false _ _ (point.1 k d le l)

pub returns : goal.returns
returns c = λ d no d_in s.
    let facts = c.args.facts.now in
    let es = c.args.entries.now in
    let wanted = 2535301200456458802993406410752 - c.args.entry.key in
    let point = IsPartitionPoint-from_clause (λ (e : Entry). ltb e.key wanted) _ _ c.partition_point-from.ensures.partitioned (IsPartitionedBy-ltb (λ (e : Entry). e.key) c.args.entries.now wanted c.requires.sorted) (λ a r q k. search rules) in
    let own = All-contains (IsEntry facts) es d c.requires.own d_in in
    let keys = contradiction_keys (place_at facts c.args.entry.place) (place_at facts d.place) c.args.entry.key d.key c.requires.entry.key own.key s in
    let there : get_or es d_in.0 d ≡ d = d_in.2 in
    let key_is : (get_or es d_in.0 d).key ≡ wanted = ap (λ (x : Entry). x.key) there ∙ omega (arith, keys) in
    elim (cases_lt d_in.0 c.partition_point-from.result) [
      | inl early ↦ absurd (omega (arith, key_is, ltb-true _ _ (point.0 d_in.0 d (omega arith) early)))
      | inr late ↦ c.contradicted_from.ensures d_in.0 d no late d_in.1 key_is (subst (λ (x : Entry). IsContradiction (place_at facts c.args.entry.place) (place_at facts x.place)) (sym there) s)
    ]
