use Rattle.std.proofs.Common.{◌≡◌, ◌∙◌, pos, get_or, inl, inr, sym, ap, subst, arith}
use Rattle.std.proofs.lemmas.Bool.{false≢true, cases_eq, cases_lt}
use Rattle.std.proofs.lemmas.List.{get_or_default}
use Rattle.linear_shown.specs.declared.index.Entry.{Entry}
use Rattle.linear_shown.specs.Index.{place_at, IsContradiction}
use Rattle.linear_shown.proofs.Indexing.{past_key}
use Rattle.linear_shown.proofs.index.contradicted_from.Goals as goal

abbrev none : Entry
none = record { key = 0; constant = pos 0; place = 0 }

pub returns-then-other-key : goal.returns-then-other-key
returns-then-other-key c = λ k d no le l is s.
    let es = c.args.entries.now in
    elim (cases_lt k c.loop-k.k) [
      | inl early ↦ c.loop-k.invariant k d le early is s
      | inr late ↦ past_key es c.args.key c.loop-k.k none c.requires.sorted c.loop-k-test.true (c.requires.above c.loop-k.k none c.loop-k.auto.k c.loop-k-test.true) c.if-other-key.true k d late l is
    ]

pub loop-k-preserved : goal.loop-k-preserved
loop-k-preserved c = λ i d le l is s.
    let es = c.args.entries.now in
    let facts = c.args.facts.now in
    elim (cases_eq i c.loop-k.k) [
      | inl e ↦
          let here : get_or es i d ≡ get_or es c.loop-k.k none = ap (λ n. get_or es n d) e ∙ get_or_default es c.loop-k.k d none c.loop-k-test.true in
          false≢true (sym c.if-is_contradiction.false ∙ c.is_contradiction.ensures.1 (subst (λ (x : Entry). IsContradiction (place_at facts c.args.place) (place_at facts x.place)) here s))
      | inr ne ↦ c.loop-k.invariant i d le (omega (arith, l, ne)) is s
    ]
