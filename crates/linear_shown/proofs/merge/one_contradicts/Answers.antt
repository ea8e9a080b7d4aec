use Rattle.std.proofs.Common.{arith}
use Rattle.std.specs.List.{Contains}
use Rattle.std.proofs.lemmas.List.{take_all}
use Rattle.std.proofs.lemmas.List.Elements.{All-more, All-contains}
use Rattle.linear_shown.specs.declared.index.Entry.{Entry}
use Rattle.linear_shown.specs.Index.{place_at, IsContradiction}
use Rattle.linear_shown.proofs.merge.one_contradicts.Goals as goal

pub loop-entry-preserved : goal.loop-entry-preserved
loop-entry-preserved c =
    All-more (λ (e : Entry). (d : Entry) → Contains c.args.entries.now d → IsContradiction (place_at c.args.facts.now e.place) (place_at c.args.facts.now d.place) → ⊥)
    c.args.fresh.now c.loop-entry.entry-index _ c.loop-entry-test.true c.loop-entry.invariant (λ d d_in s. c.contradicts.ensures d c.if-contradicts.false d_in s)

pub returns : goal.returns
returns c = λ e d no e_in d_in s.
    let none : Entry → Type 0 = λ e. (d : Entry) → Contains c.args.entries.now d → IsContradiction (place_at c.args.facts.now e.place) (place_at c.args.facts.now d.place) → ⊥ in
    let all = rw (take_all c.loop-entry.entry-index c.args.fresh.now (omega (arith, c.loop-entry-test.false))) at c.loop-entry.invariant in
    All-contains none c.args.fresh.now e all e_in d d_in s
