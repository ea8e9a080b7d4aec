use Rattle.std.proofs.Common.{◌∙◌, ℕ, pos, ◌<◌, ◌-◌, length, get_or, inl, inr, sym, subst, arith}
use Rattle.std.proofs.lemmas.Bool.{false≢true, cases_lt, cases_eq}
use Rattle.std.proofs.lemmas.List.Elements.{Contains-get_or}
use Rattle.linear_shown.specs.declared.index.Entry.{Entry}
use Rattle.linear_shown.specs.Shown.{IsSum}
use Rattle.linear_shown.specs.Index.{place_at}
use Rattle.linear_shown.proofs.Passing.{run_ends, at_entries}
use Rattle.linear_shown.proofs.lookup.is_made_up.Goals as goal

abbrev none : Entry
none = record { key = 0; constant = pos 0; place = 0 }

pub returns-then-second-last-clause-none : goal.returns-then-second-last-clause-none
returns-then-second-last-clause-none c = λ d k no l same sum. elim (cases_lt k c.loop-count.count) [
  | inl early ↦ run_ends c.args.pass.now.seconds.now c.loop-count.count c.args.upto k none none d c.requires.seconds.sorted c.loop-count.invariant.0 c.requires.upto c.if-second-last.true early same
  | inr late ↦ c.loop-count.invariant.1 k d late l sum
]

pub returns-then-is_sum-clause-made : goal.returns-then-is_sum-clause-made
returns-then-is_sum-clause-made c = λ h.
    let xs = c.args.pass.now.firsts.now in
    let ys = c.args.pass.now.seconds.now in
    let at = c.args.upto - 1 in
    let within : at < length ys = omega (arith, c.requires.some, c.requires.upto) in
    (get_or xs c.args.first none, Contains-get_or xs c.args.first none c.requires.first, get_or ys at none, Contains-get_or ys at none within, c.is_sum.ensures.0 c.if-is_sum.true)

pub loop-count-init : goal.loop-count-init
loop-count-init c =
    let facts = c.args.search.now.facts.now in
    let xs = c.args.pass.now.firsts.now in
    let ys = c.args.pass.now.seconds.now in
    let at = c.args.upto - 1 in
    let within : at < length ys = omega (arith, c.requires.some, c.requires.upto) in (
      omega arith,
      λ k d le l sum. false≢true (sym c.if-is_sum.false ∙ c.is_sum.ensures.1 (at_entries facts c.args.search.now.form.now xs ys c.args.pass.now.a c.args.pass.now.b c.args.first at d d none none c.requires.first within
          (subst (λ (n : ℕ). IsSum c.args.search.now.form.now c.args.pass.now.a (place_at facts (get_or xs c.args.first d).place) c.args.pass.now.b (place_at facts (get_or ys n d).place)) (omega (arith, le, l)) sum))),
    )

pub returns-then-is_sum-2-clause-made : goal.returns-then-is_sum-2-clause-made
returns-then-is_sum-2-clause-made c = λ h.
    let xs = c.args.pass.now.firsts.now in
    let ys = c.args.pass.now.seconds.now in
    let at = c.loop-count.count - 1 in
    let within : at < length ys = omega (arith, c.loop-count-test.true, c.loop-count.invariant.0, c.requires.upto) in
    (get_or xs c.args.first none, Contains-get_or xs c.args.first none c.requires.first, get_or ys at none, Contains-get_or ys at none within, c.is_sum-in-loop-count.ensures.0 c.if-is_sum-2.true)

pub loop-count-preserved : goal.loop-count-preserved
loop-count-preserved c =
    let facts = c.args.search.now.facts.now in
    let xs = c.args.pass.now.firsts.now in
    let ys = c.args.pass.now.seconds.now in
    let at = c.loop-count.count - 1 in
    let within : at < length ys = omega (arith, c.loop-count-test.true, c.loop-count.invariant.0, c.requires.upto) in (
      omega (arith, c.loop-count.invariant.0),
      λ k d le l sum. elim (cases_eq k at) [
        | inl e ↦ false≢true (sym c.if-is_sum-2.false ∙ c.is_sum-in-loop-count.ensures.1 (at_entries facts c.args.search.now.form.now xs ys c.args.pass.now.a c.args.pass.now.b c.args.first at d d none none c.requires.first within
            (subst (λ (n : ℕ). IsSum c.args.search.now.form.now c.args.pass.now.a (place_at facts (get_or xs c.args.first d).place) c.args.pass.now.b (place_at facts (get_or ys n d).place)) e sum)))
        | inr ne ↦ c.loop-count.invariant.1 k d (omega (arith, le, ne)) l sum
      ],
    )

pub returns-clause-none : goal.returns-clause-none
returns-clause-none c = λ d k no l same sum. c.loop-count.invariant.1 k d (omega (arith, c.loop-count-test.false)) l sum
