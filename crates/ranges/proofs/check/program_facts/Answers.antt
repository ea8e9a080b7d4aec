use Rattle.std.proofs.Common.{◌≡◌, ℕ, length, subst, arith}
use Rattle.std.specs.List.{Any}
use Rattle.program.specs.declared.function.Function.{Function}
use Rattle.refusal.specs.declared.broken.Broken.{Broken}
use Rattle.refusal.specs.Earliest.{IsEarliest}
use Rattle.refusal.proofs.Elements.{earliest_none, earliest_next, earliest_all}
use Rattle.ranges.specs.Tables.{IsFunctionTable}
use Rattle.ranges.specs.Rules.{IsFunctionBroken}
use Rattle.ranges.proofs.Tabling.{tabled_start, tabled_next, program_table}
use Rattle.ranges.proofs.check.program_facts.Goals as goal

pub loop-function-init : goal.loop-function-init
loop-function-init c = (
  tabled_start (λ (i : ℕ) (f : Function). IsFunctionTable c.args.program.now.functions f) c.as_slice-functions.result.now _ c.new-tables.ensures.items,
  earliest_none (λ (f : Function) (b : Broken). IsFunctionBroken c.args.program.now f b) c.as_slice-functions.result.now,
)

pub loop-function-preserved : goal.loop-function-preserved
loop-function-preserved c =
    let functions = c.as_slice-functions.result.now in
    let i = c.loop-function.function-index in
    let function = c.function-item.result in (
      tabled_next (λ (i : ℕ) (f : Function). IsFunctionTable c.args.program.now.functions f) functions i function c.in_ok-table.table c.loop-function.tables.items _ c.loop-function-test.true c.function-item.is c.loop-function.invariant.0 c.in_ok-table.ensures.table c.in_ok-push.ensures.items,
      earliest_next (λ (f : Function) (b : Broken). IsFunctionBroken c.args.program.now f b) functions i function _ _ _ c.loop-function-test.true c.function-item.is c.loop-function.invariant.1 c.in_ok-table.ensures.named c.lower-named.ensures,
    )

pub returns-clause-facts : goal.returns-clause-facts
returns-clause-facts c =
    let end : c.loop-function.function-index ≡ length c.as_slice-functions.result.now = omega (arith, c.loop-function-test.false, c.loop-function.auto.function-index-end) in
    rw c.from_vec.ensures (program_table c.args.program.now c.as_slice-functions.result.now c.loop-function.function-index c.loop-function.tables.items c.as_slice-functions.ensures end c.loop-function.invariant.0)

pub returns-clause-named : goal.returns-clause-named
returns-clause-named c =
    subst (λ fs. IsEarliest (λ b. Any (λ f. IsFunctionBroken c.args.program.now f b) fs) c.loop-function.named) c.as_slice-functions.ensures
    (earliest_all (λ (f : Function) (b : Broken). IsFunctionBroken c.args.program.now f b) c.as_slice-functions.result.now _ _ c.loop-function-test.false c.loop-function.invariant.1)
