use Rattle.std.proofs.Common.{◌≡◌, length, subst, arith}
use Rattle.refusal.specs.Earliest.{IsEarliest}
use Rattle.ranges.specs.Tables.{IsBlockTable}
use Rattle.ranges.specs.Rules.{IsBlockBroken}
use Rattle.refusal.proofs.Places.{Within, below_nothing, below_next, below_all}
use Rattle.ranges.proofs.Tabling.{tabled_start, tabled_next, function_table}
use Rattle.ranges.proofs.check.function_facts.Goals as goal

pub loop-index-init : goal.loop-index-init
loop-index-init c = (
  tabled_start (IsBlockTable c.args.program.now.functions c.args.function.now) c.as_slice-blocks.result.now _ c.new-tables.ensures.items,
  below_nothing (IsBlockBroken c.args.program.now c.args.function.now) c.as_slice-blocks.result.now,
)

pub loop-index-preserved : goal.loop-index-preserved
loop-index-preserved c =
    let blocks = c.as_slice-blocks.result.now in
    let i = c.loop-index.index in
    let block = c.index-blocks-index.result in (
      tabled_next (IsBlockTable c.args.program.now.functions c.args.function.now) blocks i block c.in_ok-table.table c.loop-index.tables.items _ c.loop-index-test.true c.index-blocks-index.is c.loop-index.invariant.0 c.in_ok-table.ensures.table c.in_ok-push.ensures.items,
      below_next (IsBlockBroken c.args.program.now c.args.function.now) blocks i block _ _ _ c.loop-index-test.true c.index-blocks-index.is c.loop-index.invariant.1 c.in_ok-table.ensures.named c.lower-named.ensures,
    )

pub returns-clause-table : goal.returns-clause-table
returns-clause-table c =
    let end : c.loop-index.index ≡ length c.as_slice-blocks.result.now = omega (arith, c.loop-index-test.false, c.loop-index.auto.index-end) in
    rw c.from_vec.ensures (function_table c.args.program.now.functions c.args.function.now c.as_slice-blocks.result.now c.loop-index.index c.loop-index.tables.items c.as_slice-blocks.ensures end c.loop-index.invariant.0)

pub returns-clause-named : goal.returns-clause-named
returns-clause-named c =
    subst (λ bs. IsEarliest (Within (IsBlockBroken c.args.program.now c.args.function.now) bs) c.loop-index.named) c.as_slice-blocks.ensures
    (below_all (IsBlockBroken c.args.program.now c.args.function.now) c.as_slice-blocks.result.now _ _ c.loop-index-test.false c.loop-index.invariant.1)
