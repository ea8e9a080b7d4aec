use Rattle.std.proofs.Common.{◌≡◌, true}
use Rattle.definedness.specs.declared.act.BlockActs.{BlockActs}
use Rattle.definedness.specs.Needs.{IsBlockBroken}
use Rattle.definedness.specs.Marks.{mark_at}
use Rattle.refusal.proofs.Places.{below_next, below_all}
use Rattle.definedness.proofs.judge.table_fault.Goals as goal

pub loop-index-preserved : goal.loop-index-preserved
loop-index-preserved c = below_next (λ b (block : BlockActs). IsBlockBroken (λ n. mark_at c.args.rows.now n b ≡ true) c.args.rule block.acts) c.args.table.now _ c.index-table-index.result _ _ _ c.loop-index-test.true c.index-table-index.is c.loop-index.invariant (rw c.as_slice.ensures at c.in_ok-broken.ensures) c.lower-named.ensures

pub returns : goal.returns
returns c = below_all (λ b (block : BlockActs). IsBlockBroken (λ n. mark_at c.args.rows.now n b ≡ true) c.args.rule block.acts) c.args.table.now _ _ c.loop-index-test.false c.loop-index.invariant
