use Rattle.std.proofs.Common.{suc, arith}
use Rattle.region_match.proofs.FunctionFacts.{blocks_size}
use Rattle.definedness.proofs.Undefined.{unsure_named}
use Rattle.definedness.proofs.check.alloca_fault.Goals as goal

pub alloca_rows-requires-clause-size : goal.alloca_rows-requires-clause-size
alloca_rows-requires-clause-size c = blocks_size c.args.function.now _ _ c.requires.blocks c.as_slice.ensures

pub returns : goal.returns
returns c = unsure_named c.args.function.now c.args.blocks.now c.as_slice.result.now c.in_ok-table.table.items c.deref.result.now c.deref-2.result.now c.deref-5.result.now c.in_ok-all.all.items c.deref-3.result.now c.in_ok-rows.rows.items c.deref-4.result.now (suc c.greatest_needed-greatest.result) _ c.requires.blocks c.as_slice.ensures c.in_ok-table.ensures c.deref.ensures.value c.deref-2.ensures.value c.deref-5.ensures.value c.in_ok-all.ensures c.deref-3.ensures.value c.deref-4.ensures.value c.greatest_needed-greatest.ensures (λ n b l w. c.in_ok-rows.ensures n b (omega (arith, l)) w) c.in_ok-table_fault.ensures
