use Rattle.std.proofs.Common.{◌≡◌, ◌<◌, length, ap, arith}
use Rattle.program.specs.declared.function.Function.{Function}
use Rattle.refusal.specs.declared.broken.Broken.{Broken}
use Rattle.region_match.specs.Matched.{IsFunctionBroken}
use Rattle.region_match.proofs.AllTables.{graphs_length, all_length, all_at}
use Rattle.refusal.proofs.Elements.{earliest_next, earliest_all}
use Rattle.region_match.proofs.check.all_faults.Goals as goal

pub bounds-tables-index : goal.bounds-tables-index
bounds-tables-index c =
    let program = c.args.graph.now.program in
    let size : length c.args.graph.now.functions ≡ length program.functions = graphs_length program.functions c.args.graph.now.functions c.args.graph.now.edges in
    let same : length c.as_slice-functions.result.now ≡ length program.functions = ap length c.as_slice-functions.ensures in
    let tables : length c.args.tables.now ≡ length c.args.graph.now.functions = all_length c.args.graph.now.functions c.args.tables.now c.requires in
    omega (arith, c.loop-index-test.true, size, same, tables)

pub function_fault-requires-clause-tasks : goal.function_fault-requires-clause-tasks
function_fault-requires-clause-tasks c =
    let program = c.args.graph.now.program in
    let size : length c.args.graph.now.functions ≡ length program.functions = graphs_length program.functions c.args.graph.now.functions c.args.graph.now.edges in
    let same : length c.as_slice-functions.result.now ≡ length program.functions = ap length c.as_slice-functions.ensures in
    let within : c.loop-index.index < length c.args.graph.now.functions = omega (arith, c.loop-index-test.true, size, same) in
    rw (c.as_slice-blocks.ensures, c.as_slice.ensures, c.as_slice-graphs.ensures) (all_at c.args.graph.now.functions c.args.tables.now c.loop-index.index c.index-graphs-index.result c.index-tables-index.result c.requires within)

pub loop-index-preserved : goal.loop-index-preserved
loop-index-preserved c = earliest_next (λ (f : Function) (b : Broken). IsFunctionBroken f b) c.as_slice-functions.result.now _ c.index-functions-index.result _ _ _ c.loop-index-test.true c.index-functions-index.is c.loop-index.invariant c.in_ok-broken.ensures c.lower-named.ensures

pub returns : goal.returns
returns c = rw c.as_slice-functions.ensures at (earliest_all (λ (f : Function) (b : Broken). IsFunctionBroken f b) c.as_slice-functions.result.now _ _ c.loop-index-test.false c.loop-index.invariant)
