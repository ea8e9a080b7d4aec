use Rattle.std.proofs.Common.{◌≡◌, ◌<◌, length, map, ap, sym, ◌∙◌, arith}
use Rattle.cfg.specs.declared.structure.FunctionGraph.{FunctionGraph}
use Rattle.cfg.specs.Edges.{graph_of}
use Rattle.region_match.proofs.AllTables.{graph_at, graphs_length, Tabling-none, Tabling-next, tabling_all}
use Rattle.region_match.proofs.check.all_tasks.Goals as goal

pub loop-index-preserved : goal.loop-index-preserved
loop-index-preserved c =
    let size : length c.as_slice-graphs.result.now ≡ length c.args.graph.now.program.functions = graphs_length c.args.graph.now.program.functions c.as_slice-graphs.result.now (c.as_slice-graphs.ensures ∙ c.args.graph.now.edges) in
    let same : length c.as_slice-functions.result.now ≡ length c.args.graph.now.program.functions = ap length c.as_slice-functions.ensures in
    let within : c.loop-index.index < length c.as_slice-graphs.result.now = omega (arith, c.loop-index-test.true, size, same) in
    let read : c.as_slice.result.now ≡ c.index-graphs-index.result.blocks = c.as_slice.ensures ∙ ap (λ (g : FunctionGraph). g.blocks) (sym c.index-graphs-index.is) in
    rw c.in_ok-push.ensures.items (Tabling-next c.as_slice-functions.result.now c.as_slice-graphs.result.now _ c.index-functions-index.result c.index-graphs-index.result _ _ _ _ _ c.loop-index-test.true c.index-functions-index.is within c.index-graphs-index.is c.loop-index.invariant (rw read at c.in_ok-table.ensures) c.lower-named.ensures)

pub returns : goal.returns
returns c =
    let program = c.args.graph.now.program in
    let size : length c.args.graph.now.functions ≡ length program.functions = graphs_length program.functions c.args.graph.now.functions c.args.graph.now.edges in
    tabling_all program c.args.graph.now.functions _ _ _ (rw c.as_slice-functions.ensures at c.loop-index-test.false) size (rw (c.as_slice-functions.ensures, c.as_slice-graphs.ensures) at c.loop-index.invariant)

pub loop-index-init : goal.loop-index-init
loop-index-init c = rw c.new-tables.ensures.items (Tabling-none _ _)

pub bounds-graphs-index : goal.bounds-graphs-index
bounds-graphs-index c =
    let size : length c.as_slice-graphs.result.now ≡ length c.args.graph.now.program.functions = graphs_length c.args.graph.now.program.functions c.as_slice-graphs.result.now (c.as_slice-graphs.ensures ∙ c.args.graph.now.edges) in
    let same : length c.as_slice-functions.result.now ≡ length c.args.graph.now.program.functions = ap length c.as_slice-functions.ensures in
    omega (arith, c.loop-index-test.true, size, same)

pub function_tasks-requires : goal.function_tasks-requires
function_tasks-requires c =
    let made : c.as_slice-graphs.result.now ≡ map graph_of c.as_slice-functions.result.now = c.as_slice-graphs.ensures ∙ c.args.graph.now.edges ∙ ap (map graph_of) (sym c.as_slice-functions.ensures) in
    let graph : c.index-graphs-index.result ≡ graph_of c.index-functions-index.result = graph_at c.as_slice-functions.result.now c.as_slice-graphs.result.now c.loop-index.index c.index-functions-index.result c.index-graphs-index.result made c.loop-index-test.true c.index-functions-index.is c.index-graphs-index.is in
    c.as_slice.ensures ∙ ap (λ (g : FunctionGraph). g.blocks) (sym c.index-graphs-index.is ∙ graph)
