use Rattle.std.proofs.Common.{◌<◌, ℕ, List, length, sym, ap, subst, arith}
use Rattle.program.specs.declared.function.Function.{Function}
use Rattle.refusal.specs.Earliest.{IsEarliest}
use Rattle.ranges.specs.Tables.{IsFunctionTable}
use Rattle.refusal.proofs.Places.{Within, below_next, below_all, read_in}
use Rattle.cost_table.specs.Rules.{IsFunctionBroken}
use Rattle.cost_table.proofs.check.program_fault.Goals as goal

pub function_fault-requires : goal.function_fault-requires
function_fault-requires c =
    let i = c.loop-index.index in
    let function = c.index-functions-index.result in
    let table = c.index-tables-index.result in
    let within : i < length c.as_slice-tables.result.now = omega (arith, c.loop-index-test.true, c.requires.functions, ap length c.as_slice-tables.ensures, ap length c.as_slice-functions.ensures) in
    subst (λ (functions : List Function). IsFunctionTable functions function table) (sym c.as_slice-functions.ensures)
    (c.requires.each i function table (read_in c.as_slice-functions.result.now c.args.program.now.functions i function c.as_slice-functions.ensures c.loop-index-test.true c.index-functions-index.is) (read_in c.as_slice-tables.result.now c.args.facts.now.functions i table c.as_slice-tables.ensures within c.index-tables-index.is))

pub loop-index-preserved : goal.loop-index-preserved
loop-index-preserved c =
    let functions = c.args.program.now.functions in
    let i = c.loop-index.index in
    let function = c.index-functions-index.result in
    below_next (λ (f : ℕ) (x : Function). IsFunctionBroken functions f x) c.as_slice-functions.result.now i function _ _ _ c.loop-index-test.true c.index-functions-index.is c.loop-index.invariant
    (subst (λ (fs : List Function). IsEarliest (IsFunctionBroken fs i function) c.in_ok-broken.broken) c.as_slice-functions.ensures c.in_ok-broken.ensures)
    c.lower-named.ensures

pub returns : goal.returns
returns c =
    subst (λ (functions : List Function). IsEarliest (Within (λ (f : ℕ) (x : Function). IsFunctionBroken c.args.program.now.functions f x) functions) c.loop-index.named) c.as_slice-functions.ensures
    (below_all (λ (f : ℕ) (x : Function). IsFunctionBroken c.args.program.now.functions f x) c.as_slice-functions.result.now _ _ c.loop-index-test.false c.loop-index.invariant)
