use Rattle.std.proofs.Common.{◌≡◌, ◌∙◌, ℕ, ◌++◌, ◌∷◌, [], List, sym, ap, length, arith}
use Rattle.std.specs.Prelude.{slice_get}
use Rattle.program.specs.declared.function.Function.{Function}
use Rattle.ranges.proofs.Tabling.{tabled_start, tabled_next}
use Rattle.refusal.proofs.Places.{read_at}
use Rattle.cost_table.specs.Tables.{IsEntry, IsEntryOver}
use Rattle.cost_table.proofs.Rows.{over_depths, depths_next, whole_table}
use Rattle.cost_table.proofs.table.make_table.Goals as goal

pub loop-index-init : goal.loop-index-init
loop-index-init c = record {
  depths = c.new-depths.ensures.items;
  rows = tabled_start (IsEntry c.args.program.now c.args.regions.now) c.as_slice-functions.result.now c.new-entries.result.items c.new-entries.ensures.items;
}

pub loop-index-preserved : goal.loop-index-preserved
loop-index-preserved c =
    let i = c.loop-index.index in
    let function = c.index-functions-index.result in
    let entry = c.entry_of-entry.result in
    let over : IsEntryOver c.as_slice.result.now i c.tasks_of.result.now function entry = c.entry_of-entry.ensures in
    let row = over_depths c.args.program.now c.args.regions.now i function entry c.as_slice.result.now (c.as_slice.ensures.value ∙ c.loop-index.invariant.depths) (rw c.tasks_of.ensures at over) in
    let here = ap (λ (fs : List Function). slice_get fs i) (sym c.as_slice-functions.ensures) ∙ read_at c.as_slice-functions.result.now i function c.loop-index-test.true c.index-functions-index.is in
    record {
      depths = depths_next c.args.program.now c.args.regions.now i function entry c.loop-index.depths.items c.push.new.self.items here c.loop-index.invariant.depths row
          (c.in_ok-push.ensures.items ∙ ap (λ (n : ℕ). c.loop-index.depths.items ++ n ∷ []) c.whole_depth.ensures);
      rows = tabled_next (IsEntry c.args.program.now c.args.regions.now) c.as_slice-functions.result.now i function entry c.loop-index.entries.items _ c.loop-index-test.true c.index-functions-index.is c.loop-index.invariant.rows row c.in_ok-push-2.ensures.items;
    }

pub returns : goal.returns
returns c =
    let end : c.loop-index.index ≡ length c.as_slice-functions.result.now = omega (arith, c.loop-index-test.false, c.loop-index.auto.index-end) in
    rw c.from_vec.ensures (whole_table c.args.program.now c.args.regions.now c.as_slice-functions.result.now c.loop-index.index c.loop-index.entries.items c.as_slice-functions.ensures end c.loop-index.invariant.rows)
