use Rattle.std.proofs.Common.{◌≡◌, ◌∙◌, Option, Some, sym, ap}
use Rattle.std.specs.Prelude.{slice_get}
use Rattle.program.specs.declared.function.Function.{Function}
use Rattle.cost_table.specs.Tables.{depth_in}
use Rattle.cost_table.proofs.Rows.{row_depth, row_none}
use Rattle.cost_table.proofs.table.Table.depth.Goals as goal

pub returns-in-Some : goal.returns-in-Some
returns-in-Some c = λ program regions is.
    let row : slice_get c.args.self.now.functions c.args.function ≡ Some c.in-Some.entry.now = sym c.in-Some.ensures in
    c.depth.ensures ∙ row_depth program regions c.args.self.now c.args.function c.in-Some.entry.now c.args.measure is row

pub returns-in-None : goal.returns-in-None
returns-in-None c = λ program regions is. ap (λ (o : Option Function). depth_in program regions c.args.function o c.args.measure) (sym (row_none program regions c.args.self.now c.args.function is (sym c.in-None.ensures)))
