use Rattle.std.proofs.Common.{◌∙◌, sym}
use Rattle.std.proofs.lemmas.Bool.{eqb-true, not-false}
use Rattle.std.proofs.lemmas.List.{nil_from_length, take_all}
use Rattle.ranges.specs.Tables.{with_known}
use Rattle.footprints.proofs.Passing.{nothing_goes_on}
use Rattle.footprints.proofs.pass.has_passing.Goals as goal

pub returns : goal.returns
returns c = λ known nothing.
    let no_foot = sym c.child_foot.ensures ∙ nil_from_length c.child_foot.result.now (eqb-true _ _ (sym c.is_empty.ensures ∙ not-false c.is_empty.result nothing)) in
    nothing_goes_on c.args.blocks.now c.args.pending.now c.args.terminator.now (with_known known c.args.edge.now)
    (rw (take_all c.loop-item.item-index c.args.pending.now c.loop-item-test.false) at c.loop-item.invariant) no_foot
