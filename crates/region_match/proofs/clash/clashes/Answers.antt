use Rattle.std.proofs.Common.{sym, ◌∙◌}
use Rattle.region_match.proofs.Labelling.{edges_item}
use Rattle.region_match.proofs.Clashes.{AllClashMarks-skip, AllClashMarks-next, AllClashMarks-all}
use Rattle.region_match.proofs.clash.clashes.Goals.{then-is_reached, else-is_reached}
use Rattle.region_match.proofs.clash.clashes.Goals as goal

pub loop-from-preserved : goal.loop-from-preserved
loop-from-preserved c =
    elim c.if-is_reached.branch [
      | then-is_reached w ↦ rw w.marks-is (AllClashMarks-next _ _ _ _ _ _ c.requires (edges_item c.args.blocks.now _ c.index-blocks-from.result _ c.loop-from-test.true c.index-blocks-from.is w.as_slice.ensures) c.loop-from.invariant w.mark_clashes.ensures.size w.mark_clashes.ensures.exact)
      | else-is_reached w ↦ rw w.marks-is (AllClashMarks-skip _ _ _ _ (sym c.is_reached.ensures ∙ w.if-is_reached.false) c.loop-from.invariant)
    ]

pub returns-clause-exact : goal.returns-clause-exact
returns-clause-exact c = AllClashMarks-all _ _ _ _ c.loop-from-test.false c.loop-from.invariant
