use Rattle.std.proofs.Common.{◌≡◌, length, ap, sym, ◌∙◌}
use Rattle.cfg.proofs.EdgeLists.{length-edges_from}
use Rattle.region_match.proofs.Mixing.{tasks_judged}
use Rattle.region_match.proofs.label.function_tasks.Goals as goal

pub mixed_fault-named-requires-clause-size : goal.mixed_fault-named-requires-clause-size
mixed_fault-named-requires-clause-size c =
    let size : length c.args.blocks.now ≡ length c.args.function.now.blocks = ap length c.requires ∙ length-edges_from c.args.function.now.blocks 0 c.args.function.now.blocks in
    ap length c.deref-2.ensures.value ∙ c.in_ok-marks.ensures.size ∙ size ∙ ap length (sym c.as_slice-bodies.ensures)

pub mixed_fault-named-requires-clause-blocks : goal.mixed_fault-named-requires-clause-blocks
mixed_fault-named-requires-clause-blocks c =
    let size : length c.args.blocks.now ≡ length c.args.function.now.blocks = ap length c.requires ∙ length-edges_from c.args.function.now.blocks 0 c.args.function.now.blocks in
    size ∙ ap length (sym c.as_slice-bodies.ensures)

pub returns : goal.returns
returns c = rw c.from_vec-tasks.ensures (tasks_judged c.args.function.now _ _ _ _ _ c.as_slice-bodies.ensures c.requires c.in_ok-tasks.ensures (rw c.deref.ensures.value at c.in_ok-marks.ensures.innermost) (rw c.deref-2.ensures.value at c.mixed_fault-named.ensures))
