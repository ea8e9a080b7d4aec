use Rattle.std.proofs.Common.{arith}
use Rattle.region_match.proofs.Labelling.{labels_skip, labels_set, read_seen}
use Rattle.region_match.proofs.task.label_targets.Goals.{then-to-len+then-not-is_reached+in_ok-push, else-to-len, else-to-len-via-then-to-len+else-not-is_reached, else-to-len-via-else-to-len}
use Rattle.region_match.proofs.task.label_targets.Goals as goal

pub loop-edge-preserved : goal.loop-edge-preserved
loop-edge-preserved c =
    let e = c.edge-item.result in
    elim c.if-to-len.branch [
      | then-to-len+then-not-is_reached+in_ok-push w ↦
          let within = rw (c.len.ensures, c.loop-edge.tasks.ok.0) at w.if-to-len.true in
          rw (w.tasks-is, w.work-is, w.in_ok-push.ensures.items, w.task_behind.ensures) (labels_set c.args.from c.args.edges.now _ e c.args.task _ _ _ _ c.loop-edge-test.true c.edge-item.is c.loop-edge.invariant c.requires within (read_seen _ _ _ _ _ within w.index.ensures w.is_reached.ensures w.if-not-is_reached.true))
      | else-to-len w ↦ elim w.else-to-len.branch [
        | else-to-len-via-then-to-len+else-not-is_reached w' ↦
            let within = rw (c.len.ensures, c.loop-edge.tasks.ok.0) at w'.if-to-len.true in
            rw (w.tasks-is, w.work-is) (labels_skip c.args.from c.args.edges.now _ e c.args.task _ _ _ _ c.loop-edge-test.true c.edge-item.is c.loop-edge.invariant (λ l. read_seen _ _ _ _ _ within w'.index.ensures w'.is_reached.ensures w'.if-not-is_reached.false))
        | else-to-len-via-else-to-len w' ↦
            let past = rw (c.len.ensures, c.loop-edge.tasks.ok.0) at w'.if-to-len.false in
            rw (w.tasks-is, w.work-is) (labels_skip c.args.from c.args.edges.now _ e c.args.task _ _ _ _ c.loop-edge-test.true c.edge-item.is c.loop-edge.invariant (λ l. absurd (omega (arith, past, l, c.loop-edge.invariant.size))))
      ]
    ]
