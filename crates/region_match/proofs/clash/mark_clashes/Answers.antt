use Rattle.std.proofs.Common.{sym, ◌∙◌, arith}
use Rattle.std.proofs.lemmas.Bool.{true≢false}
use Rattle.region_match.proofs.Clashes.{clash_skip, clash_mark, clash_all}
use Rattle.region_match.proofs.clash.mark_clashes.Goals.{then-to-tasks+then-not-is_same, else-to-tasks, else-to-tasks-via-then-to-tasks+else-not-is_same, else-to-tasks-via-else-to-tasks}
use Rattle.region_match.proofs.clash.mark_clashes.Goals as goal

pub loop-edge-preserved : goal.loop-edge-preserved
loop-edge-preserved c =
    let e = c.edge-item.result in
    elim c.if-to-tasks.branch [
      | then-to-tasks+then-not-is_same w ↦
          rw w.marks-is (clash_mark c.args.from c.args.edges.now _ e c.args.tasks.now _ _ c.loop-edge-test.true c.edge-item.is c.loop-edge.invariant
          (omega (arith, w.if-to-tasks.true, c.loop-edge.invariant.size, c.requires.marks))
          (c.requires.seen, λ same. true≢false (sym (w.is_same.ensures.1 (same ∙ sym w.task_behind.ensures)) ∙ w.if-not-is_same.true)))
      | else-to-tasks w ↦ elim w.else-to-tasks.branch [
        | else-to-tasks-via-then-to-tasks+else-not-is_same w' ↦
            rw w.marks-is (clash_skip c.args.from c.args.edges.now _ e c.args.tasks.now _ _ c.loop-edge-test.true c.edge-item.is c.loop-edge.invariant (λ l clash. clash.1 (w'.is_same.ensures.0 w'.if-not-is_same.false ∙ w'.task_behind.ensures)))
        | else-to-tasks-via-else-to-tasks w' ↦
            rw w.marks-is (clash_skip c.args.from c.args.edges.now _ e c.args.tasks.now _ _ c.loop-edge-test.true c.edge-item.is c.loop-edge.invariant (λ l clash. absurd (omega (arith, l, w'.if-to-tasks.false))))
      ]
    ]

pub returns-clause-exact : goal.returns-clause-exact
returns-clause-exact c = clash_all _ _ _ _ _ _ c.loop-edge-test.false c.loop-edge.invariant
