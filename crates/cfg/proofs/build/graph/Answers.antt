use Rattle.std.proofs.Common.{Some, None, ◌∙◌}
use Rattle.refusal.specs.Earliest.{IsJudged}
use Rattle.cfg.specs.Rules.{IsGraphRight, IsGraphBroken}
use Rattle.cfg.proofs.Programs.{Judging-none, Judging-next, graphs_all, judged_all}
use Rattle.cfg.proofs.build.graph.Goals as goal

pub loop-function-init : goal.loop-function-init
loop-function-init c = rw c.new-functions.ensures.items (Judging-none _)

pub loop-function-preserved : goal.loop-function-preserved
loop-function-preserved c =
    rw c.in_ok-push.ensures.items (Judging-next _ _ c.function-item.result _ _ _ _ _
    (rw c.as_slice-function-items.ensures at c.loop-function-test.true)
    (rw c.as_slice-function-items.ensures at c.function-item.is)
    c.loop-function.invariant c.in_ok-made.ensures c.in_ok-broken.ensures c.lower-named.ensures)

pub invariant_of-result : goal.invariant_of-result
invariant_of-result c =
    let program = c.args.program in
    let past = rw c.as_slice-function-items.ensures at c.loop-function-test.false in
    let all : IsJudged (IsGraphRight program) (IsGraphBroken program) c.loop-function.named = judged_all program _ _ _ past c.loop-function.invariant in
    let here : IsJudged (IsGraphRight program) (IsGraphBroken program) None = rw c.in-None.is at all in
    record {
      edges = c.from_vec.ensures ∙ graphs_all program _ _ _ past c.loop-function.invariant;
      right = ∣ here.0 ∣₁;
    }

pub returns-in-Some-clause-fault : goal.returns-in-Some-clause-fault
returns-in-Some-clause-fault c =
    let program = c.args.program in
    let all : IsJudged (IsGraphRight program) (IsGraphBroken program) c.loop-function.named = judged_all program _ _ _ (rw c.as_slice-function-items.ensures at c.loop-function-test.false) c.loop-function.invariant in
    let here : IsJudged (IsGraphRight program) (IsGraphBroken program) (Some c.in-Some.broken) = rw c.in-Some.is at all in
    rw c.into.ensures here

pub returns-in-None-clause-right : goal.returns-in-None-clause-right
returns-in-None-clause-right c =
    let program = c.args.program in
    let all : IsJudged (IsGraphRight program) (IsGraphBroken program) c.loop-function.named = judged_all program _ _ _ (rw c.as_slice-function-items.ensures at c.loop-function-test.false) c.loop-function.invariant in
    let here : IsJudged (IsGraphRight program) (IsGraphBroken program) None = rw c.in-None.is at all in
    here.0
