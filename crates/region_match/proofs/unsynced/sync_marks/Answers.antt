use Rattle.std.proofs.Common.{◌≡◌, ◌∙◌, ◌<◌, length, subst, sym, arith}
use Rattle.region_match.proofs.OpenFacts.{SyncMarks-none, SyncMarks-next}
use Rattle.region_match.proofs.unsynced.sync_marks.Goals as goal

pub loop-block-init : goal.loop-block-init
loop-block-init c = rw c.in_ok-marks.ensures.items (SyncMarks-none c.args.bodies.now c.args.region)

pub loop-block-preserved : goal.loop-block-preserved
loop-block-preserved c = rw c.in_ok-push.ensures.items (SyncMarks-next c.args.bodies.now c.args.region _ _ c.is_sync.result c.loop-block.invariant c.is_sync.ensures)

pub returns-clause-size : goal.returns-clause-size
returns-clause-size c =
    let all : c.loop-block.block ≡ length c.args.bodies.now = omega (arith, c.loop-block-test.false, c.loop-block.auto.block-end) in
    c.loop-block.invariant.size ∙ all

pub returns-clause-exact : goal.returns-clause-exact
returns-clause-exact c = λ b l.
    let all : c.loop-block.block ≡ length c.args.bodies.now = omega (arith, c.loop-block-test.false, c.loop-block.auto.block-end) in
    c.loop-block.invariant.exact b (subst (λ n. b < n) (sym all) l)
