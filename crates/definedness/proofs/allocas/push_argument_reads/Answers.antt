use Rattle.definedness.specs.AllocaActs.{argument_read}
use Rattle.definedness.proofs.Needs.{one_more}
use Rattle.definedness.proofs.Reading.{object_taken, number_passed}
use Rattle.definedness.proofs.allocas.push_argument_reads.Goals.{in-Object+in_ok-push_read, in_default}
use Rattle.definedness.proofs.allocas.push_argument_reads.Goals as goal

pub loop-argument-preserved : goal.loop-argument-preserved
loop-argument-preserved c =
    elim c.match-argument.branch [
      | in-Object+in_ok-push_read w ↦ rw w.acts-is (one_more (argument_read c.args.line) _ _ _ _ _ _ c.loop-argument-test.true c.loop-argument.invariant (object_taken _ _ _ _ _ w.in-Object.is w.in_ok-push_read.ensures))
      | in_default w ↦ rw w.acts-is (one_more (argument_read c.args.line) _ _ _ _ _ _ c.loop-argument-test.true c.loop-argument.invariant (number_passed _ _ _ _ w.in_default.is))
    ]
