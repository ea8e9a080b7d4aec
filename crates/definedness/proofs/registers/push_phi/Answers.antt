use Rattle.definedness.specs.RegisterActs.{entry_needs}
use Rattle.definedness.proofs.Needs.{one_more}
use Rattle.definedness.proofs.Reading.{entry_taken, entry_passed}
use Rattle.definedness.proofs.registers.push_phi.Goals.{then-entry-from+in_ok-push_operand, else-entry-from}
use Rattle.definedness.proofs.registers.push_phi.Goals as goal

pub loop-entry-preserved : goal.loop-entry-preserved
loop-entry-preserved c =
    elim c.if-entry-from.branch [
      | then-entry-from+in_ok-push_operand w ↦ rw w.acts-is (one_more (entry_needs c.args.from c.args.line) _ _ _ _ _ _ c.loop-entry-test.true c.loop-entry.invariant (entry_taken _ _ _ _ _ w.if-entry-from.true w.in_ok-push_operand.ensures))
      | else-entry-from w ↦ rw w.acts-is (one_more (entry_needs c.args.from c.args.line) _ _ _ _ _ _ c.loop-entry-test.true c.loop-entry.invariant (entry_passed _ _ _ _ w.if-entry-from.false))
    ]
