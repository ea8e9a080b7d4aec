use Rattle.schedule_core.proofs.machine.Machine.copy.Goals as goal

pub copied-requires : goal.copied-requires
copied-requires c = c.args.self.now.kept

pub invariant_of-result : goal.invariant_of-result
invariant_of-result c = record { kept = c.in_ok-stage.ensures.machine }
