use Rattle.types.proofs.Programs.{program_apart, program_kept}
use Rattle.types.proofs.check.check_types.Goals as goal

pub invariant_of-result : goal.invariant_of-result
invariant_of-result c = record { meant = ∣ (c.args.whole, c.in_ok-program.ensures) ∣₁ }

pub returns-clause-apart : goal.returns-clause-apart
returns-clause-apart c = program_apart c.args.whole c.in_ok-program.program c.in_ok-program.ensures

pub returns-clause-kept : goal.returns-clause-kept
returns-clause-kept c = program_kept c.args.whole c.in_ok-program.program c.in_ok-program.ensures
