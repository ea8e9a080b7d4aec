use Rattle.std.proofs.Common.{subst, sym}
use Rattle.program.specs.declared.function.Program.{Program}
use Rattle.schedule_commit.specs.strand.Along.{IsUnderWay}
use Rattle.schedule_core.proofs.strands.fill_strand_ahead.Goals as goal

pub fill_ahead-requires-clause-way : goal.fill_ahead-requires-clause-way
fill_ahead-requires-clause-way c = subst (λ (q : Program). ∥ IsUnderWay q c.args.places.now c.args.strand.now ∥₁) (sym c.program.ensures.value) c.requires.way
