use Rattle.std.proofs.Common.{rules, sym, subst, ℤ, FitsSigned}
use Rattle.std.specs.Int.{w64}
use Rattle.std.proofs.lemmas.Int.{to_z-of_z}
use Rattle.program.specs.declared.function.Program.{Program}
use Rattle.schedule_commit.specs.strand.Going.{IsGoing}
use Rattle.schedule_commit.specs.strand.declared.going.StrandPause.TheVariants.{Need}
use Rattle.schedule_core.proofs.strands.fill_strand.Goals as goal

pub fill-requires : goal.fill-requires
fill-requires c =
    let fit : FitsSigned w64 c.args.at = search rules in
    record {
      few = c.requires.few;
      going = subst (λ (z : ℤ). ∥ IsGoing c.program.result.now c.args.places.now c.args.strand.now (Need z) ∥₁) (sym (to_z-of_z w64 c.args.at fit))
          (subst (λ (q : Program). ∥ IsGoing q c.args.places.now c.args.strand.now (Need c.args.at) ∥₁) (sym c.program.ensures.value) c.requires.going);
    }
