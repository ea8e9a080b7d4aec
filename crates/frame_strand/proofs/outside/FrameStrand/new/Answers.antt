use Rattle.std.proofs.Common.{sym, subst, refl}
use Rattle.frame_engine.specs.Activation.{ProgramFits}
use Rattle.frame_strand.specs.Along.{HasRegisters}
use Rattle.frame_strand.proofs.outside.FrameStrand.new.Goals as goal

pub invariant_of-result : goal.invariant_of-result
invariant_of-result c = record {
  kept = ∣ record {
    room = record {
      fits = subst (ProgramFits c.args.program.now c.args.places.now) (sym c.in_ok-course.ensures.moves) (c.requires c.most_registers-registers.result c.most_registers-registers.ensures);
      loaded = subst (HasRegisters c.args.program.now) (sym c.in_ok-course.ensures.loaded) c.most_registers-registers.ensures;
      present = subst (HasRegisters c.args.program.now) (sym c.in_ok-course.ensures.present) c.most_registers-registers.ensures;
    };
    going = λ other. absurd (other refl);
  } ∣₁;
}
