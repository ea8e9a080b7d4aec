use Rattle.std.proofs.Common.{Option, subst}
use Rattle.linear.specs.declared.form.RegisterId.{RegisterId}
use Rattle.semantics.specs.State.{resumed}
use Rattle.frame_engine.specs.Activation.{ShowsFrame}
use Rattle.schedule_workers.proofs.activation.Activation.take_result.Goals as goal

pub returns-clause-shown : goal.returns-clause-shown
returns-clause-shown c = λ l places p g shown.
    subst (λ (r : Option RegisterId). ShowsFrame l places p (resumed g r c.args.number) c.resume.new.self) c.taker-register.ensures (c.resume.ensures.shown l places p g shown)
