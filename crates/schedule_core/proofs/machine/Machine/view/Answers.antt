use Rattle.std.proofs.Common.{refl, sym, ap, ◌∙◌}
use Rattle.std.specs.Option.{option_copied}
use Rattle.program.specs.declared.function.Program.{Program}
use Rattle.schedule_core.specs.declared.task.Status.{Status}
use Rattle.schedule_core.specs.Lines.{line_by, line_or_zero}
use Rattle.schedule_core.specs.Viewed.{status_by}
use Rattle.schedule_core.proofs.machine.Machine.view.Goals as goal

pub returns-clause-shown : goal.returns-clause-shown
returns-clause-shown c =
    let a = c.in_ok-node.node.now.frame in
    record {
      below = c.in_ok-path.field-0.now;
      stands_below = sym c.node.ensures ∙ ap option_copied c.in_ok-path.was;
      path = refl;
      above = c.in_ok-node.node.now;
      stands_above = sym c.node-2.ensures ∙ ap option_copied c.in_ok-node.was;
      top = refl;
      top_path = refl;
      status = c.standing.ensures;
      line = c.line.ensures
          ∙ (ap (λ (q : Program). line_or_zero (line_by q a.frame a.stalled_in (status_by a.runner a.frame.waits))) c.program.ensures.value ∙ ap (λ (s : Status). line_or_zero (line_by c.args.self.now.stage.verified.now a.frame a.stalled_in s)) (sym c.standing.ensures));
    }
