use Rattle.std.proofs.Common.{◌≡◌, ℕ, subst}
use Rattle.schedule_core.specs.declared.stage.Stage.{Stage}
use Rattle.schedule_core.specs.Strands.{IsBegun}
use Rattle.shared_run.proofs.board.Board.fetch_base.Goals as goal

pub returns-in-Ok-true : goal.returns-in-Ok-true
returns-in-Ok-true g c =
    let begun = c.in-Ok-true.ensures.begun c.in-Ok-true.field-0-test in
    let strand = c.load.new.self.strand in (
      begun.0,
      subst (λ (s : Stage). IsBegun s c.args.seat.now.worker strand) c.machine.ensures.stage
          (subst (λ (w : ℕ). IsBegun c.machine.result.now.stage w strand) c.worker.ensures.value begun.1),
    )
