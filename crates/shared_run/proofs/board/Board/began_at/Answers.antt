use Rattle.std.proofs.Common.{◌≡◌, sym, ◌∙◌}
use Rattle.shared_run.specs.Story.{Origin, origin}
use Rattle.shared_run.proofs.Starts.{same_origin}
use Rattle.shared_run.proofs.board.Board.began_at.Goals as goal

pub returns : goal.returns
returns g c =
    let o : Origin = origin g.L.Bench.code g.L.Bench.arguments g.L.Bench.memory g.L.Bench.crew in
    let same : origin c.args.start.now.program c.as_slice.result.now c.handed_in.result.now c.self.inside.workers ≡ o =
    same_origin _ _ _ _ _ _ _ _ c.requires (c.as_slice.ensures.value ∙ c.self.invariant.2) (c.handed_in.ensures ∙ c.self.invariant.0.replays.globals_are) c.self.invariant.3 in
    rw (← c.self.view_is) (λ t. sym same ∙ c.has.ensures.0 t, λ e. c.has.ensures.1 (same ∙ e))
