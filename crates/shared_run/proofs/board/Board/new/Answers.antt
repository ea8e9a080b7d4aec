use Rattle.std.proofs.Common.{◌≡◌, [], sym, ap, ◌∙◌, length, subst}
use Rattle.schedule_core.specs.Replaying.{Replays}
use Rattle.schedule_core.specs.store.Made.{IsMadeFor}
use Rattle.shared_run.specs.Story.{Origin, origin}
use Rattle.shared_run.proofs.Starts.{same_origin}
use Rattle.shared_run.proofs.Stories.{legal_begin, legal_start}
use Rattle.shared_run.proofs.board.Board.new.Goals as goal

pub invariant_of-result : goal.invariant_of-result
invariant_of-result g c =
    let stage = c.lend.new.self.stage in
    let memory = c.in_ok-memory.memory in
    let o : Origin = origin c.args.launch.verified.now c.args.launch.arguments.now memory c.args.launch.workers in
    let own : Origin = origin g.L.Bench.code g.L.Bench.arguments g.L.Bench.memory g.L.Bench.crew in
    let same : own ≡ o = sym (same_origin _ _ _ _ _ _ _ _ c.requires.code c.requires.arguments (c.in_ok-memory.ensures.same ∙ c.requires.memory) c.requires.crew) in
    let started = c.in_ok-machine.ensures in
    let replays = c.lend.ensures.as_before.replays c.args.launch.verified.now c.args.launch.arguments.now memory c.args.launch.workers [] started.replays in
    let made : IsMadeFor c.args.launch.verified.now memory = subst (λ m. IsMadeFor c.args.launch.verified.now m) (sym c.in_ok-memory.ensures.same) c.requires.made in (
      legal_begin o own c.new-history.result.events stage same c.new-history.ensures.events
          (legal_start o stage replays started.admitted.1 c.program-accepted.ensures.accepted started.admitted.0 made),
      c.open-book.ensures.total ∙ sym (ap length c.new-history.ensures.events),
      c.in-Ok.ensures.items ∙ c.requires.arguments,
      c.requires.crew,
    )

pub returns-clause-begins : goal.returns-clause-begins
returns-clause-begins g c =
    let verified = c.args.launch.verified.now in
    let arguments = c.args.launch.arguments.now in
    let workers = c.args.launch.workers in
    let memory = c.in_ok-memory.memory in
    let replays = c.lend.ensures.as_before.replays verified arguments memory workers [] c.in_ok-machine.ensures.replays in
    record {
      start = sym (same_origin _ _ _ _ _ _ _ _ c.requires.code c.requires.arguments c.requires.memory c.requires.crew);
      events = c.new-history.ensures.events;
      stage = subst (λ m. Replays verified arguments m workers [] c.lend.new.self.stage) c.in_ok-memory.ensures.same replays;
    }
