use Rattle.std.proofs.Common.{rules, of_z, to_z, ◌≡◌, Some, sym, subst}
use Rattle.std.specs.Int.{w64}
use Rattle.std.proofs.lemmas.Int.{to_z-of_z}
use Rattle.schedule_core.specs.Stages.{HoldsGlobals, IsState}
use Rattle.schedule_core.specs.store.declared.outcome.Finished.{Finished}
use Rattle.shared_run.specs.Story.{Origin, Story, origin, reached, state_of}
use Rattle.shared_run.proofs.Stories.{answer, recorded}
use Rattle.shared_run.proofs.board.Board.close.Goals as goal

pub returns-clause-answer : goal.returns-clause-answer
returns-clause-answer g c =
    let o : Origin = origin g.L.Bench.code g.L.Bench.arguments g.L.Bench.memory g.L.Bench.crew in
    let events = c.self.inside.history.events in
    let stage = c.self.inside.machine.stage in
    let m = reached o events in
    let legal = c.self.invariant.0 in
    let here : IsState stage m = legal.replays.state in
    let is : m.core.result ≡ Some c.args.value = subst (λ (s : Story). (state_of s).core.result ≡ Some c.args.value) (sym c.self.view_is) c.requires.ended in
    let globals : HoldsGlobals m stage.memory c.into_memory-memory.result = c.into_memory-memory.ensures m here in
    let peak : c.peak-peak.result ≡ m.core.peak = c.peak-peak.ensures m here in
    let done : c.instructions-instructions.result ≡ m.core.done = c.instructions-instructions.ensures m here in
    let all : Finished = record { result = to_z w64 (of_z w64 c.args.value); memory = c.into_memory-memory.result; instructions = c.instructions-instructions.result; peak = c.peak-peak.result } in
    rw (← c.self.view_is) (answer o events stage legal c.args.value all is (to_z-of_z w64 c.args.value (let fits = c.well_formed in search rules)) globals done peak)

pub returns-clause-replays : goal.returns-clause-replays
returns-clause-replays g c =
    let o : Origin = origin g.L.Bench.code g.L.Bench.arguments g.L.Bench.memory g.L.Bench.crew in
    let events = c.self.inside.history.events in
    let stage = c.self.inside.machine.stage in
    let m = reached o events in
    let legal = c.self.invariant.0 in
    let here : IsState stage m = legal.replays.state in
    let is : m.core.result ≡ Some c.args.value = subst (λ (s : Story). (state_of s).core.result ≡ Some c.args.value) (sym c.self.view_is) c.requires.ended in
    let globals : HoldsGlobals m stage.memory c.into_memory-memory.result = c.into_memory-memory.ensures m here in
    let peak : c.peak-peak.result ≡ m.core.peak = c.peak-peak.ensures m here in
    let done : c.instructions-instructions.result ≡ m.core.done = c.instructions-instructions.ensures m here in
    let all : Finished = record { result = to_z w64 (of_z w64 c.args.value); memory = c.into_memory-memory.result; instructions = c.instructions-instructions.result; peak = c.peak-peak.result } in
    rw (← c.self.view_is) (recorded o events stage legal c.args.value all is (to_z-of_z w64 c.args.value (let fits = c.well_formed in search rules)) globals done peak)
