use Rattle.std.proofs.Common.{◌≡◌, ◌≤◌, Some, List, length, ℕ, sym, ap, ◌∙◌, subst}
use Rattle.std.specs.Prelude.{vec_capacity}
use Rattle.std.specs.Option.{option_copied}
use Rattle.program.specs.declared.function.Program.{Program}
use Rattle.cactus.specs.Frames.{node_at}
use Rattle.frame_engine.specs.Activation.{FrameFits}
use Rattle.frame_engine.specs.declared.activation.Places.{Places}
use Rattle.schedule_commit.specs.frame_strand.Along.{MayBegin}
use Rattle.schedule_workers.specs.Scheduling.{hand_of}
use Rattle.schedule_core.specs.Stages.{program_of}
use Rattle.schedule_core.proofs.Commits.{same_places}
use Rattle.schedule_core.proofs.Loads.{frame_fits, going_not_blank, is_loaded, may_begin, path_fits}
use Rattle.schedule_core.proofs.machine.Machine.load_frame_strand.Goals as goal

pub load-requires-clause-stands : goal.load-requires-clause-stands
load-requires-clause-stands c =
    let stage = c.args.self.now.stage in
    let node = c.in-Some-node.node.now in
    let hand : hand_of stage.run.hands.items c.args.worker ≡ Some c.in-Some.slot = sym c.hand.ensures.slot ∙ c.in-Some.is in
    let stands : node_at stage.run.cactus c.in-Some.slot ≡ Some node = sym c.node.ensures ∙ ap option_copied c.in-Some-node.is in
    subst (λ (q : Program). FrameFits q node.frame.frame) (sym c.requires.made.module_is) (frame_fits stage c.args.self.now.kept c.args.worker c.in-Some.slot node hand stands)

pub load-requires-clause-goes : goal.load-requires-clause-goes
load-requires-clause-goes c =
    let stage = c.args.self.now.stage in
    let node = c.in-Some-node.node.now in
    let hand : hand_of stage.run.hands.items c.args.worker ≡ Some c.in-Some.slot = sym c.hand.ensures.slot ∙ c.in-Some.is in
    let stands : node_at stage.run.cactus c.in-Some.slot ≡ Some node = sym c.node.ensures ∙ ap option_copied c.in-Some-node.is in
    let places : c.args.strand.now.places.now ≡ stage.places = same_places stage c.args.self.now.kept c.args.strand.now.places.now c.requires.made.places_are in
    subst (λ (q : Program). ∥ MayBegin q c.args.strand.now.places.now c.as_slice-path.result.now node.frame.frame ∥₁) (sym c.requires.made.module_is)
    (subst (λ (q : Places). ∥ MayBegin (program_of stage) q c.as_slice-path.result.now node.frame.frame ∥₁) (sym places)
    (subst (λ (l : List ℕ). ∥ MayBegin (program_of stage) stage.places l node.frame.frame ∥₁) (sym c.as_slice-path.ensures)
    (may_begin stage c.args.self.now.kept c.args.worker c.in-Some.slot node hand stands)))

pub load-requires-clause-room : goal.load-requires-clause-room
load-requires-clause-room c =
    let stage = c.args.self.now.stage in
    let node = c.in-Some-node.node.now in
    let room = vec_capacity c.args.strand.now.course.path in
    let hand : hand_of stage.run.hands.items c.args.worker ≡ Some c.in-Some.slot = sym c.hand.ensures.slot ∙ c.in-Some.is in
    let stands : node_at stage.run.cactus c.in-Some.slot ≡ Some node = sym c.node.ensures ∙ ap option_copied c.in-Some-node.is in
    subst (λ (l : List ℕ). length l ≤ room) (sym c.as_slice-path.ensures)
    (path_fits stage c.args.self.now.kept c.args.worker c.in-Some.slot node hand stands room c.requires.made.room)

pub returns-clause-loaded : goal.returns-clause-loaded
returns-clause-loaded c here =
    let stage = c.args.self.now.stage in
    let node = c.in-Some-node.node.now in
    let hand : hand_of stage.run.hands.items c.args.worker ≡ Some c.in-Some.slot = sym c.hand.ensures.slot ∙ c.in-Some.is in
    let stands : node_at stage.run.cactus c.in-Some.slot ≡ Some node = sym c.node.ensures ∙ ap option_copied c.in-Some-node.is in
    is_loaded stage c.args.worker c.in-Some.slot node c.load.new.self hand stands (c.load.ensures.path ∙ c.as_slice-path.ensures) c.load.ensures.loaded c.load.ensures.done c.load.ensures.reads
    (going_not_blank _ _ _ _ c.load.ensures.going)
