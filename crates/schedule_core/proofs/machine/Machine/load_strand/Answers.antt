use Rattle.std.proofs.Common.{◌≡◌, Some, List, ℕ, true, sym, ap, ◌∙◌, subst}
use Rattle.std.specs.Option.{option_copied}
use Rattle.cactus.specs.Frames.{node_at}
use Rattle.program.specs.declared.function.Program.{Program}
use Rattle.frame_engine.specs.Activation.{FrameFits}
use Rattle.schedule_workers.specs.declared.run.Block.{Block}
use Rattle.schedule_workers.specs.Lent.{IsFree, IsPartFor}
use Rattle.schedule_workers.specs.Scheduling.{hand_of}
use Rattle.schedule_commit.specs.strand.strand_pages.Logs.{Log}
use Rattle.schedule_commit.specs.strand.Along.{MayBegin}
use Rattle.schedule_commit.specs.strand.Layouts.{Segment}
use Rattle.schedule_commit.specs.strands.Fitting.{HasNoChild, segment_block}
use Rattle.schedule_core.specs.Stages.{program_of}
use Rattle.schedule_core.proofs.Bases.{may_load}
use Rattle.schedule_core.proofs.Loads.{frame_fits}
use Rattle.schedule_core.proofs.StrandSteps.{is_begun}
use Rattle.schedule_core.proofs.StrandTexts.{has_text, loaded_way, tables_by}
use Rattle.schedule_core.proofs.Views.{empty_hand, no_hand}
use Rattle.schedule_core.proofs.machine.Machine.load_strand.Goals as goal

pub load-requires-clause-text : goal.load-requires-clause-text
load-requires-clause-text c =
    let stage = c.args.self.now.stage in
    has_text stage c.args.self.now.kept c.program-program.result.now c.args.code.now c.places.result.now c.program-program.ensures.value c.places.ensures c.requires.code c.program-program.ensures.accepted

pub load-requires-clause-tables : goal.load-requires-clause-tables
load-requires-clause-tables c =
    let stage = c.args.self.now.stage in
    tables_by (program_of stage) c.program-program.result.now c.args.code.now c.places.result.now c.program-program.ensures.value c.places.ensures c.tables.result.now c.tables.ensures c.requires.code

pub load-requires-clause-stands : goal.load-requires-clause-stands
load-requires-clause-stands c =
    let stage = c.args.self.now.stage in
    let slot = c.in-Some.slot in
    let node = c.in-Some-node.node.now in
    let hand : hand_of stage.run.hands.items c.args.worker ≡ Some slot = sym c.hand.ensures.slot ∙ c.in-Some.is in
    let stands : node_at stage.run.cactus slot ≡ Some node = sym c.node.ensures ∙ ap option_copied c.in-Some-node.is in
    subst (λ (q : Program). FrameFits q node.frame.frame) (sym c.program-program.ensures.value) (frame_fits stage c.args.self.now.kept c.args.worker slot node hand stands)

pub returns-clause-begun : goal.returns-clause-begun
returns-clause-begun c here =
    let stage = c.args.self.now.stage in
    let slot = c.in-Some.slot in
    let node = c.in-Some-node.node.now in
    let kept = c.args.self.now.kept in
    let x = c.load.new.self in
    let hand : hand_of stage.run.hands.items c.args.worker ≡ Some slot = sym c.hand.ensures.slot ∙ c.in-Some.is in
    let stands : node_at stage.run.cactus slot ≡ Some node = sym c.node.ensures ∙ ap option_copied c.in-Some-node.is in
    let none : c.has_no_child-childless.result ≡ true → HasNoChild node.frame = c.has_no_child-childless.ensures.0 in
    let path = c.as_slice.ensures in
    let loaded = c.in_ok-load.ensures in
    let part = c.free_part-part.result in
    let is_part : IsPartFor (program_of stage) stage.run c.args.worker part = subst (λ (q : Program). IsPartFor q stage.run c.args.worker part) c.program-program.ensures.value c.free_part-part.ensures in
    let free : IsFree (program_of stage) stage.run part = is_part.free in
    let segment : segment_block x.cells ≡ part = ap (λ (s : Segment). record { start = s.start; cells = s.count }) loaded.segment in
    is_begun stage kept c.args.worker slot node x hand stands (loaded.path ∙ path) loaded.loaded (λ e. none (sym loaded.childless ∙ e)) (λ h. loaded.childless ∙ c.has_no_child-childless.ensures.1 h) loaded.done (λ a. ap (λ (l : Log). l.reads a) loaded.log)
    (subst (λ (b : Block). IsPartFor (program_of stage) stage.run c.args.worker b) (sym segment) is_part)
    (loaded_way stage kept c.program-program.result.now c.args.code.now c.places.result.now c.program-program.ensures.value c.places.ensures c.requires.code
    c.as_slice.result.now node.frame.frame c.has_no_child-childless.result (record { start = part.start; count = part.cells }) x
    (subst (λ (l : List ℕ). ∥ MayBegin (program_of stage) stage.places l node.frame.frame c.has_no_child-childless.result (record { start = part.start; count = part.cells }) ∥₁) (sym path)
    (may_load stage kept c.args.worker slot node hand stands c.has_no_child-childless.result none part free))
    loaded.way)

pub returns-in_default-clause-idle : goal.returns-in_default-clause-idle
returns-in_default-clause-idle c e m state = no_hand c.args.self.now.stage m state c.args.worker (sym c.hand.ensures.slot ∙ c.in_default.is)

pub returns-in_default-node-clause-idle : goal.returns-in_default-node-clause-idle
returns-in_default-node-clause-idle c e m state =
    empty_hand c.args.self.now.stage m state _ c.args.worker c.in-Some.slot (sym c.hand.ensures.slot ∙ c.in-Some.is) (sym c.node.ensures ∙ ap option_copied c.in_default-node.is)
