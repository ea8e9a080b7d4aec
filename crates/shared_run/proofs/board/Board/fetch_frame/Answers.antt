use Rattle.std.proofs.Common.{◌≡◌, ℕ, None, false, ap, ◌∙◌, sym, subst}
use Rattle.program.specs.declared.function.Program.{Program}
use Rattle.semantics.specs.Events.{Machine}
use Rattle.schedule_core.specs.declared.stage.Stage.{Stage}
use Rattle.schedule_core.specs.Stages.{IsState, program_of}
use Rattle.schedule_core.specs.FrameStrands.{IsMadeOf}
use Rattle.shared_run.specs.Story.{state_of}
use Rattle.shared_run.proofs.board.Board.fetch_frame.Goals as goal

pub load_frame_strand-requires-clause-made : goal.load_frame_strand-requires-clause-made
load_frame_strand-requires-clause-made g c =
    let m = c.machine in
    let same = ap program_of m.ensures.stage ∙ (m.ensures.legal.replays.program ∙ m.ensures.code) in
    subst (λ (q : Program). IsMadeOf q c.args.strand.now) (sym same) c.requires.made

pub returns-then-load_frame_strand-clause-made : goal.returns-then-load_frame_strand-clause-made
returns-then-load_frame_strand-clause-made g c =
    let m = c.machine in
    let same = ap program_of m.ensures.stage ∙ (m.ensures.legal.replays.program ∙ m.ensures.code) in
    subst (λ (q : Program). IsMadeOf q c.load_frame_strand.new.strand) same c.load_frame_strand.ensures.made

pub returns-else-load_frame_strand-clause-fetches : goal.returns-else-load_frame_strand-clause-fetches
returns-else-load_frame_strand-clause-fetches g c =
    let off : c.load_frame_strand.result ≡ false = c.if-load_frame_strand.false in
    let m : Machine = state_of c.args.self.now in
    let state : IsState c.machine.result.now.stage m =
    subst (λ (stage : Stage). IsState stage m) (sym c.machine.ensures.stage) c.machine.ensures.legal.replays.state in (
      c.load_frame_strand.ensures.not_loaded off,
      c.requires.blank,
      subst (λ (w : ℕ). m.hands w ≡ None) c.worker-worker.ensures.value (c.load_frame_strand.ensures.idle off m state),
    )
