use Rattle.std.proofs.Common.{◌≡◌, sym, subst}
use Rattle.std.specs.Prelude.{IfOk}
use Rattle.program.specs.declared.function.Program.{Program}
use Rattle.schedule_core.specs.frame_engine.Fits.{HasMoves}
use Rattle.schedule_core.specs.frame_engine.Activation.{ProgramFits}
use Rattle.schedule_core.proofs.Grounds.{laws}
use Rattle.shared_run.proofs.Made.{made_new}
use Rattle.shared_run.proofs.outside.blank_frame_strand.Goals as goal

pub new-requires : goal.new-requires
new-requires c moves has =
    subst (λ (q : Program). ProgramFits q c.args.places.now moves) (sym c.program.ensures.value)
    (laws.texts_fit c.args.verified.now c.program.ensures.accepted c.args.places.now c.requires moves (subst (λ (q : Program). HasMoves q moves) c.program.ensures.value has)).fits

pub returns-clause-made : goal.returns-clause-made
returns-clause-made c =
    made_new c.args.verified.now c.args.places.now c.depth.result c.new.result c.depth.ensures c.requires
    (subst (λ (q : Program). IfOk c.new.result (λ s. s.program.now ≡ q)) c.program.ensures.value c.new.ensures.program) c.new.ensures.places c.new.ensures.depth
