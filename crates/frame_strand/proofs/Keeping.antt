-- What the strand's type keeps.
use Rattle.std.proofs.Common.{◌≡◌, ◌≢◌, ℕ, ◌≤◌, length, ap, sym, ◌∙◌, subst, arith, Option, Some, None}
use Rattle.std.specs.Prelude.{vec_capacity, slice_get}
use Rattle.program.specs.declared.function.Program.{Program}
use Rattle.frame_engine.specs.Activation.{FrameFits, ProgramFits}
use Rattle.frame_engine.specs.declared.activation.Frame.{Frame}
use Rattle.frame_engine.specs.declared.activation.Places.{Places}
use Rattle.frame_engine.proofs.Turns.{there_is}
use Rattle.frame_strand.specs.Along.{HasRegisters, HasRoom, IsGoing, IsFrameStrandKept}
use Rattle.frame_strand.specs.declared.standing.Course.{Course}
use Rattle.frame_strand.specs.declared.standing.FrameStrandPause.{FrameStrandPause}

pub frame_room : (prog : Program) (f : Frame) (n : ℕ) → FrameFits prog f → HasRegisters prog n → length f.registers.items ≤ n
frame_room prog f n fits has =
    let (g, at) = there_is prog.functions f.function.0 fits.there in
    let many = fits.registers g at in
    let most = has f.function.0 g at in
    omega (arith, many, most)

pub room_on : (prog : Program) (places : Places) (x y : Course) → length y.moves.items ≡ length x.moves.items → vec_capacity y.loaded.registers ≡ vec_capacity x.loaded.registers →
    vec_capacity y.present.registers ≡ vec_capacity x.present.registers → HasRoom prog places x → HasRoom prog places y
room_on prog places x y moves loaded present room = record {
  fits = subst (ProgramFits prog places) (sym moves) room.fits;
  loaded = subst (HasRegisters prog) (sym loaded) room.loaded;
  present = subst (HasRegisters prog) (sym present) room.present;
}
