use Rattle.std.proofs.Common.{◌≡◌, ℤ, FitsSigned, of_z, rules, to_z, w64}
use Rattle.std.proofs.lemmas.Int.{to_z-of_z}
use Rattle.schedule_core.proofs.FramesShown.{held_at}
use Rattle.schedule_core.proofs.machine.Machine.word_at.Goals as goal

pub returns : goal.returns
returns c m s =
    let fits : FitsSigned w64 c.args.address = search rules in
    let same : to_z w64 (of_z w64 c.args.address) ≡ c.args.address = to_z-of_z w64 c.args.address fits in
    held_at c.args.self.now.stage m s c.args.address c.word_in.result (λ z e. c.word_in.ensures z (rw (c.as_slice.ensures.value, same) e))
