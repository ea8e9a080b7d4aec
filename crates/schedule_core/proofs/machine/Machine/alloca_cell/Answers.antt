use Rattle.std.proofs.Common.{◌≡◌, ◌<◌, ℤ, FitsSigned, None, of_z, rules, slice_get, subst, to_z, w64}
use Rattle.std.proofs.lemmas.Int.{to_z-of_z}
use Rattle.frame_engine.specs.Activation.{allocas_of}
use Rattle.frame_engine.specs.declared.activation.Places.{Places}
use Rattle.schedule_core.specs.FrameViews.{IsAddressIn, IsHeldAt}
use Rattle.schedule_core.proofs.FramesShown.{alloca_held, gone_held, none_held}
use Rattle.schedule_core.proofs.machine.Machine.alloca_cell.Goals as goal

pub returns-in_err-view : goal.returns-in_err-view
returns-in_err-view c m s =
    let a = c.args in
    rw c.from_residual.ensures (gone_held a.self.now.stage m a.path.now a.alloca a.index (c.in_err-view.ensures.absent m s))

pub returns-in_err-address : goal.returns-in_err-address
returns-in_err-address c m s =
    let a = c.args in
    rw c.from_residual-in_err-address.ensures (none_held a.self.now.stage m a.path.now c.in_ok-view.view a.alloca a.index (c.in_ok-view.ensures.shown m s)
    (subst (λ (p : Places). slice_get (allocas_of p c.in_ok-view.view.frame.now.function.0) a.alloca ≡ None) c.places.ensures c.in_err-address.ensures.none))

pub returns : goal.returns
returns c m s =
    let a = c.args in
    let at = c.in_ok-address.address in
    let low : a.index < 18446744073709551616 = search rules in
    let fits : FitsSigned w64 at = search rules in
    let same : to_z w64 (of_z w64 at) ≡ at = to_z-of_z w64 at fits in
    let held : IsHeldAt a.self.now.stage m at c.word_at.result = subst (λ (z : ℤ). IsHeldAt a.self.now.stage m z c.word_at.result) same (c.word_at.ensures m s) in
    alloca_held a.self.now.stage m a.path.now c.in_ok-view.view a.alloca a.index at c.word_at.result (c.in_ok-view.ensures.shown m s) low (subst (λ (p : Places). IsAddressIn p c.in_ok-view.view.frame.now a.alloca a.index at) c.places.ensures c.in_ok-address.ensures.address) held
