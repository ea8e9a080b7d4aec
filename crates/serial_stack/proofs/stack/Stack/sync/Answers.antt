use Rattle.std.proofs.Common.{◌≡◌, ◌∙◌, ap, refl, sym, subst, length, List, ℤ, Some, slice_get}
use Rattle.std.specs.Box.{with_value}
use Rattle.std.specs.Vec.{with_items}
use Rattle.program.specs.declared.function.Function.{Function}
use Rattle.frame_engine.specs.declared.activation.Frame.{Frame}
use Rattle.frame_engine.specs.Activation.{ShowsFrame}
use Rattle.frame_engine.specs.Fits.{EdgeFits}
use Rattle.frame_engine.specs.Names.{sizes}
use Rattle.frame_engine.proofs.Texts.{sync_edge}
use Rattle.serial_stack.proofs.Joining.{sync_shown}
use Rattle.serial_stack.proofs.Texts.{placed}
use Rattle.serial_stack.proofs.stack.Stack.sync.Goals as goal

pub sync-requires-clause-edge : goal.sync-requires-clause-edge
sync-requires-clause-edge c =
    let program = c.args.program.now in
    subst (λ (x : Frame). (f : Function) → slice_get program.functions x.function.0 ≡ Some f → EdgeFits (sizes (length x.registers.items) 0 0) (length c.as_mut_slice.result.now) x.place.block.0 f.blocks c.args.target.0) (sym c.deref_mut.ensures.value)
    (λ f is. sync_edge program c.args.places.now _ _ c.args.self.now.top.value f c.args.region c.args.target c.requires.text.fits c.requires.stands (ap (λ (xs : List ℤ). length xs) c.as_mut_slice.ensures.value) c.requires.item is)

pub returns-clause-goes : goal.returns-clause-goes
returns-clause-goes c = λ globals s h can.
    let same = c.deref_mut.ensures.value in
    let only = c.sync.ensures.only in
    sync_shown globals c.args.program.now c.args.places.now s c.args.self.now h can _ c.requires.text c.args.region c.args.target (placed globals c.args.program.now c.args.places.now s c.args.self.now _ h c.requires.item)
    (record c.args.self.now { top = with_value c.args.self.now.top c.sync.new.self; moves = with_items c.args.self.now.moves c.sync.new.moves })
    (ap (λ (x : Frame). x.function) only ∙ ap (λ (x : Frame). x.function) same) (ap (λ (x : Frame). x.home) only ∙ ap (λ (x : Frame). x.home) same)
    (c.sync.ensures.registers ∙ ap (λ (x : Frame). length x.registers.items) same)
    (λ l at p g rs shown. c.sync.ensures.shown l at p g rs (subst (ShowsFrame l at p g) (sym same) shown)) refl refl refl
