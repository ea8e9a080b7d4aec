use Rattle.std.proofs.Common.{ap, ◌≡◌, ◌+◌, ◌∙◌, subst, sym}
use Rattle.serial_stack.specs.declared.stack.Stack.{Stack}
use Rattle.serial_stack.proofs.Detaching.{detach_shown, spared, unboxed_push}
use Rattle.serial_stack.proofs.Texts.{placed}
use Rattle.frame.specs.declared.frame.Wait.TheVariants as wait
use Rattle.frame_engine.specs.declared.activation.Frame.{Frame}
use Rattle.frame_engine.specs.Activation.{ShowsFrame}
use Rattle.serial_stack.proofs.stack.Stack.detach.Goals as goal

pub returns-clause-goes : goal.returns-clause-goes
returns-clause-goes c = λ globals s h can.
    let prog = c.args.program.now in
    let places = c.args.places.now in
    let k = c.fresh.new.self in
    let only = c.in_ok-push.ensures.only in
    let same = c.deref.ensures in
    let parent = c.continue_at.new.self in
    let made = c.in_ok-detach_into.ensures in
    detach_shown globals prog places _ s k c.requires.text (spared globals prog places s c.args.self.now k c.in_ok-child.ensures.only h) can c.args.region c.args.body c.args.continuation (placed globals prog places s c.args.self.now _ h c.requires.item)
    c.detach_into.new.child (made.registers ∙ ap (λ (f : Frame). f.registers.items) same) (made.function ∙ ap (λ (f : Frame). f.function) same)
    (λ l at p g shown. made.shown l at p g (subst (ShowsFrame l at p g) (sym same) shown))
    parent (subst (λ (f : Frame). parent ≡ record f { place = record { block = c.args.continuation; index = 0 }; made = f.made + 1; waits = wait.Nothing }) c.deref_mut.ensures.value c.continue_at.ensures.is)
    (λ l at p g shown. c.continue_at.ensures.shown l at p g (subst (ShowsFrame l at p g) (sym c.deref_mut.ensures.value) shown))
    c.push.new.self (ap (λ (x : Stack). x.top.value) only) (unboxed_push _ _ _ c.in_ok-push.ensures.below) (ap (λ (x : Stack). x.cells) only) (ap (λ (x : Stack). x.end) only)
