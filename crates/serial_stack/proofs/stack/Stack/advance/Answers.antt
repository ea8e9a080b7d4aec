use Rattle.std.proofs.Common.{◌≡◌, refl, sym, subst}
use Rattle.std.proofs.Math.Logic.{∥∥₁_map}
use Rattle.std.specs.Box.{with_value}
use Rattle.std.specs.Vec.{with_items}
use Rattle.frame_engine.specs.declared.activation.Frame.{Frame}
use Rattle.frame_engine.specs.Activation.{ShowsFrame}
use Rattle.serial_stack.specs.Layouts.{frames_of, layout_of}
use Rattle.serial_stack.proofs.Leading.{advanced, standing}
use Rattle.serial_stack.proofs.stack.Stack.advance.Goals as goal

pub advance-requires-clause-safe : goal.advance-requires-clause-safe
advance-requires-clause-safe c = ∥∥₁_map c.requires.safe (standing c.args.program.now c.args.places.now c.args.self.now c.deref_mut.result.now c.deref_mut.ensures.value)

pub returns-clause-led : goal.returns-clause-led
returns-clause-led c = λ globals s h stays.
    let same = c.deref_mut.ensures.value in
    let new = c.advance.new.self in
    advanced globals c.args.program.now c.args.places.now s c.args.self.now (record c.args.self.now { top = with_value c.args.self.now.top new; cells = c.advance.new.cells; moves = with_items c.args.self.now.moves c.advance.new.moves }) _ _ h c.advance.ensures.stands
    (subst (λ (f : Frame). new ≡ record f { place = new.place; registers = new.registers }) same c.advance.ensures.only) refl refl
    (c.advance.ensures.led (layout_of globals c.args.program.now (frames_of s)) s.path s.frame s.memory (subst (ShowsFrame _ c.args.places.now s.path s.frame) (sym same) h.top.shown) h.cells stays)
