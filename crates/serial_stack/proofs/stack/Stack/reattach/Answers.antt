use Rattle.std.proofs.Common.{ap}
use Rattle.std.proofs.Math.Logic.{∥∥₁_elim}
use Rattle.std.proofs.Props.{props}
use Rattle.serial_stack.specs.declared.stack.Stack.{Stack}
use Rattle.serial_stack.specs.StackShown.{unboxed}
use Rattle.serial_stack.proofs.Detaching.{unboxed_push}
use Rattle.serial_stack.proofs.Joining.{emptied, reattach_has, reattach_shown}
use Rattle.serial_stack.proofs.Texts.{placed}
use Rattle.serial_stack.proofs.stack.Stack.reattach.Goals as goal

pub unreachable-requires : goal.unreachable-requires
unreachable-requires c = ∥∥₁_elim c.requires.safe (hlevel props) (λ w.
    reattach_has w.globals c.args.program.now c.args.places.now w.run c.args.self.now w.shown w.can c.args.region c.args.continuation (placed w.globals c.args.program.now c.args.places.now w.run c.args.self.now _ w.shown c.requires.item)
    (emptied c.args.self.now.below c.in-None.ensures.cases.0))

pub returns-clause-goes : goal.returns-clause-goes
returns-clause-goes c = λ globals s h can.
    let only = c.in_ok-go_back_to-in-Some.ensures.only in
    reattach_shown globals c.args.program.now c.args.places.now s c.args.self.now h can c.args.region c.args.continuation (placed globals c.args.program.now c.args.places.now s c.args.self.now _ h c.requires.item)
    c.go_back_to.new.self c.in-Some.parent.value (unboxed c.pop.new.self.items) (unboxed_push _ _ _ c.in-Some.ensures.items) (ap (λ (x : Stack). x.top.value) only) (ap (λ (x : Stack). unboxed x.below.items) only) (ap (λ (x : Stack). x.cells) only) (ap (λ (x : Stack). x.end) only)
