use Rattle.std.proofs.Common.{◌≡◌, ◌+◌, ◌<◌, Some, length, refl, arith, sym, subst}
use Rattle.std.specs.Box.{with_value}
use Rattle.std.proofs.Math.Logic.{∥∥₁_map}
use Rattle.program.specs.declared.instruction.Instruction.TheVariants as instruction
use Rattle.frame_engine.specs.declared.activation.Frame.{Frame}
use Rattle.frame_engine.specs.Activation.{ShowsFrame, allocas_of, bases_in}
use Rattle.frame_engine.specs.Flat.{cell_in, is_cell}
use Rattle.frame_engine.specs.Names.{HasObject, sizes}
use Rattle.frame_engine.specs.Shows.{IsSafe}
use Rattle.frame_engine.proofs.Texts.{clear_names}
use Rattle.serial_stack.proofs.Leading.{clear_safe, clear_shown}
use Rattle.serial_stack.proofs.stack.Stack.clear.Goals as goal

pub clear-requires-clause-there : goal.clear-requires-clause-there
clear-requires-clause-there c =
    let a = c.requires.text.fits.allocas in
    let b = c.requires.stands.there in
    subst (λ (f : Frame). f.function.0 < length c.args.places.now.allocas) (sym c.deref_mut.ensures.value) (omega (arith, a, b))

pub clear-requires-clause-names : goal.clear-requires-clause-names
clear-requires-clause-names c =
    subst (λ (f : Frame). HasObject (sizes (length f.registers.items) (length c.args.places.now.globals) (length (allocas_of c.args.places.now f.function.0))) c.args.object) (sym c.deref_mut.ensures.value)
    (clear_names c.args.program.now c.args.places.now _ c.args.self.now.top.value c.args.count c.args.object c.requires.text.fits c.requires.stands c.requires.item)

pub clear-requires-clause-safe : goal.clear-requires-clause-safe
clear-requires-clause-safe c =
    let cells = c.args.self.now.cells.cells.items in
    subst (λ (f : Frame). IsSafe (bases_in c.args.places.now f) (is_cell cells) (λ a z. cell_in cells a ≡ Some z) f.registers.items (instruction.StoreZeros c.args.count c.args.object)) (sym c.deref_mut.ensures.value)
    (∥∥₁_map c.requires.safe (clear_safe c.args.program.now c.args.places.now c.args.self.now c.args.count c.args.object c.requires.item))

pub returns-clause-goes : goal.returns-clause-goes
returns-clause-goes c = λ globals s h can.
    let same = c.deref_mut.ensures.value in
    let places = c.args.places.now in
    let new = c.clear.new.self in
    clear_shown globals c.args.program.now places s c.args.self.now (record c.args.self.now { top = with_value c.args.self.now.top new; cells = c.clear.new.cells }) c.args.count c.args.object h can c.requires.stands c.requires.item
    (subst (λ (f : Frame). new ≡ record f { place = record { block = f.place.block; index = f.place.index + 1 } }) same c.in-Ok.ensures.only) refl refl
    (λ l p g m shown. c.in-Ok.ensures.led c.args.program.now l p g m (subst (ShowsFrame l places p g) (sym same) shown))
