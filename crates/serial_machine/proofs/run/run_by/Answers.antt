use Rattle.std.proofs.Common.{◌≡◌, ◌∙◌, ap, ℕ, List}
use Rattle.frame_engine.specs.Starts.{starts_from}
use Rattle.store.specs.Rows.{sizes_of}
use Rattle.serial_machine.proofs.Windows.{some_fit}
use Rattle.serial_machine.proofs.run.run_by.Goals as goal

pub decode-requires : goal.decode-requires
decode-requires c =
    let r = c.requires in
    let m = c.args.memory.now in
    let places = c.in_ok-places.places in
    let made = c.in_ok-places.ensures in
    let sizes_are = c.as_slice.ensures.value ∙ c.in_ok-sizes.ensures in
    let globals_are : places.globals ≡ starts_from 0 (sizes_of m) =
    made.globals ∙ c.in_ok-globals.ensures ∙ ap (λ (sizes : List ℕ). starts_from 0 sizes) sizes_are in
    record {
      fits = some_fit c.args.program.now r.accepted c.args.arguments.now m r.taken r.cells places globals_are made.allocas;
    }
