-- What the text names is there.
use Rattle.std.proofs.Common.{◌≡◌, ◌∙◌, ◌≤◌, length, ap, sym, arith, slice_get}
use Rattle.std.proofs.lemmas.List.{length-map}
use Rattle.std.proofs.lemmas.Option.{same_Some, slice_get_within}
use Rattle.program.specs.declared.function.Function.{Function}
use Rattle.program.specs.declared.function.Global.{Global}
use Rattle.program.specs.declared.function.Program.{Program}
use Rattle.program.specs.declared.instruction.Terminator.TheVariants as terminator
use Rattle.serial_machine.proofs.laws_schedule.Accepted.{IsTaken, is_taken}
use Rattle.serial_machine.proofs.text.Fits as serial
use Rattle.serial_machine.proofs.text.Fits.{parameters_first, some_at, starts_long}
use Rattle.schedule_workers.specs.frame_engine.Starts.{global_starts}
use Rattle.schedule_workers.specs.frame_engine.declared.activation.Places.{Places}
use Rattle.schedule_core.specs.laws_workers.Safe.{StartsFit, TextsFit}

globals_enough : (program : Program) (places : Places) → places.globals ≡ global_starts program.globals → length program.globals ≤ length places.globals
globals_enough program places all =
    let many : length places.globals ≡ length program.globals = ap length all ∙ starts_long 0 _ ∙ length-map program.globals (λ (g : Global). g.cells) in
    omega (arith, many)

-- a region's register is one of the function's: it has a kind
pub texts_fit : TextsFit
texts_fit text program accepted places moves globals all room =
    let kinds = (is_taken text program accepted).names.kinds in
    let text_fits = serial.texts_fit text program accepted places moves (globals_enough program places globals) all room in
    record {
      fits = text_fits.fits;
      globals = globals;
      allocas = text_fits.allocas;
      entries = text_fits.entries;
      calls = text_fits.calls;
      syncs = λ k b i r target f at here. slice_get_within f.registers r.0 _ (kinds.ends k b i (terminator.Sync r target) f here at);
      detaches = λ k b i r child continuation f at here. slice_get_within f.registers r.0 _ (kinds.ends k b i (terminator.Detach r child continuation) f here at);
    }

pub starts_fit : StartsFit
starts_fit text program accepted arguments given = record {
  there = slice_get_within program.functions program.main.0 given.main given.is_main;
  room = λ f is.
      let low = parameters_first program taken.names.kinds program.main.0 f is in
      let same : given.main ≡ f = same_Some given.main f (sym given.is_main ∙ is) in
      let count : length arguments ≡ length f.parameters = given.count ∙ ap (λ (x : Function). length x.parameters) same in
      omega (arith, low, count);
  entry = λ f is. let one = some_at (slice_get f.blocks 0) (taken.measured.entry program.main.0 f is) in slice_get_within f.blocks 0 one.0 one.1;
}
  where
    taken : IsTaken program
    taken = is_taken text program accepted
