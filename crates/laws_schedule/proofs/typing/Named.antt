-- What the rules on names give of a program: all that the laws on definedness ask for.
use Rattle.std.proofs.Common.{◌≡◌, ℕ, ◌<◌, List, length, Option, Some, true, is_some, arith, Ok}
use Rattle.std.specs.Prelude.{slice_get}
use Rattle.linear.specs.declared.form.RegisterId.{RegisterId}
use Rattle.semantics.specs.Frames.{Does, block_at, item_at}
use Rattle.program.specs.declared.function.Block.{Block}
use Rattle.program.specs.declared.function.Function.{Function}
use Rattle.program.specs.declared.function.Program.{Program}
use Rattle.program.specs.declared.identifier.FunctionId.{FunctionId}
use Rattle.program.specs.declared.instruction.Argument.{Argument}
use Rattle.program.specs.declared.instruction.Instruction.TheVariants as instruction
use Rattle.program.specs.declared.instruction.Phi.{Phi}
use Rattle.syntax.specs.declared.module.Module.{Module}
use Rattle.ir_reader.specs.Kept.{IsKeptModule}
use Rattle.laws_phases.specs.cfg.Rules.{IsGraphRight}
use Rattle.types.specs.Meaning.{Means}
use Rattle.laws_phases.specs.defined.Leads.{IsBlock}
use Rattle.laws_phases.specs.defined.Names.{IsNamed}
use Rattle.laws_schedule.proofs.typing.Lists.{there}
use Rattle.laws_schedule.proofs.typing.Parts.{function_from}
use Rattle.verifier.proofs.Lists.{all_count}
use Rattle.laws_schedule.proofs.typing.Ends.{targets, returns}
use Rattle.laws_schedule.proofs.typing.Calls.{call_at, arguments, calls}
use Rattle.laws_schedule.proofs.typing.Registers.{kept_function, once, phis_of_block_once}
use Rattle.laws_schedule.proofs.typing.Entry.{entry}

module _ (whole : Module) (kept : IsKeptModule whole) (program : Program) (m : Means whole (Ok program)) where
  callees : (f b i : ℕ) (d : Option RegisterId) (g : FunctionId) (given : List Argument) → item_at program f b i ≡ Some (Does (instruction.Call d g given)) → is_some (block_at program g.0 0) ≡ true
  callees f b i d g given e =
      let at = call_at whole program m f b i d g given e in
      let text = at.call.fitting.callee in
      let l : 0 < length text.blocks = (kept_function whole kept g.0 text at.call.fitting.at_callee).some in
      let n : length at.callee.blocks ≡ length text.blocks = all_count _ text.blocks at.callee.blocks at.is.blocks_are in
      rw at.at_callee (there at.callee.blocks 0 (omega arith))

  pub named : IsGraphRight program → IsNamed program
  named right = record {
    once = once whole kept program m;
    entry = entry whole kept program m right;
    targets = targets whole program m;
    callees = callees;
    arguments = arguments whole program m;
    calls = calls whole program m;
    returns = returns whole program m;
  }

  -- two phis of a block define two registers
  pub phis_apart : (f b i j : ℕ) (function : Function) (block : Block) (x y : Phi) → IsBlock program f b function block → slice_get block.phis i ≡ Some x → slice_get block.phis j ≡ Some y → x.register.0 ≡ y.register.0 → i ≡ j
  phis_apart f b i j function block x y is at_x at_y same = phis_of_block_once whole kept program m f function (function_from whole program m f function is.at_function) b i j block x y is.at_block at_x at_y same
