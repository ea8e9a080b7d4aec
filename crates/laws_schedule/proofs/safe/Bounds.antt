-- What a function sets is within its registers.
use Rattle.std.proofs.Common.{◌≡◌, ℕ, length, Some, slice_get}
use Rattle.semantics.specs.Frames.{phis_at}
use Rattle.program.specs.declared.function.Function.{Function}
use Rattle.program.specs.declared.function.Program.{Program}
use Rattle.laws_phases.specs.facts.Owing.{AreFactsStable}
use Rattle.laws_schedule.specs.typing.Kinds.{HasKinds}
use Rattle.laws_schedule.specs.safe.Safe.{BoundsRegisters}
use Rattle.laws_schedule.proofs.safe.Below.{dest_below, no_more, phis_below}

pub registers_bound : (prog : Program) → HasKinds prog → AreFactsStable prog → (f : ℕ) (function : Function) → slice_get prog.functions f ≡ Some function → BoundsRegisters prog f function
registers_bound prog kinds stable f function at = record {
  steps = λ b i d what is dest. dest_below function.registers what d (kinds.steps f b i what function is at) dest;
  phis = λ b k phi there. phis_below prog kinds f b function at k phi there;
  moves = λ b. no_more (length function.registers) (phis_at prog f b) (stable.apart f b) (phis_below prog kinds f b function at);
}
