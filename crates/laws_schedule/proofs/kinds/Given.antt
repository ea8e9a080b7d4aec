-- So the numbers on whose widths facts rest are of them.
use Rattle.std.proofs.Common.{◌≡◌, Some, true, slice_get}
use Rattle.semantics.specs.Frames.{Frame, Does, item_at}
use Rattle.syntax.specs.declared.operator.Width.TheVariants.{Bits32}
use Rattle.syntax.specs.declared.operator.Conversion.TheVariants.{Truncate, SignExtend, ZeroExtend}
use Rattle.program.specs.declared.function.Function.{Function}
use Rattle.program.specs.declared.function.Program.{Program}
use Rattle.program.specs.declared.instruction.Instruction.{Instruction}
use Rattle.program.specs.declared.instruction.Instruction.TheVariants as instruction
use Rattle.program.specs.declared.instruction.Operand.{Operand}
use Rattle.program.specs.declared.instruction.Operand.TheVariants as operand
use Rattle.laws_phases.proofs.defined.Items.{stands}
use Rattle.laws_phases.specs.facts.Owing.{FitsAt, FitsWidths, HasWidths}
use Rattle.laws_schedule.specs.typing.Kinds.{IsNumber, HasKinds}
use Rattle.laws_schedule.specs.zones.ByPhases.{IsKeptBySteps}
use Rattle.laws_schedule.specs.kinds.Holding.{HasKindedRegisters, is_kinded}
use Rattle.laws_schedule.specs.kinds.Uses.{HasKindedUses}
use Rattle.laws_schedule.specs.kinds.Kept.{WidthsAreGiven, WidthsAreGivenByTests}
use Rattle.laws_schedule.proofs.kinds.Registers.{number_width}
use Rattle.laws_schedule.proofs.kinds.Kept.{kinds_kept}
use Rattle.laws_schedule.proofs.kinds.Tested.{kinds_are_tested}

module _ (prog : Program) (kinds : HasKinds prog) (uses : HasKindedUses prog) (f : Frame) (good : HasKindedRegisters prog f) where
  -- a number of i32 that is extended
  extended : (function : Function) → slice_get prog.functions f.function ≡ Some function → (x : Operand) → IsNumber function.registers Bits32 x → FitsAt f.registers Bits32 x
  extended function at x is z holds = number_width function.registers f.registers Bits32 x z (good.holds function at) is holds

  by_instruction : (function : Function) → slice_get prog.functions f.function ≡ Some function → (i : Instruction) → item_at prog f.function f.block f.index ≡ Some (Does i) → FitsWidths f.registers i
  by_instruction function at (instruction.Binary d operator width x (operand.Number z)) there = uses.numbers f.function f.block f.index d operator width x z there
  by_instruction function at (instruction.Binary d operator width x (operand.Register r)) there = tt
  by_instruction function at (instruction.Compare d predicate width x y) there = tt
  by_instruction function at (instruction.Convert d Truncate x) there = tt
  by_instruction function at (instruction.Convert d SignExtend x) there = extended function at x (kinds.steps f.function f.block f.index (instruction.Convert d SignExtend x) function there at).1
  by_instruction function at (instruction.Convert d ZeroExtend x) there = extended function at x (kinds.steps f.function f.block f.index (instruction.Convert d ZeroExtend x) function there at).1
  by_instruction function at (instruction.Alloca d alloca) there = tt
  by_instruction function at (instruction.ElementPointer d object index) there = tt
  by_instruction function at (instruction.Load d address) there = tt
  by_instruction function at (instruction.Store x address) there = tt
  by_instruction function at (instruction.StoreZeros cells object) there = tt
  by_instruction function at (instruction.AtomicAdd address x) there = tt
  by_instruction function at (instruction.Call d callee arguments) there = tt
  by_instruction function at (instruction.StartRegion d) there = tt

  pub has_widths : HasWidths prog f
  has_widths i there = let s = stands prog f.function f.block f.index (Does i) there in by_instruction s.function s.is.at_function i there

pub widths_are_given : WidthsAreGiven
widths_are_given prog typed kinds uses = record { kept = kinds_kept prog typed kinds; widths = λ p f good. has_widths prog kinds uses f good }

-- what is kept is kept as a test
tested_kept : (prog : Program) → IsKeptBySteps prog (λ p f. HasKindedRegisters prog f) → IsKeptBySteps prog (λ p f. is_kinded prog f ≡ true)
tested_kept prog kept = record {
  plain = λ p f m e good going act fine. to _ (kept.plain p f m e (from f good) going act fine);
  child = λ p f m region body next good going act. to _ (kept.child p f m region body next (from f good) going act);
  continues = λ p f m region body next good going act. to _ (kept.continues p f m region body next (from f good) going act);
  syncs = λ p f m region block registers good going act. to _ (kept.syncs p f m region block registers (from f good) going act);
  callee = λ p f m d callee values good going act. to _ (kept.callee p f m d callee values (from f good) going act);
  waits = λ p f m d callee values good going act. to _ (kept.waits p f m d callee values (from f good) going act);
  resumes = λ p f k d result good waits. to _ (kept.resumes p f k d result (from f good) waits);
}
  where
    from : (f : Frame) → is_kinded prog f ≡ true → HasKindedRegisters prog f
    from f e = (kinds_are_tested prog f).sound e

    to : (f : Frame) → HasKindedRegisters prog f → is_kinded prog f ≡ true
    to f good = (kinds_are_tested prog f).complete good

pub widths_are_given_by_tests : WidthsAreGivenByTests
widths_are_given_by_tests prog typed kinds uses = record {
  kept = tested_kept prog (kinds_kept prog typed kinds);
  widths = λ p f good. has_widths prog kinds uses f ((kinds_are_tested prog f).sound good);
}
