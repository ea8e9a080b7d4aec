-- Numbers of i32 that an instruction reads are numbers of that type.
use Rattle.std.proofs.Common.{◌≡◌, ℕ, List, Option, Some, None, true, refl, slice_get}
use Rattle.semantics.specs.Frames.{Value, Word, Truth, Pointer, Region, Registers, Frame, Item, Does, Ends, and_then, item_of, item_at, word_of, word_at}
use Rattle.program.specs.declared.function.Block.{Block}
use Rattle.program.specs.declared.function.Function.{Function}
use Rattle.program.specs.declared.function.Program.{Program}
use Rattle.program.specs.declared.function.RegisterKind.{RegisterKind}
use Rattle.program.specs.declared.function.RegisterKind.TheVariants as kind
use Rattle.program.specs.declared.instruction.Instruction.{Instruction}
use Rattle.program.specs.declared.instruction.Instruction.TheVariants as instruction
use Rattle.program.specs.declared.instruction.Operand.{Operand}
use Rattle.program.specs.declared.instruction.Operand.TheVariants as operand
use Rattle.syntax.specs.declared.operator.Width.{Width}
use Rattle.syntax.specs.declared.operator.Width.TheVariants.{Bits64, Bits32}
use Rattle.program.specs.Widths.{source_width}
use Rattle.frame_engine.specs.Operands.{FitsIn, ItemFits, OperandsFit}
use Rattle.laws_schedule.specs.typing.Kinds.{IsNumber, IsKinded}
use Rattle.laws_schedule.specs.kinds.Holding.{HoldKinds, holds_kind}
use Rattle.laws_schedule.proofs.kinds.Widths.{fits_signed}
use Rattle.serial_machine.specs.Safe.{ItemsFit}

-- ---- an operand

held_fits : (o : Option Value) → holds_kind (kind.Number Bits32) o ≡ true → FitsIn Bits32 (word_of o)
held_fits None h = tt
held_fits (Some (Word z)) h = fits_signed z h
held_fits (Some (Truth b)) h = tt
held_fits (Some (Pointer c)) h = tt
held_fits (Some (Region p)) h = tt

number_fits : (kinds : List RegisterKind) (r : Registers) (w : Width) (a : Operand) → HoldKinds kinds r → IsNumber kinds w a → FitsIn w (word_at r a)
number_fits kinds r Bits64 a holds is = tt
number_fits kinds r Bits32 (operand.Number z) holds is = fits_signed z is
number_fits kinds r Bits32 (operand.Register x) holds is = held_fits (r x.0) (holds x.0 (kind.Number Bits32) is)

-- ---- an instruction

instruction_fits : (kinds : List RegisterKind) (f : Frame) (i : Instruction) → HoldKinds kinds f.registers → IsKinded kinds i → OperandsFit f i
instruction_fits kinds f (instruction.Binary d op w a b) holds is = (number_fits kinds f.registers w a holds is.1, number_fits kinds f.registers w b holds is.2)
instruction_fits kinds f (instruction.Compare d by w a b) holds is = (number_fits kinds f.registers w a holds is.1, number_fits kinds f.registers w b holds is.2)
instruction_fits kinds f (instruction.Convert d by a) holds is = number_fits kinds f.registers (source_width by) a holds is.1
instruction_fits kinds f (instruction.Alloca d a) holds is = tt
instruction_fits kinds f (instruction.ElementPointer d name i) holds is = tt
instruction_fits kinds f (instruction.Load d address) holds is = tt
instruction_fits kinds f (instruction.Store a address) holds is = tt
instruction_fits kinds f (instruction.StoreZeros cells name) holds is = tt
instruction_fits kinds f (instruction.AtomicAdd address a) holds is = tt
instruction_fits kinds f (instruction.Call d callee arguments) holds is = tt
instruction_fits kinds f (instruction.StartRegion d) holds is = tt

-- ---- what stands at the frame's place

-- an item stands in a function
pub function_there : (prog : Program) (g b i : ℕ) (x : Item) → item_at prog g b i ≡ Some x → (function : Function) × (slice_get prog.functions g ≡ Some function)
function_there prog g b i x e = by (slice_get prog.functions g) refl e
  where
    by : (o : Option Function) → slice_get prog.functions g ≡ o → and_then (and_then o (λ (f : Function). slice_get f.blocks b)) (λ (bl : Block). item_of bl.steps bl.ending i) ≡ Some x → (function : Function) × (slice_get prog.functions g ≡ Some function)
    by None is h = absurd (cc)
    by (Some function) is h = (function, is)

pub items_fit : ItemsFit
items_fit prog kinds f held = from (item_at prog f.function f.block f.index) refl
  where
    from : (o : Option Item) → item_at prog f.function f.block f.index ≡ o → ItemFits f o
    from None is = tt
    from (Some (Does i)) is =
        let there = function_there prog f.function f.block f.index (Does i) is in
        instruction_fits there.0.registers f i (held.holds there.0 there.1) (kinds.steps f.function f.block f.index i there.0 is there.1)
    from (Some (Ends t)) is = tt
