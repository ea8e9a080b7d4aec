-- What is known at a place, and that it holds in a frame there.
use Rattle.std.specs.Prelude.{◌≡◌, ℕ, zero, suc, ◌<◌, ◌≤ℤ◌, List, [], ◌∷◌, Option, Some, None, slice_get, ℤ}
use Rattle.semantics.specs.Arithmetic.{compares}
use Rattle.semantics.specs.Frames.{Registers, Truth, Frame, Does, item_at}
use Rattle.linear.specs.Forms.{value}
use Rattle.linear_shown.specs.Shown.{AllHold}
use Rattle.linear.specs.declared.form.Fact.{Fact}
use Rattle.program.specs.declared.annotation.Inequality.{Inequality}
use Rattle.program.specs.declared.function.Block.{Block}
use Rattle.program.specs.declared.function.Function.{Function}
use Rattle.program.specs.declared.function.Program.{Program}
use Rattle.program.specs.declared.instruction.Ending.{Ending}
use Rattle.program.specs.declared.instruction.Instruction.{Instruction}
use Rattle.program.specs.declared.instruction.Instruction.TheVariants as instruction
use Rattle.program.specs.declared.instruction.Step.{Step}
use Rattle.ranges.specs.Truth.{operand_value}
use Rattle.ranges.specs.Places.{start_facts, with_shows, facts_before}
use Rattle.laws_conditions.specs.rules.Costs.{numbers}

-- the `shows` lines before a step, and at the index behind all steps those before the terminator
abbrev pub shows_at : List Step → Option Ending → ℕ → List Inequality
shows_at [] None index = []
shows_at [] (Some ending) zero = ending.shows
shows_at [] (Some ending) (suc index) = []
shows_at (step ∷ steps) ending zero = step.shows
shows_at (step ∷ steps) ending (suc index) = shows_at steps ending index

abbrev pub known_in_block : List Function → Function → ℕ → Option Block → ℕ → List Fact
known_in_block functions function b None index = []
known_in_block functions function b (Some block) index =
    with_shows (facts_before functions (start_facts function b block) block.steps index)
    (shows_at block.steps block.ending index)

abbrev pub known_in : List Function → Option Function → ℕ → ℕ → List Fact
known_in functions None b index = []
known_in functions (Some function) b index = known_in_block functions function b (slice_get function.blocks b) index

-- the facts of a place: what the walk over its block knows there, behind the `shows` lines of the place
abbrev pub known_at_place : Program → ℕ → ℕ → ℕ → List Fact
known_at_place prog function block index = known_in prog.functions (slice_get prog.functions function) block index

-- ---- what holds in a frame

-- the inequality is true of these values
abbrev pub IsMet : (ℕ → ℤ) → Inequality → Type 0
IsMet v q = value v q.low ≤ℤ value v q.high

-- a compare's register holds what the compare says of its operands as they are
abbrev pub HoldsTest : Registers → Instruction → Type 0
HoldsTest r (instruction.Compare d predicate width x y) =
    r d.0 ≡ Some (Truth (compares predicate width (operand_value (numbers r) x) (operand_value (numbers r) y)))
HoldsTest r other = Unit {0}

-- the facts of the frame's place are true of its registers, and so are the compares that it has done in its block
pub record KnownHold (prog : Program) (f : Frame) : Type 0 where
  pub facts : AllHold (numbers f.registers) (known_at_place prog f.function f.block f.index)
  pub tests : (k : ℕ) (i : Instruction) → k < f.index → item_at prog f.function f.block k ≡ Some (Does i) →
      HoldsTest f.registers i
