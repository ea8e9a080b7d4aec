-- A sample program: a child stores the argument in one cell of @a while its parent stores it in the other; then the
-- parent adds both. It is `examples/pair.ll`.
use Rattle.std.specs.Prelude.{◌≡◌, ℕ, List, [], ◌∷◌, ◌++◌, Some, None, true, false, ℤ, pos, ◌+ℤ◌, codes}
use Rattle.semantics.specs.Cells.{Shared, Cell, Memory}
use Rattle.semantics.specs.Arithmetic.{wrapped}
use Rattle.semantics.specs.SerialMeaning.{Gave}
use Rattle.semantics.specs.Events.{Event, Step, Steal, Running, Stalled, status_of, start}
use Rattle.semantics.specs.Replay.{replay, has_ended}
use Rattle.laws_conditions.specs.theorem.Schedules.{RunsAsSerial}
use Rattle.syntax.specs.declared.module.ResultType.TheVariants as result_type
use Rattle.syntax.specs.declared.operator.Width.TheVariants.{Bits64}
use Rattle.syntax.specs.declared.operator.BinaryOperator.TheVariants as operator
use Rattle.syntax.specs.declared.operator.Mode.TheVariants as mode
use Rattle.linear.specs.declared.form.RegisterId.{RegisterId}
use Rattle.linear.specs.declared.form.Form.{Form}
use Rattle.program.specs.declared.annotation.Zone.{Zone}
use Rattle.program.specs.declared.annotation.Left.{Left}
use Rattle.program.specs.declared.identifier.BlockId.{BlockId}
use Rattle.program.specs.declared.identifier.ObjectName.{ObjectName}
use Rattle.program.specs.declared.identifier.ObjectName.TheVariants as object
use Rattle.program.specs.declared.function.RegisterKind.TheVariants as kind
use Rattle.program.specs.declared.function.Parameter.TheVariants as parameter
use Rattle.program.specs.declared.function.Block.{Block}
use Rattle.program.specs.declared.function.Function.{Function}
use Rattle.program.specs.declared.function.Program.{Program}
use Rattle.program.specs.declared.instruction.Operand.TheVariants as operand
use Rattle.program.specs.declared.instruction.Address.TheVariants as address
use Rattle.program.specs.declared.instruction.Instruction.{Instruction}
use Rattle.program.specs.declared.instruction.Instruction.TheVariants as instruction
use Rattle.program.specs.declared.instruction.Step.{Step as Line}
use Rattle.program.specs.declared.instruction.Terminator.{Terminator}
use Rattle.program.specs.declared.instruction.Terminator.TheVariants as terminator
use Rattle.program.specs.declared.instruction.Ending.{Ending}

-- ---- the program

abbrev pub register : ℕ → RegisterId
register n = record { 0 = n }

abbrev pub block : ℕ → BlockId
block n = record { 0 = n }

abbrev pub constant : ℕ → Form
constant n = record { terms = []; constant = pos n }

abbrev pub global_a : ObjectName
global_a = object.Global (record { 0 = 0 })

abbrev pub writes_a : ℕ → ℕ → ℕ → Zone
writes_a line low high = record {
  line = line;
  mode = mode.Writes;
  object = global_a;
  low = constant low;
  high =
      constant high;
}

abbrev pub left_of : ℕ → ℕ → Left
left_of line n = record { line = line; self_calls = constant 0; instructions = constant n }

abbrev pub line_of : ℕ → Instruction → Line
line_of line i = record { line = line; shows = []; instruction = i }

abbrev pub ending_of : ℕ → Terminator → Ending
ending_of line t = record { line = line; shows = []; terminator = t }

abbrev pub points_at : ℕ → ℕ → Instruction
points_at d index = instruction.ElementPointer (register d) global_a (operand.Number (pos index))

-- registers: n 0, s 1, p 2, q 3, u 4, x 5, v 6, y 7, t 8
abbrev pub entry_block : Block
entry_block = record {
  line = 5;
  keeps = [];
  pending = [];
  left = left_of 6 14;
  foot = [];
  phis = [];
  steps = line_of 7 (instruction.StartRegion (register 1)) ∷ [];
  ending = Some (ending_of 8 (terminator.Detach (register 1) (block 1) (block 2)));
}

abbrev pub child_block : Block
child_block = record {
  line = 9;
  keeps = [];
  pending = [];
  left = left_of 10 3;
  foot = writes_a 11 0 1 ∷ [];
  phis = [];
  steps = line_of 12 (points_at 2 0) ∷
      line_of 13 (instruction.Store (operand.Register (register 0)) (address.Element (register 2))) ∷ [];
  ending = Some (ending_of 14 (terminator.Reattach (register 1) (block 2)));
}

abbrev pub continuation_block : Block
continuation_block = record {
  line = 15;
  keeps = [];
  pending = record { region = register 1; zone = writes_a 16 0 1 } ∷ [];
  left = left_of 17 9;
  foot = [];
  phis = [];
  steps = line_of 18 (points_at 3 1) ∷
      line_of 19 (instruction.Store (operand.Register (register 0)) (address.Element (register 3))) ∷ [];
  ending = Some (ending_of 20 (terminator.Sync (register 1) (block 3)));
}

abbrev pub last_block : Block
last_block = record {
  line = 21;
  keeps = [];
  pending = [];
  left = left_of 22 6;
  foot = [];
  phis = [];
  steps = line_of 23 (points_at 4 0) ∷ line_of 24 (instruction.Load (register 5) (address.Element (register 4))) ∷
      line_of 25 (points_at 6 1) ∷ line_of 26
      (instruction.Load (register 7) (address.Element (register 6))) ∷
      line_of 27 (instruction.Binary (register 8) operator.Add Bits64 (operand.Register (register 5))
      (operand.Register (register 7))) ∷ [];
  ending = Some (ending_of 28 (terminator.Return (Some (operand.Register (register 8)))));
}

abbrev pub main_function : Function
main_function = record {
  line = 2;
  name = codes "main";
  result_type = result_type.Number;
  parameters = parameter.Number ∷ [];
  registers =
      kind.Number Bits64 ∷ kind.Region ∷ kind.Element ∷ kind.Element ∷ kind.Element ∷ kind.Number Bits64 ∷
      kind.Element ∷
      kind.Number Bits64 ∷ kind.Number Bits64 ∷ [];
  allocas = [];
  requirements = [];
  guarantees = [];
  zones = writes_a 3 0 2 ∷ [];
  measure = record { line = 2; form = constant 0; bound = 0 };
  budget = record { line = 4; self_calls = 0; instructions = 14 };
  blocks = entry_block ∷ child_block ∷ continuation_block ∷ last_block ∷ [];
}

abbrev pub pair : Program
pair = record {
  globals = record { line = 1; name = codes "a"; cells = 2 } ∷ [];
  functions = main_function ∷ [];
  main =
      record { 0 = 0 };
}

abbrev pub cell_of_a : ℕ → Cell
cell_of_a index = record { object = Shared 0; index = index }

-- ---- what is proved of it

-- whatever its argument n, the schedule theorem holds of it with a budget of 14 and a depth of 2; its serial run uses
-- both whole, leaves n in both cells and gives n + n
abbrev pub PairOnEverySchedule : Type 0
PairOnEverySchedule =
    (n : ℤ) (memory : Memory) →
    (t : RunsAsSerial pair (n ∷ []) memory 14 2) × (t.outcome.ending ≡ Gave (Some (wrapped Bits64 (n +ℤ n)))) ×
    (t.outcome.count ≡ 14) × (t.outcome.depth ≡ 2) ×
    (t.outcome.memory (cell_of_a 0) ≡ Some n) × (t.outcome.memory (cell_of_a 1) ≡ Some n)

-- worker 0 detaches, worker 1 steals the root and stalls at the sync
abbrev pub stalling : List Event
stalling = Step 0 ∷ Step 0 ∷ Steal 1 [] ∷ Step 1 ∷ Step 1 ∷ Step 1 ∷ []

-- worker 0 takes the root at its reattach and ends it
abbrev pub ending : List Event
ending = Step 0 ∷ Step 0 ∷ Step 0 ∷ Step 0 ∷ Step 0 ∷ Step 0 ∷ Step 0 ∷ Step 0 ∷ Step 0 ∷ []

pub record IsTimeline (n : ℤ) (memory : Memory) : Type 0 where
  pub is_going : has_ended (replay pair 2 stalling (start pair (n ∷ []) memory)) ≡ false
  pub done_then : (replay pair 2 stalling (start pair (n ∷ []) memory)).core.done ≡ 5
  pub root_then : status_of 2 (replay pair 2 stalling (start pair (n ∷ []) memory)) [] ≡ Some (Stalled 1)
  pub child_then : status_of 2 (replay pair 2 stalling (start pair (n ∷ []) memory)) (0 ∷ []) ≡ Some (Running 0)
  pub idle_then : (replay pair 2 stalling (start pair (n ∷ []) memory)).hands 1 ≡ None
  pub has_ended_later : has_ended (replay pair 2 (stalling ++ ending) (start pair (n ∷ []) memory)) ≡ true
  pub done_later : (replay pair 2 (stalling ++ ending) (start pair (n ∷ []) memory)).core.done ≡ 14
  pub result_later : (replay pair 2 (stalling ++ ending) (start pair (n ∷ []) memory)).core.result
      ≡ Some (wrapped Bits64 (n +ℤ n))

abbrev pub PairOnTwoWorkers : Type 0
PairOnTwoWorkers = (n : ℤ) (memory : Memory) → IsTimeline n memory
