-- Inequalities with operands put in for registers.
use Rattle.std.specs.Prelude.{ℕ, suc, ◌==◌, if◌then◌else◌, ℤ, pos, negsuc, ◌-ℤ◌, ◌*ℤ◌, List, [], ◌∷◌, ◌++◌, length, map}
use Rattle.std.specs.Prelude.{Option, Some, None}
use Rattle.linear.specs.declared.form.RegisterId.{RegisterId}
use Rattle.linear.specs.declared.form.Term.{Term}
use Rattle.program.specs.declared.annotation.Inequality.{Inequality}
use Rattle.program.specs.declared.instruction.Argument.{Argument}
use Rattle.program.specs.declared.instruction.Argument.TheVariants as argument
use Rattle.program.specs.declared.instruction.Operand.{Operand}
use Rattle.program.specs.declared.instruction.Operand.TheVariants.{Number, Register}
use Rattle.program.specs.declared.function.Function.{Function}
use Rattle.cfg.specs.declared.structure.Move.{Move}
use Rattle.ranges_owed.specs.declared.sum.Part.{Part}
use Rattle.ranges_owed.specs.declared.sum.Sum.{Sum}

-- what the moves put in for a register; a register that they do not name stays
abbrev pub operand_for : List Move → RegisterId → Operand
operand_for [] r = Register r
operand_for (m ∷ moves) r = if m.register.0 == r.0 then m.value else operand_for moves r

abbrev pub part_of : List Move → ℤ → Term → Part
part_of moves sign t = record { factor = sign *ℤ t.coefficient; operand = operand_for moves t.register }

abbrev pub parts_of : List Move → ℤ → List Term → List Part
parts_of moves sign terms = map (part_of moves sign) terms

-- high - low, with the moves' operands put in: it is at least 0 where the inequality holds
abbrev pub difference_of : List Move → Inequality → Sum
difference_of moves q =
    record {
      constant = q.high.constant -ℤ q.low.constant;
      parts = parts_of moves (pos 1) q.high.terms ++
          parts_of moves (negsuc 0) q.low.terms;
    }

abbrev pub differences_of : List Move → List Inequality → List Sum
differences_of moves qs = map (difference_of moves) qs

-- ---- calls and returns

-- a number is put in for its parameter; forms name no object, and 0 stands for one
abbrev pub argument_operand : Argument → Operand
argument_operand (argument.Number x) = x
argument_operand (argument.Object name) = Number (pos 0)

-- the arguments for the parameters from this one on
abbrev pub argument_moves : ℕ → List Argument → List Move
argument_moves n [] = []
argument_moves n (a ∷ arguments) = record { register = record { 0 = n }; value = argument_operand a } ∷
    argument_moves (suc n) arguments

-- the register that stands for a function's result in its `ensures`
abbrev pub result_of : Function → RegisterId
result_of function = record { 0 = length function.registers }

abbrev pub result_moves : Function → Option Operand → List Move
result_moves function None = []
result_moves function (Some x) = record { register = result_of function; value = x } ∷ []

abbrev pub register_operand : Option RegisterId → Option Operand
register_operand None = None
register_operand (Some d) = Some (Register d)

-- the arguments for the parameters, and the register of the call for the result
abbrev pub call_moves : Function → List Argument → Option RegisterId → List Move
call_moves callee arguments d = argument_moves 0 arguments ++ result_moves callee (register_operand d)
