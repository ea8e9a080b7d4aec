-- Registers that have a value: what is said of each place of the text, and what is kept of each frame of the serial
-- run.
use Rattle.std.specs.Prelude.{◌≡◌, ℕ, suc, ◌<◌, List, [], ◌∷◌, length, Option, Some, None, Bool, true, false, ◌⊎◌}
use Rattle.std.specs.Prelude.{slice_get, is_some, ℤ}
use Rattle.semantics.specs.Paths.{Path}
use Rattle.semantics.specs.Cells.{Memory}
use Rattle.semantics.specs.Frames.{Frame, Does, Ends, item_at, phis_at}
use Rattle.semantics.specs.SerialMeaning.{Gave}
use Rattle.laws_conditions.specs.theorem.SerialConditions.{Says, Finds, KeptSerially}
use Rattle.linear.specs.declared.form.RegisterId.{RegisterId}
use Rattle.syntax.specs.declared.module.ResultType.{ResultType}
use Rattle.syntax.specs.declared.module.ResultType.TheVariants as result_type
use Rattle.program.specs.declared.identifier.BlockId.{BlockId}
use Rattle.program.specs.declared.identifier.FunctionId.{FunctionId}
use Rattle.program.specs.declared.function.Function.{Function}
use Rattle.program.specs.declared.function.Program.{Program}
use Rattle.program.specs.declared.instruction.Argument.{Argument}
use Rattle.program.specs.declared.instruction.Instruction.{Instruction}
use Rattle.program.specs.declared.instruction.Instruction.TheVariants as instruction
use Rattle.program.specs.declared.instruction.Phi.{Phi}
use Rattle.program.specs.declared.instruction.Terminator.{Terminator}
use Rattle.program.specs.declared.instruction.Terminator.TheVariants as terminator
use Rattle.laws_conditions.specs.rules.Moves.{dest_of, JumpsTo, SyncsTo}
use Rattle.laws_conditions.specs.rules.Costs.{parameters_of}

abbrev pub is_number : ResultType → Bool
is_number result_type.Number = true
is_number result_type.Void = false

abbrev pub gives_number : Option Function → Bool
gives_number None = false
gives_number (Some f) = is_number f.result_type

-- the function's result is a number
abbrev pub returns_number : Program → ℕ → Bool
returns_number prog function = gives_number (slice_get prog.functions function)

-- one of the phis defines the register
abbrev pub HasPhi : List Phi → ℕ → Type 0
HasPhi [] r = ⊥
HasPhi (phi ∷ phis) r = (phi.register.0 ≡ r) ⊎ HasPhi phis r

-- defined function block index r: on each way to the place the register was given a value. So it was before, or it is
-- given one here.
pub record DefinesRegisters (prog : Program) (defined : ℕ → ℕ → ℕ → ℕ → Type 0) : Type 0 where
  pub entry : (function r : ℕ) → defined function 0 0 r → r < parameters_of prog function
  pub step : (function block index r : ℕ) (i : Instruction) → item_at prog function block index ≡ Some (Does i) →
      defined function block (suc index) r →
      defined function block index r ⊎ (dest_of i ≡ Some r)
  pub along : (function block index target r : ℕ) (t : Terminator) → item_at prog function block index ≡ Some (Ends t) →
      JumpsTo t target →
      defined function target 0 r → defined function block index r ⊎ HasPhi (phis_at prog function target) r
  pub sync : (function block index region target r : ℕ) (t : Terminator) →
      item_at prog function block index ≡ Some (Ends t) → SyncsTo t region target →
      defined function target 0 r → defined function block index r ⊎ HasPhi (phis_at prog function target) r
  pub body : (function block index r : ℕ) (region : RegisterId) (body continuation : BlockId) →
      item_at prog function block index ≡ Some (Ends (terminator.Detach region body continuation)) →
      defined function body.0 0 r →
      defined function block index r
  pub continuation : (function block index r : ℕ) (region : RegisterId) (body continuation : BlockId) →
      item_at prog function block index ≡ Some (Ends (terminator.Detach region body continuation)) →
      defined function continuation.0 0 r →
      defined function block index r
  -- a call passes as many arguments as there are parameters, and one that defines a register is of a function that
  -- returns a number
  pub arguments : (function block index : ℕ) (d : Option RegisterId) (g : FunctionId) (arguments : List Argument) →
      item_at prog function block index ≡ Some (Does (instruction.Call d g arguments)) →
      length arguments ≡ parameters_of prog g.0
  pub calls : (function block index : ℕ) (d : RegisterId) (g : FunctionId) (arguments : List Argument) →
      item_at prog function block index ≡ Some (Does (instruction.Call (Some d) g arguments)) →
      returns_number prog g.0 ≡ true
  pub returns : (function block index : ℕ) → item_at prog function block index ≡ Some (Ends (terminator.Return None)) →
      returns_number prog function ≡ false

abbrev pub Registered : (ℕ → ℕ → ℕ → ℕ → Type 0) → Says
Registered defined p f m = (r : ℕ) → defined f.function f.block f.index r → is_some (f.registers r) ≡ true

-- a function that returns a number gives one
abbrev pub GivesNumber : Program → Finds
GivesNumber prog p f m o = (v : Option ℤ) → o.ending ≡ Gave v → returns_number prog f.function ≡ true → is_some v ≡ true

-- for conditions that are given by tests
abbrev pub RegistersKept : Type 0
RegistersKept =
    (prog : Program) (defined : ℕ → ℕ → ℕ → ℕ → Bool) (base : Path → Frame → Memory → Bool) →
    DefinesRegisters prog (λ function block index r. defined function block index r ≡ true) →
    KeptSerially prog (λ p f m. base p f m ≡ true) (Registered (λ function block index r. defined function block index r
    ≡ true)) (GivesNumber prog)
