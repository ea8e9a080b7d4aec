-- What the table of depths owes: how many frames a call stands on one another at most, from its own on.
use Rattle.std.specs.Prelude.{◌≡◌, ◌≢◌, ℕ, suc, ◌+◌, ◌-◌, ◌≤◌, List, Option, Some}
use Rattle.semantics.specs.Frames.{Frame, Does, Ends, item_at, block_at}
use Rattle.linear.specs.declared.form.RegisterId.{RegisterId}
use Rattle.program.specs.declared.identifier.BlockId.{BlockId}
use Rattle.program.specs.declared.identifier.FunctionId.{FunctionId}
use Rattle.program.specs.declared.function.Block.{Block}
use Rattle.program.specs.declared.function.Program.{Program}
use Rattle.program.specs.declared.instruction.Argument.{Argument}
use Rattle.program.specs.declared.instruction.Instruction.TheVariants as instruction
use Rattle.program.specs.declared.instruction.Terminator.{Terminator}
use Rattle.program.specs.declared.instruction.Terminator.TheVariants as terminator
use Rattle.laws_conditions.specs.rules.Moves.{JumpsTo, SyncsTo}
use Rattle.laws_conditions.specs.rules.Costs.{bound_of, natural, measure_at}

-- level function block: within how many detaches the block stands
pub record Levels (prog : Program) (level : ℕ → ℕ → ℕ) : Type 0 where
  pub entry : (function : ℕ) → level function 0 ≡ 0
  pub along : (function block index target : ℕ) (t : Terminator) → item_at prog function block index ≡ Some (Ends t) →
      JumpsTo t target →
      level function target ≡ level function block
  pub sync : (function block index region target : ℕ) (t : Terminator) →
      item_at prog function block index ≡ Some (Ends t) → SyncsTo t region target →
      level function target ≡ level function block
  pub body : (function block index : ℕ) (region : RegisterId) (body continuation : BlockId) →
      item_at prog function block index ≡ Some (Ends (terminator.Detach region body continuation)) →
      level function body.0 ≡ suc (level function block)
  pub continuation : (function block index : ℕ) (region : RegisterId) (body continuation : BlockId) →
      item_at prog function block index ≡ Some (Ends (terminator.Detach region body continuation)) →
      level function continuation.0 ≡ level function block

-- depth function m: the depth of a call whose measure is m
pub record DepthTable (prog : Program) (level depth : ℕ → ℕ → ℕ) : Type 0 where
  pub block : (function block m : ℕ) (b : Block) → block_at prog function block ≡ Some b →
      level function block + 1 ≤ depth function m
  pub call : (function block index m : ℕ) (d : Option RegisterId) (g : FunctionId) (arguments : List Argument) →
      item_at prog function block index ≡ Some (Does (instruction.Call d g arguments)) → g.0 ≢ function →
      level function block + 1 + depth g.0 (bound_of prog g.0) ≤ depth function m
  pub self_call : (function block index m : ℕ) (d : Option RegisterId) (g : FunctionId) (arguments : List Argument) →
      item_at prog function block index ≡ Some (Does (instruction.Call d g arguments)) → g.0 ≡ function →
      level function block + 1 + depth function m ≤ depth function (suc m)
  pub rises : (function m : ℕ) → depth function m ≤ depth function (suc m)

-- the frames from this one on
abbrev pub may_reach : Program → (ℕ → ℕ → ℕ) → (ℕ → ℕ → ℕ) → Frame → ℕ
may_reach prog level depth f = depth f.function (natural (measure_at prog f)) - level f.function f.block
