-- A sample: one strand goes from the root over a detach, a call, a return, a reattach and a sync.
use Rattle.std.specs.Prelude.{◌≡◌, ℕ, List, [], ◌∷◌, Some, None, ℤ, pos, codes}
use Rattle.semantics.specs.Cells.{Shared, Local, Cell}
use Rattle.semantics.specs.Arithmetic.{cell_sum}
use Rattle.semantics.specs.State.{root_frame}
use Rattle.syntax.specs.declared.module.ResultType.TheVariants as result_type
use Rattle.syntax.specs.declared.operator.Width.TheVariants.{Bits64}
use Rattle.linear.specs.declared.form.RegisterId.{RegisterId}
use Rattle.linear.specs.declared.form.Form.{Form}
use Rattle.program.specs.declared.identifier.BlockId.{BlockId}
use Rattle.program.specs.declared.identifier.ObjectName.TheVariants as object
use Rattle.program.specs.declared.function.RegisterKind.{RegisterKind}
use Rattle.program.specs.declared.function.RegisterKind.TheVariants as kind
use Rattle.program.specs.declared.function.Alloca.{Alloca}
use Rattle.program.specs.declared.function.Block.{Block}
use Rattle.program.specs.declared.function.Function.{Function}
use Rattle.program.specs.declared.function.Program.{Program}
use Rattle.program.specs.declared.instruction.Operand.TheVariants as operand
use Rattle.program.specs.declared.instruction.Address.TheVariants as address
use Rattle.program.specs.declared.instruction.Instruction.{Instruction}
use Rattle.program.specs.declared.instruction.Instruction.TheVariants as instruction
use Rattle.program.specs.declared.instruction.Step.{Step}
use Rattle.program.specs.declared.instruction.Terminator.{Terminator}
use Rattle.program.specs.declared.instruction.Terminator.TheVariants as terminator
use Rattle.laws_strands.specs.stacks.Footprint.{Stored}
use Rattle.laws_strands.specs.stacks.Strands.{Strand, IsStrand, at}

abbrev pub register : ℕ → RegisterId
register n = record { 0 = n }

abbrev pub block : ℕ → BlockId
block n = record { 0 = n }

abbrev pub nothing : Form
nothing = record { terms = []; constant = pos 0 }

abbrev pub steps_of : List Instruction → List Step
steps_of [] = []
steps_of (i ∷ more) = record { line = 1; shows = []; instruction = i } ∷ steps_of more

abbrev pub block_of : List Instruction → Terminator → Block
block_of steps t =
    record {
      line = 1;
      keeps = [];
      pending = [];
      left = record { line = 1; self_calls = nothing; instructions = nothing };
      foot = [];
      phis = [];
      steps = steps_of steps;
      ending = Some (record { line = 1; shows = []; terminator = t });
    }

abbrev pub function_of : List RegisterKind → List Alloca → List Block → Function
function_of registers allocas blocks =
    record {
      line = 1;
      name = codes "f";
      result_type = result_type.Number;
      parameters = [];
      registers = registers;
      allocas = allocas;
      requirements = [];
      guarantees = [];
      zones = [];
      measure = record { line = 1; form = nothing; bound = 0 };
      budget = record { line = 1; self_calls = 0; instructions = 11 };
      blocks = blocks;
    }

-- a child calls the other function; after the sync the root loads the global's cell
abbrev pub main_function : Function
main_function =
    function_of (kind.Region ∷ kind.Number Bits64 ∷ []) []
    (block_of (instruction.StartRegion (register 0) ∷ []) (terminator.Detach (register 0) (block 1) (block 2)) ∷
    block_of (instruction.Call (Some (register 1)) (record { 0 = 1 }) [] ∷
    []) (terminator.Reattach (register 0) (block 2)) ∷
    block_of [] (terminator.Sync (register 0) (block 3)) ∷
    block_of (instruction.Load (register 1) (address.First (object.Global (record { 0 = 0 }))) ∷
    []) (terminator.Return (Some (operand.Register (register 1)))) ∷ [])

-- it adds 5 to the global's cell, and stores and loads in a cell of its own
abbrev pub called_function : Function
called_function =
    function_of (kind.Number Bits64 ∷ []) (record { line = 1; cells = 1; register = register 0 } ∷ [])
    (block_of
    (instruction.AtomicAdd (address.First (object.Global (record { 0 = 0 }))) (operand.Number (pos 5)) ∷
    instruction.Store (operand.Number (pos 7)) (address.First (object.Alloca (record { 0 = 0 }))) ∷
    instruction.Load (register 0) (address.First (object.Alloca (record { 0 = 0 }))) ∷ [])
    (terminator.Return (Some (operand.Register (register 0)))) ∷ [])

abbrev pub sample : Program
sample =
    record {
      globals = record { line = 1; name = codes "a"; cells = 1 } ∷ [];
      functions = main_function ∷
          called_function ∷ [];
      main = record { 0 = 0 };
    }

abbrev pub global_cell : Cell
global_cell = record { object = Shared 0; index = 0 }

-- of the frame that the root's child called
abbrev pub own_cell : Cell
own_cell = record { object = Local (0 ∷ 0 ∷ []) 0; index = 0 }

-- the root's frame stands before its return, after ten instructions; the sum is to be stored, and the called frame's
-- cell is gone with it
pub record GoesOverBorders (v : ℤ) : Type 0 where
  pub strand : Strand
  pub is : IsStrand sample strand
  pub base : strand.base ≡ at [] (root_frame sample [])
  pub path : strand.top.path ≡ []
  pub block_is : strand.top.frame.block ≡ 3
  pub below : strand.below ≡ []
  pub done : strand.done ≡ 10
  pub deepest : strand.deepest ≡ 3
  pub synced : strand.synced ≡ 0 ∷ []
  pub read : strand.footprint.reads global_cell ≡ Some v
  pub sum_is : strand.footprint.writes global_cell ≡ Some (Stored (Some (cell_sum v (pos 5))))
  pub gone : strand.footprint.writes own_cell ≡ Some (Stored None)

abbrev pub SampleGoesOverBorders : Type 0
SampleGoesOverBorders = (v : ℤ) → GoesOverBorders v
