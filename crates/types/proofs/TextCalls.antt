-- What the rules on calls say by the mentions of texts.
use Rattle.std.specs.Prelude.{◌≡◌, ℕ, ◌<◌, ◌≤◌, true, List, Contains, Some, slice_get}
use Rattle.program.specs.declared.function.Block.{Block}
use Rattle.program.specs.declared.function.Function.{Function}
use Rattle.program.specs.declared.identifier.GlobalId.{GlobalId}
use Rattle.program.specs.declared.identifier.ObjectName.TheVariants as object
use Rattle.program.specs.declared.instruction.Argument.{Argument}
use Rattle.program.specs.declared.instruction.Argument.TheVariants as argument
use Rattle.program.specs.declared.instruction.Instruction.{Instruction}
use Rattle.program.specs.declared.instruction.Instruction.TheVariants as instruction
use Rattle.program.specs.declared.instruction.Step.{Step}
use Rattle.types.specs.declared.names.mention.Mentions.{Mentions}
use Rattle.types.specs.Call.{are_distinct}
use Rattle.types.specs.names.Mention.{ReachesGlobal}

-- a call goes to its own function or one above, passes each object once, and no global that the callee can reach by its name
pub record IsCallApart (mentions : List Mentions) (globals caller callee : ℕ) (arguments : List Argument) : Type 0 where
  pub upward : callee ≤ caller
  pub distinct : are_distinct arguments ≡ true
  pub clear : (global : GlobalId) → global.0 < globals → Contains arguments (argument.Object (object.Global global)) → ReachesGlobal mentions callee global.0 → ⊥

abbrev pub IsApart : List Mentions → ℕ → ℕ → Instruction → Type 0
IsApart mentions globals caller (instruction.Binary register operator width left right) = Unit {0}
IsApart mentions globals caller (instruction.Compare register predicate width left right) = Unit {0}
IsApart mentions globals caller (instruction.Convert register conversion value) = Unit {0}
IsApart mentions globals caller (instruction.Alloca register alloca) = Unit {0}
IsApart mentions globals caller (instruction.ElementPointer register base index) = Unit {0}
IsApart mentions globals caller (instruction.Load register address) = Unit {0}
IsApart mentions globals caller (instruction.Store value address) = Unit {0}
IsApart mentions globals caller (instruction.StoreZeros cells base) = Unit {0}
IsApart mentions globals caller (instruction.AtomicAdd address value) = Unit {0}
IsApart mentions globals caller (instruction.Call register callee arguments) = IsCallApart mentions globals caller callee.0 arguments
IsApart mentions globals caller (instruction.StartRegion register) = Unit {0}

-- so does each call of the functions
abbrev pub CallsApart : List Mentions → ℕ → List Function → Type 0
CallsApart mentions globals functions =
    (f b s : ℕ) (function : Function) (block : Block) (step : Step) →
    slice_get functions f ≡ Some function → slice_get function.blocks b ≡ Some block → slice_get block.steps s ≡ Some step →
    IsApart mentions globals f step.instruction
