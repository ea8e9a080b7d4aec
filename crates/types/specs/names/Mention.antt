-- Which globals a function's text names, itself or by the functions that it calls, directly or through others.
use Rattle.std.specs.Prelude.{◌≡◌, ◌↔◌, ℕ, ◌<◌, Bool, true, false, List, [], ◌∷◌, ◌++◌, length, slice_index_or}
use Rattle.std.specs.Prelude.{Contains, Option, Some, None}
use Rattle.reachability.specs.Ways.{nexts_at, IsWay}
use Rattle.syntax.specs.declared.annotation.FunctionNotes.{FunctionNotes}
use Rattle.syntax.specs.declared.annotation.Pending.{Pending as PendingText}
use Rattle.syntax.specs.declared.annotation.Zone.{Zone as ZoneText}
use Rattle.syntax.specs.declared.instruction.Address.{Address as AddressText}
use Rattle.syntax.specs.declared.instruction.Address.TheVariants as address
use Rattle.syntax.specs.declared.instruction.Argument.{Argument as ArgumentText}
use Rattle.syntax.specs.declared.instruction.Argument.TheVariants as argument
use Rattle.syntax.specs.declared.instruction.Instruction.{Instruction as InstructionText}
use Rattle.syntax.specs.declared.instruction.Instruction.TheVariants as text
use Rattle.syntax.specs.declared.instruction.Step.{Step as StepText}
use Rattle.syntax.specs.declared.module.Block.{Block as BlockText}
use Rattle.syntax.specs.declared.module.Function.{Function as FunctionText}
use Rattle.types.specs.declared.names.item.Item.{Item}
use Rattle.types.specs.declared.names.item.Item.TheVariants as item
use Rattle.types.specs.declared.names.mention.Mentions.{Mentions}
use Rattle.types.specs.names.Address.{Items}
use Rattle.types.specs.names.Table.{look_up}

-- with what a name behind `@` stands for, where no call names it
abbrev pub with_object : Mentions → Option Item → Mentions
with_object found (Some (item.Global id cells)) = record found { globals = found.globals ++ id.0 ∷ [] }
with_object found other = found

abbrev pub with_callee : Mentions → Option Item → Mentions
with_callee found None = found
with_callee found (Some (item.Global id cells)) = record found { globals = found.globals ++ id.0 ∷ [] }
with_callee found (Some (item.Function id)) = record found { callees = found.callees ++ id.0 ∷ [] }

abbrev pub with_address : Items → Mentions → AddressText → Mentions
with_address items found (address.Global name) = with_object found (look_up items name)
with_address items found (address.Register name) = found

abbrev pub with_argument : Items → Mentions → ArgumentText → Mentions
with_argument items found (argument.Number value) = found
with_argument items found (argument.Pointer address) = with_address items found address

abbrev pub with_arguments : Items → Mentions → List ArgumentText → Mentions
with_arguments items found [] = found
with_arguments items found (argument ∷ arguments) = with_arguments items (with_argument items found argument) arguments

abbrev pub with_instruction : Items → Mentions → InstructionText → Mentions
with_instruction items found (text.ElementPointer register base index) = with_address items found base
with_instruction items found (text.Load register address) = with_address items found address
with_instruction items found (text.Store value address) = with_address items found address
with_instruction items found (text.StoreZeros cells address) = with_address items found address
with_instruction items found (text.AtomicAdd address value) = with_address items found address
with_instruction items found (text.Call register callee arguments) =
    with_arguments items (with_callee found (look_up items callee)) arguments
with_instruction items found other = found

abbrev pub with_steps : Items → Mentions → List StepText → Mentions
with_steps items found [] = found
with_steps items found (step ∷ steps) = with_steps items (with_instruction items found step.instruction) steps

abbrev pub with_zones : Items → Mentions → List ZoneText → Mentions
with_zones items found [] = found
with_zones items found (zone ∷ zones) = with_zones items (with_address items found zone.object) zones

abbrev pub with_pending : Items → Mentions → List PendingText → Mentions
with_pending items found [] = found
with_pending items found (line ∷ lines) = with_pending items (with_address items found line.zone.object) lines

abbrev pub with_block : Items → Mentions → BlockText → Mentions
with_block items found block =
    with_steps items (with_zones items (with_pending items found block.notes.pending) block.notes.foot) block.steps

abbrev pub with_blocks : Items → Mentions → List BlockText → Mentions
with_blocks items found [] = found
with_blocks items found (block ∷ blocks) = with_blocks items (with_block items found block) blocks

abbrev pub with_notes : Items → Mentions → FunctionNotes → Mentions
with_notes items found notes =
    with_zones items (with_zones items (with_zones items found notes.reads) notes.writes) notes.adds

abbrev pub no_mentions : Mentions
no_mentions = record { globals = []; callees = [] }

-- what a function's annotations and instructions name behind `@`
abbrev pub mentions_of : Items → FunctionText → Mentions
mentions_of items function = with_blocks items (with_notes items no_mentions function.notes) function.blocks

abbrev pub callees_at : List Mentions → ℕ → List ℕ
callees_at mentions place = nexts_at (λ m. m.callees) mentions place

abbrev pub globals_at : List Mentions → ℕ → List ℕ
globals_at mentions place = nexts_at (λ m. m.globals) mentions place

-- the function names the global, itself or by those that it calls, directly or through others
abbrev pub ReachesGlobal : List Mentions → ℕ → ℕ → Type 0
ReachesGlobal mentions from global = (to : ℕ) × (callers : List ℕ) × IsWay (callees_at mentions) from callers to ×
    Contains (globals_at mentions to) global

-- the marks are just the globals that the function names, itself or by those that it calls
abbrev pub NamesExactly : List Mentions → ℕ → ℕ → List Bool → Type 0
NamesExactly mentions globals from marks = (global : ℕ) → (slice_index_or marks global false ≡ true) ↔
    ((global < globals) × ReachesGlobal mentions from global)

-- for each function just the globals that it names, itself or by those that it calls
pub record IsNamedTable (mentions : List Mentions) (globals : ℕ) (named : List (List Bool)) : Type 0 where
  pub size : length named ≡ length mentions
  pub exact : (from : ℕ) → from < length mentions → NamesExactly mentions globals from (slice_index_or named from [])
