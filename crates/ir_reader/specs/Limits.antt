-- The limits of a module, each at the item that may pass it.
use Rattle.std.specs.Prelude.{ℕ, ◌+◌, Bool, true, ◌&&◌, length, sum_by, nat_le, nat_lt}
use Rattle.syntax.specs.declared.annotation.FunctionNotes.{FunctionNotes}
use Rattle.syntax.specs.declared.annotation.BlockNotes.{BlockNotes}
use Rattle.syntax.specs.Cells.{size_cells}
use Rattle.syntax.specs.declared.instruction.Instruction.{Instruction}
use Rattle.syntax.specs.declared.instruction.Instruction.TheVariants as instruction
use Rattle.syntax.specs.declared.instruction.Step.{Step}
use Rattle.syntax.specs.declared.module.Global.{Global}
use Rattle.syntax.specs.declared.module.Block.{Block}
use Rattle.syntax.specs.declared.module.Function.{Function}
use Rattle.syntax.specs.declared.module.Module.{Module}
use Rattle.ir_reader.specs.declared.draft.LineContext.{LineContext}
use Rattle.ir_reader.specs.declared.draft.LineContext.TheVariants as place
use Rattle.ir_reader.specs.Defined.{block_registers}

abbrev pub global_cells : Module → ℕ
global_cells m = sum_by (λ (g : Global). g.cells) m.globals

abbrev pub instruction_cells : Instruction → ℕ
instruction_cells (instruction.Alloca d size) = size_cells size
instruction_cells _ = 0

abbrev pub step_cells : Step → ℕ
step_cells s = instruction_cells s.instruction

abbrev pub block_cells : Block → ℕ
block_cells b = sum_by step_cells b.steps

unfoldable pub function_cells : Function → ℕ
function_cells f = sum_by block_cells f.blocks

abbrev pub block_register_count : Block → ℕ
block_register_count b = length (block_registers b)

-- registers of a function: parameters, pointers and regions too
unfoldable pub register_count : Function → ℕ
register_count f = length f.parameters + sum_by block_register_count f.blocks

abbrev pub are_function_notes_within : FunctionNotes → Bool
are_function_notes_within n = nat_le (length n.requirements) 32 && nat_le (length n.guarantees) 32 &&
    nat_le (length n.reads) 32 && nat_le (length n.writes) 32 && nat_le (length n.adds) 32

abbrev pub are_block_notes_within : BlockNotes → Bool
are_block_notes_within n = nat_le (length n.keeps) 32 && nat_le (length n.pending) 32 && nat_le (length n.foot) 32

abbrev pub is_function_head_within : Module → Function → Bool
is_function_head_within m f =
    nat_lt (length m.functions) 256 && nat_le (length f.parameters) 16 && are_function_notes_within f.notes

abbrev pub is_block_head_within : Function → Block → Bool
is_block_head_within f b = nat_lt (length f.blocks) 1024 && are_block_notes_within b.notes

-- what the last item may have passed at its place
abbrev pub is_place_within : Module → LineContext → Bool
is_place_within m (place.FunctionHead h) = is_function_head_within m h.function
is_place_within m (place.BlockHead f h) = is_block_head_within f h.block
is_place_within m (place.Body f b shows) = nat_le (length shows) 32
is_place_within m _ = true
