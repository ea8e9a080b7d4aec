-- What one more item adds to the counts.
use Rattle.std.specs.Prelude.{◌+◌, ◌≤◌, length}
use Rattle.ir_reader.specs.declared.item.item.Item.{Item}
use Rattle.ir_reader.specs.declared.item.item.Item.TheVariants as item
use Rattle.syntax.specs.declared.instruction.Instruction.{Instruction}
use Rattle.ir_reader.specs.declared.limits.Counts.{Counts}
use Rattle.ir_reader.specs.Defined.{option_list, defined_register}
use Rattle.ir_reader.specs.Limits.{global_cells, instruction_cells}

-- one more item fits
pub record IsSmall (c : Counts) : Type 0 where
  pub global_cells : c.global_cells ≤ 1048576
  pub registers : c.registers ≤ 4096
  pub alloca_cells : c.alloca_cells ≤ 4096

abbrev pub with_instruction : Counts → Instruction → Counts
with_instruction c i = record c {
  registers = c.registers + length (option_list (defined_register i));
  alloca_cells = c.alloca_cells + instruction_cells i;
}

-- with one more item
abbrev pub counts_with : Counts → Item → Counts
counts_with c (item.Global g) = record c { global_cells = c.global_cells + g.cells }
counts_with c (item.Define name result_type parameters) = record c { registers = length parameters; alloca_cells = 0 }
counts_with c (item.Phi p) = record c { registers = c.registers + 1 }
counts_with c (item.Instruction i) = with_instruction c i
counts_with c item.Close = record c { registers = 0; alloca_cells = 0 }
counts_with c _ = c
