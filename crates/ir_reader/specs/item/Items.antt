-- What items are spelled by, and which of them a line can say.
use Rattle.std.specs.Prelude.{ℕ, List, [], nat_lt, ◌==◌, Bool, true, false, ◌&&◌}
use Rattle.std.specs.List.{list_all}
use Rattle.ir_instruction.specs.Spelling.{Atom, global_atoms, define_atoms, name_atoms, phi_atoms, instruction_atoms}
use Rattle.ir_instruction.specs.Spelling.{terminator_atoms, close_atoms}
use Rattle.ir_instruction.specs.Fits.{has_cells, is_some_list, instruction_fits, terminator_fits}
use Rattle.ir_reader.specs.declared.item.item.Item.{Item}
use Rattle.ir_reader.specs.declared.item.item.Item.TheVariants as item

-- what an item is spelled by; annotations have words of their own
abbrev pub item_atoms : Item → List Atom
item_atoms (item.Global g) = global_atoms g
item_atoms (item.Define name r ps) = define_atoms name r ps
item_atoms (item.Label name) = name_atoms name
item_atoms (item.Phi phi) = phi_atoms phi
item_atoms (item.Instruction i) = instruction_atoms i
item_atoms (item.Terminator t) = terminator_atoms t
item_atoms item.Close = close_atoms
item_atoms (item.Annotation a) = []

-- an item that a line of this number can say
abbrev pub item_fits : ℕ → Item → Bool
item_fits at (item.Global g) = g.line == at && nat_lt 0 g.cells
item_fits at (item.Define name r ps) = list_all has_cells ps
item_fits at (item.Label name) = true
item_fits at (item.Phi phi) = phi.line == at && is_some_list phi.entries
item_fits at (item.Instruction i) = instruction_fits i
item_fits at (item.Terminator t) = terminator_fits t
item_fits at item.Close = true
item_fits at (item.Annotation a) = false
