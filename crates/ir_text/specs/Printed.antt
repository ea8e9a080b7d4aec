-- Only the printer's own functions need these: the canonical text, part by part. It is that of the module's items.
use Rattle.std.specs.Prelude.{ℕ, List, ◌++◌, codes, flat_map}
use Rattle.syntax.specs.declared.annotation.BlockNotes.{BlockNotes}
use Rattle.syntax.specs.declared.module.Block.{Block}
use Rattle.syntax.specs.declared.module.Function.{Function}
use Rattle.syntax.specs.declared.module.Module.{Module}
use Rattle.ir_spelling.specs.LineText.{inequality_line, pending_line, left_line, foot_line, phi_line, step_lines}
use Rattle.ir_spelling.specs.LineText.{ending_lines, label_line, function_notes_lines, define_line, global_line}

unfoldable pub block_notes_lines : BlockNotes → List ℕ
block_notes_lines n = flat_map (inequality_line (codes "keeps")) n.keeps ++ flat_map pending_line n.pending ++
    left_line n.left ++ flat_map foot_line n.foot

unfoldable pub block_lines : Block → List ℕ
block_lines b = label_line b.label ++ block_notes_lines b.notes ++ flat_map phi_line b.phis ++
    flat_map step_lines b.steps ++ ending_lines b.ending

unfoldable pub function_lines : Function → List ℕ
function_lines f = define_line f ++ function_notes_lines f.notes ++ flat_map block_lines f.blocks ++ codes "}\n"

unfoldable pub module_lines : Module → List ℕ
module_lines m = flat_map global_line m.globals ++ flat_map function_lines m.functions
