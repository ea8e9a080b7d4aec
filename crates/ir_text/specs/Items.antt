-- The items of a module in the order of its canonical text, and the lines that print them.
use Rattle.std.specs.Prelude.{ℕ, List, [], ◌∷◌, ◌++◌, map, flat_map, Option, Some, None}
use Rattle.ir_annotation.specs.declared.meaning.Annotation.{Annotation}
use Rattle.ir_annotation.specs.declared.meaning.Annotation.TheVariants as annotation
use Rattle.ir_reader.specs.declared.item.item.Item.{Item}
use Rattle.ir_reader.specs.declared.item.item.Item.TheVariants as item
use Rattle.ir_instruction.specs.Spelling.{spaces}
use Rattle.ir_reader.specs.item.Printed.{item_text}
use Rattle.syntax.specs.declared.annotation.FunctionNotes.{FunctionNotes}
use Rattle.syntax.specs.declared.annotation.BlockNotes.{BlockNotes}
use Rattle.syntax.specs.declared.instruction.Step.{Step}
use Rattle.syntax.specs.declared.terminator.Ending.{Ending}
use Rattle.syntax.specs.declared.module.Block.{Block}
use Rattle.syntax.specs.declared.module.Function.{Function}
use Rattle.syntax.specs.declared.module.Module.{Module}

-- annotations of one kind
abbrev pub note_items : {A : Type 0} → (A → Annotation) → List A → List Item
note_items kind xs = map (λ x. item.Annotation (kind x)) xs

unfoldable pub function_note_items : FunctionNotes → List Item
function_note_items n =
    note_items annotation.Requires n.requirements
    ++ (note_items annotation.Ensures n.guarantees
    ++ (note_items annotation.FunctionZone n.reads
    ++ (note_items annotation.FunctionZone n.writes
    ++ (note_items annotation.FunctionZone n.adds
    ++ item.Annotation (annotation.Measure n.measure) ∷ item.Annotation (annotation.Budget n.budget) ∷ []))))

unfoldable pub block_note_items : BlockNotes → List Item
block_note_items n =
    note_items annotation.Keeps n.keeps
    ++ (note_items annotation.Pending n.pending ++ item.Annotation (annotation.Left n.left) ∷
    note_items annotation.Foot n.foot)

abbrev pub step_items : Step → List Item
step_items s = note_items annotation.Shows s.shows ++ item.Instruction s.instruction ∷ []

abbrev pub ending_items : Option Ending → List Item
ending_items None = []
ending_items (Some e) = note_items annotation.Shows e.shows ++ item.Terminator e.terminator ∷ []

-- behind a block's annotations
abbrev pub body_items : Block → List Item
body_items b = map item.Phi b.phis ++ (flat_map step_items b.steps ++ ending_items b.ending)

unfoldable pub block_items : Block → List Item
block_items b = item.Label b.label ∷ (block_note_items b.notes ++ body_items b)

unfoldable pub function_items : Function → List Item
function_items f = item.Define f.name f.result_type f.parameters ∷
    (function_note_items f.notes ++ (flat_map block_items f.blocks ++ item.Close ∷ []))

unfoldable pub module_items : Module → List Item
module_items m = map item.Global m.globals ++ flat_map function_items m.functions

-- spaces before an item: none at what stands outside braces, at braces and at labels
abbrev pub indentation : Item → ℕ
indentation (item.Phi p) = 2
indentation (item.Instruction i) = 2
indentation (item.Terminator t) = 2
indentation (item.Annotation a) = 2
indentation _ = 0

-- a line without its LF
abbrev pub printed_content : Item → List ℕ
printed_content i = spaces (indentation i) ++ item_text i

abbrev pub printed_line : Item → List ℕ
printed_line i = printed_content i ++ 10 ∷ []

-- the canonical text of a module: the lines of its items
abbrev pub module_text : Module → List ℕ
module_text m = flat_map printed_line (module_items m)
