-- Only the printer's own functions need these: the lines of annotations, globals, heads of functions and steps, as
-- text.
use Rattle.std.specs.Prelude.{ℕ, List, [], ◌++◌, codes, flat_map, Option, Some, None}
use Rattle.syntax.specs.declared.annotation.Inequality.{Inequality}
use Rattle.syntax.specs.declared.annotation.Zone.{Zone}
use Rattle.syntax.specs.declared.annotation.Pending.{Pending}
use Rattle.syntax.specs.declared.annotation.Measure.{Measure}
use Rattle.syntax.specs.declared.annotation.Budget.{Budget}
use Rattle.syntax.specs.declared.annotation.Left.{Left}
use Rattle.syntax.specs.declared.annotation.FunctionNotes.{FunctionNotes}
use Rattle.syntax.specs.declared.instruction.Phi.{Phi}
use Rattle.syntax.specs.declared.instruction.Step.{Step}
use Rattle.syntax.specs.declared.terminator.Ending.{Ending}
use Rattle.syntax.specs.declared.module.Global.{Global}
use Rattle.syntax.specs.declared.module.Function.{Function}
use Rattle.ir_annotation.specs.Spelling.{inequality_text, zone_text, measure_text, budget_text, pending_text, left_text}
use Rattle.ir_annotation.specs.Spelling.{foot_text}
use Rattle.ir_lex.specs.Names.{global_text}
use Rattle.ir_instruction.specs.Spelling.{result_word}
use Rattle.ir_spelling.specs.Spelling.{array_text, parameters_text}
use Rattle.ir_spelling.specs.InstructionText.{instruction_text, phi_text}
use Rattle.ir_spelling.specs.TerminatorText.{terminator_text}

-- a line between braces that is no label
abbrev pub inner_line : List ℕ → List ℕ
inner_line text = codes "  " ++ text ++ codes "\n"

abbrev pub note_line : List ℕ → List ℕ
note_line text = codes "  ;! " ++ text ++ codes "\n"

abbrev pub inequality_line : List ℕ → Inequality → List ℕ
inequality_line word i = note_line (inequality_text word i)

abbrev pub zone_line : Zone → List ℕ
zone_line z = note_line (zone_text z)

abbrev pub measure_line : Measure → List ℕ
measure_line m = note_line (measure_text m)

abbrev pub budget_line : Budget → List ℕ
budget_line b = note_line (budget_text b)

abbrev pub pending_line : Pending → List ℕ
pending_line p = note_line (pending_text p)

abbrev pub left_line : Left → List ℕ
left_line l = note_line (left_text l)

abbrev pub foot_line : Zone → List ℕ
foot_line z = note_line (foot_text z)

abbrev pub phi_line : Phi → List ℕ
phi_line p = inner_line (phi_text p)

unfoldable pub step_lines : Step → List ℕ
step_lines s = flat_map (inequality_line (codes "shows")) s.shows ++ inner_line (instruction_text s.instruction)

abbrev pub ending_lines : Option Ending → List ℕ
ending_lines None = []
ending_lines (Some e) = flat_map (inequality_line (codes "shows")) e.shows ++ inner_line (terminator_text e.terminator)

abbrev pub label_line : List ℕ → List ℕ
label_line label = label ++ codes ":\n"

unfoldable pub function_notes_lines : FunctionNotes → List ℕ
function_notes_lines n =
    flat_map (inequality_line (codes "requires")) n.requirements ++
    flat_map (inequality_line (codes "ensures")) n.guarantees
    ++ flat_map zone_line n.reads ++ flat_map zone_line n.writes ++ flat_map zone_line n.adds ++
    measure_line n.measure ++ budget_line n.budget

unfoldable pub define_line : Function → List ℕ
define_line f = codes "define " ++ result_word f.result_type ++ codes " @" ++ f.name ++
    codes "(" ++ parameters_text f.parameters ++ codes ") {\n"

abbrev pub global_line : Global → List ℕ
global_line g = global_text g.name ++ codes " = global " ++ array_text g.cells ++ codes " zeroinitializer\n"
