-- The printer writes the lines of a module's items.
use Rattle.std.proofs.Common.{◌≡◌, ℕ, List, [], ◌∷◌, ◌++◌, map, Option, Some, None, refl, sym, ap, ◌∙◌, append_assoc, append-nil}
use Rattle.std.specs.Prelude.{codes}
use Rattle.std.specs.List.{flat_map}
use Rattle.std.specs.Fmt.{decimal}
use Rattle.std.proofs.lemmas.Grind.{flat_map-append}
use Rattle.ir_annotation.specs.declared.meaning.Annotation.TheVariants as annotation
use Rattle.ir_annotation.specs.Annotations.{annotation_words}
use Rattle.ir_annotation.specs.Spelling.{form_text, relation_text, mode_text, object_text, inequality_text, zone_text, measure_text, budget_text, pending_text, left_text, foot_text}
use Rattle.ir_lex.specs.Words.{words_text}
use Rattle.ir_reader.specs.declared.item.item.Item.{Item}
use Rattle.ir_reader.specs.declared.item.item.Item.TheVariants as item
use Rattle.ir_instruction.specs.declared.symbol.Symbol.TheVariants as symbols
use Rattle.ir_instruction.specs.Spelling.{Atom, Token, Blank, text_of, result_word, parameter_atoms, parted, instruction_atoms, phi_atoms, terminator_atoms}
use Rattle.ir_instruction.proofs.Texts.{text_appended}
use Rattle.syntax.specs.declared.annotation.Inequality.{Inequality}
use Rattle.syntax.specs.declared.annotation.Zone.{Zone}
use Rattle.syntax.specs.declared.annotation.Pending.{Pending}
use Rattle.syntax.specs.declared.annotation.Measure.{Measure}
use Rattle.syntax.specs.declared.annotation.Budget.{Budget}
use Rattle.syntax.specs.declared.annotation.Left.{Left}
use Rattle.syntax.specs.declared.annotation.FunctionNotes.{FunctionNotes}
use Rattle.syntax.specs.declared.annotation.BlockNotes.{BlockNotes}
use Rattle.syntax.specs.declared.instruction.Phi.{Phi}
use Rattle.syntax.specs.declared.instruction.Step.{Step}
use Rattle.syntax.specs.declared.terminator.Ending.{Ending}
use Rattle.syntax.specs.declared.module.Global.{Global}
use Rattle.syntax.specs.declared.module.Block.{Block}
use Rattle.syntax.specs.declared.module.Function.{Function}
use Rattle.syntax.specs.declared.module.Module.{Module}
use Rattle.ir_spelling.specs.Spelling.{parameters_text}
use Rattle.ir_spelling.specs.InstructionText.{instruction_text, phi_text}
use Rattle.ir_spelling.specs.TerminatorText.{terminator_text}
use Rattle.ir_spelling.specs.LineText.{inner_line, note_line, inequality_line, zone_line, measure_line, budget_line, pending_line, left_line, foot_line, phi_line, step_lines, ending_lines, label_line, function_notes_lines, define_line, global_line}
use Rattle.ir_text.specs.Printed.{block_notes_lines, block_lines, function_lines, module_lines}
use Rattle.ir_text.specs.Items.{note_items, function_note_items, block_note_items, step_items, ending_items, body_items, block_items, function_items, module_items, printed_line, module_text}
use Rattle.ir_spelling.proofs.Spelled.{right4, right5, right7, instruction_same, phi_same, terminator_same, parameters_same}

-- ---- lines of annotations

noted : (words : List (List ℕ)) (text : List ℕ) → words_text words ≡ 32 ∷ text → (codes "  ;!" ++ words_text words) ++ 10 ∷ [] ≡ note_line text
noted words text h = ap (λ (t : List ℕ). codes "  ;!" ++ (t ++ 10 ∷ [])) h

four_words : (a b c d : List ℕ) → words_text (a ∷ b ∷ c ∷ d ∷ []) ≡ 32 ∷ (a ++ codes " " ++ b ++ codes " " ++ c ++ codes " " ++ d)
four_words a b c d = ap (λ (t : List ℕ). 32 ∷ (a ++ (32 ∷ (b ++ (32 ∷ (c ++ (32 ∷ t))))))) (append-nil d) ∙ ap (λ (t : List ℕ). 32 ∷ t) (sym (right7 a (codes " ") b (codes " ") c (codes " ") d))

inequality_words_same : (word : List ℕ) (i : Inequality) → words_text (word ∷ form_text i.left ∷ relation_text i.relation ∷ form_text i.right ∷ []) ≡ 32 ∷ inequality_text word i
unfolding inequality_text
inequality_words_same word i = four_words word (form_text i.left) (relation_text i.relation) (form_text i.right)

zone_words_same : (z : Zone) → words_text (mode_text z.mode ∷ object_text z.object ∷ form_text z.low ∷ form_text z.high ∷ []) ≡ 32 ∷ zone_text z
unfolding zone_text
zone_words_same z = four_words (mode_text z.mode) (object_text z.object) (form_text z.low) (form_text z.high)

requires_line : (i : Inequality) → printed_line (item.Annotation (annotation.Requires i)) ≡ inequality_line (codes "requires") i
requires_line i = noted (annotation_words (annotation.Requires i)) (inequality_text (codes "requires") i) (inequality_words_same (codes "requires") i)

ensures_line : (i : Inequality) → printed_line (item.Annotation (annotation.Ensures i)) ≡ inequality_line (codes "ensures") i
ensures_line i = noted (annotation_words (annotation.Ensures i)) (inequality_text (codes "ensures") i) (inequality_words_same (codes "ensures") i)

keeps_line : (i : Inequality) → printed_line (item.Annotation (annotation.Keeps i)) ≡ inequality_line (codes "keeps") i
keeps_line i = noted (annotation_words (annotation.Keeps i)) (inequality_text (codes "keeps") i) (inequality_words_same (codes "keeps") i)

shows_line : (i : Inequality) → printed_line (item.Annotation (annotation.Shows i)) ≡ inequality_line (codes "shows") i
shows_line i = noted (annotation_words (annotation.Shows i)) (inequality_text (codes "shows") i) (inequality_words_same (codes "shows") i)

zone_line_same : (z : Zone) → printed_line (item.Annotation (annotation.FunctionZone z)) ≡ zone_line z
zone_line_same z = noted (annotation_words (annotation.FunctionZone z)) (zone_text z) (zone_words_same z)

measure_line_same : (m : Measure) → printed_line (item.Annotation (annotation.Measure m)) ≡ measure_line m
unfolding measure_text
measure_line_same m =
    noted (annotation_words (annotation.Measure m)) (measure_text m)
    (ap (λ (t : List ℕ). codes " measure " ++ (form_text m.form ++ (codes " max " ++ t))) (append-nil (decimal m.bound)) ∙ ap (λ (t : List ℕ). 32 ∷ t) (sym (right4 (codes "measure ") (form_text m.form) (codes " max ") (decimal m.bound))))

budget_line_same : (b : Budget) → printed_line (item.Annotation (annotation.Budget b)) ≡ budget_line b
unfolding budget_text
budget_line_same b =
    noted (annotation_words (annotation.Budget b)) (budget_text b)
    (ap (λ (t : List ℕ). codes " budget " ++ (decimal b.self_calls ++ (codes " " ++ t))) (append-nil (decimal b.instructions))
    ∙ ap (λ (t : List ℕ). 32 ∷ t) (sym (right4 (codes "budget ") (decimal b.self_calls) (codes " ") (decimal b.instructions))))

pending_line_same : (p : Pending) → printed_line (item.Annotation (annotation.Pending p)) ≡ pending_line p
unfolding pending_text
pending_line_same p =
    noted (annotation_words (annotation.Pending p)) (pending_text p)
    (ap (λ (t : List ℕ). codes " pending %" ++ (p.region ++ t)) (zone_words_same p.zone) ∙ ap (λ (t : List ℕ). 32 ∷ t) (sym (right4 (codes "pending %") p.region (codes " ") (zone_text p.zone))))

left_line_same : (l : Left) → printed_line (item.Annotation (annotation.Left l)) ≡ left_line l
unfolding left_text
left_line_same l =
    noted (annotation_words (annotation.Left l)) (left_text l)
    (ap (λ (t : List ℕ). codes " left " ++ (form_text l.self_calls ++ (codes " " ++ t))) (append-nil (form_text l.instructions))
    ∙ ap (λ (t : List ℕ). 32 ∷ t) (sym (right4 (codes "left ") (form_text l.self_calls) (codes " ") (form_text l.instructions))))

foot_line_same : (z : Zone) → printed_line (item.Annotation (annotation.Foot z)) ≡ foot_line z
unfolding foot_text
foot_line_same z = noted (annotation_words (annotation.Foot z)) (foot_text z) (ap (λ (t : List ℕ). codes " foot" ++ t) (zone_words_same z))

-- ---- other lines

inner_same : (atoms text : List ℕ) → atoms ≡ text → (codes "  " ++ atoms) ++ 10 ∷ [] ≡ inner_line text
inner_same atoms text h = ap (λ (t : List ℕ). codes "  " ++ (t ++ 10 ∷ [])) h

phi_line_same : (p : Phi) → printed_line (item.Phi p) ≡ phi_line p
phi_line_same p = inner_same (text_of (phi_atoms p)) (phi_text p) (phi_same p)

label_line_same : (label : List ℕ) → printed_line (item.Label label) ≡ label_line label
label_line_same label = append_assoc label (codes ":") (10 ∷ [])

line_ended : (a b c d e t n : List ℕ) → (a ++ (b ++ (c ++ (d ++ (e ++ t))))) ++ n ≡ a ++ (b ++ (c ++ (d ++ (e ++ (t ++ n)))))
line_ended a b c d e t n = simp append_assoc

define_line_same : (f : Function) → printed_line (item.Define f.name f.result_type f.parameters) ≡ define_line f
unfolding define_line
define_line_same f =
    let closed : List Atom = parted parameter_atoms f.parameters ++ Token (symbols.Mark 41) ∷ [] in
    let brace : List Atom = Blank ∷ Token (symbols.Mark 123) ∷ [] in
    let list : List ℕ = text_of (closed ++ brace) in
    let params : List ℕ = parameters_text f.parameters in
    let ended : list ++ 10 ∷ [] ≡ params ++ codes ") {\n" =
    ap (λ (t : List ℕ). t ++ 10 ∷ []) (text_appended closed brace ∙ ap (λ (t : List ℕ). t ++ codes " {") (parameters_same f.parameters)) ∙ right4 params (codes ")") (codes " {") (10 ∷ []) in
    line_ended (codes "define ") (result_word f.result_type) (codes " @") f.name (codes "(") list (10 ∷ [])
    ∙ ap (λ (t : List ℕ). codes "define " ++ (result_word f.result_type ++ (codes " @" ++ (f.name ++ (codes "(" ++ t))))) ended
    ∙ sym (right7 (codes "define ") (result_word f.result_type) (codes " @") f.name (codes "(") params (codes ") {\n"))

global_ended : (n a d z e : List ℕ) → (n ++ (a ++ (d ++ z))) ++ e ≡ n ++ (a ++ (d ++ (z ++ e)))
global_ended n a d z e = simp append_assoc

global_grouped : (a n g b d x z : List ℕ) → a ++ n ++ g ++ (b ++ d ++ x) ++ z ≡ a ++ (n ++ (g ++ (b ++ (d ++ (x ++ z)))))
global_grouped a n g b d x z = simp append_assoc

global_line_same : (g : Global) → printed_line (item.Global g) ≡ global_line g
global_line_same g =
    ap (λ (t : List ℕ). 64 ∷ t) (global_ended g.name (codes " = global [") (decimal g.cells) (codes " x i64] zeroinitializer") (10 ∷ []))
    ∙ sym (global_grouped (codes "@") g.name (codes " = global ") (codes "[") (decimal g.cells) (codes " x i64]") (codes " zeroinitializer\n"))

-- ---- all lines

abbrev lines : List Item → List ℕ
lines items = flat_map printed_line items

onto : (xs ys : List Item) (t u : List ℕ) → lines xs ≡ t → lines ys ≡ u → lines (xs ++ ys) ≡ t ++ u
onto xs ys t u h k = flat_map-append printed_line xs ys ∙ ap (λ (a : List ℕ). a ++ lines ys) h ∙ ap (λ (a : List ℕ). t ++ a) k

kind_lines : {A : Type 0} (kind : A → Item) (line : A → List ℕ) → ((x : A) → printed_line (kind x) ≡ line x) → (xs : List A) → lines (map kind xs) ≡ flat_map line xs
kind_lines kind line same [] = refl
kind_lines kind line same (x ∷ xs) = ap (λ (t : List ℕ). t ++ lines (map kind xs)) (same x) ∙ ap (λ (t : List ℕ). line x ++ t) (kind_lines kind line same xs)

part_lines : {A : Type 0} (items : A → List Item) (line : A → List ℕ) → ((x : A) → lines (items x) ≡ line x) → (xs : List A) → lines (flat_map items xs) ≡ flat_map line xs
part_lines items line same [] = refl
part_lines items line same (x ∷ xs) = onto (items x) (flat_map items xs) (line x) (flat_map line xs) (same x) (part_lines items line same xs)

one_line : (i : Item) (text : List ℕ) → printed_line i ≡ text → lines (i ∷ []) ≡ text
one_line i text h = append-nil (printed_line i) ∙ h

function_notes_same : (n : FunctionNotes) → lines (function_note_items n) ≡ function_notes_lines n
unfolding function_note_items function_notes_lines
function_notes_same n =
    let requires : List ℕ = flat_map (inequality_line (codes "requires")) n.requirements in
    let ensures : List ℕ = flat_map (inequality_line (codes "ensures")) n.guarantees in
    let reads : List ℕ = flat_map zone_line n.reads in
    let writes : List ℕ = flat_map zone_line n.writes in
    let adds : List ℕ = flat_map zone_line n.adds in
    let last : List Item = item.Annotation (annotation.Measure n.measure) ∷ item.Annotation (annotation.Budget n.budget) ∷ [] in
    let two : lines last ≡ measure_line n.measure ++ budget_line n.budget =
    ap (λ (t : List ℕ). t ++ lines (item.Annotation (annotation.Budget n.budget) ∷ [])) (measure_line_same n.measure)
    ∙ ap (λ (t : List ℕ). measure_line n.measure ++ t) (one_line (item.Annotation (annotation.Budget n.budget)) (budget_line n.budget) (budget_line_same n.budget)) in
    let zones : (zs : List Zone) → lines (note_items annotation.FunctionZone zs) ≡ flat_map zone_line zs = λ (zs : List Zone). kind_lines (λ (z : Zone). item.Annotation (annotation.FunctionZone z)) zone_line zone_line_same zs in
    let e = onto (note_items annotation.FunctionZone n.adds) last adds (measure_line n.measure ++ budget_line n.budget) (zones n.adds) two in
    let d = onto (note_items annotation.FunctionZone n.writes) (note_items annotation.FunctionZone n.adds ++ last) writes (adds ++ (measure_line n.measure ++ budget_line n.budget)) (zones n.writes) e in
    let c = onto (note_items annotation.FunctionZone n.reads) (note_items annotation.FunctionZone n.writes ++ (note_items annotation.FunctionZone n.adds ++ last)) reads (writes ++ (adds ++ (measure_line n.measure ++ budget_line n.budget))) (zones n.reads) d in
    let b = onto (note_items annotation.Ensures n.guarantees) (note_items annotation.FunctionZone n.reads ++ (note_items annotation.FunctionZone n.writes ++ (note_items annotation.FunctionZone n.adds ++ last))) ensures
    (reads ++ (writes ++ (adds ++ (measure_line n.measure ++ budget_line n.budget)))) (kind_lines (λ (i : Inequality). item.Annotation (annotation.Ensures i)) (inequality_line (codes "ensures")) ensures_line n.guarantees) c in
    onto (note_items annotation.Requires n.requirements) (note_items annotation.Ensures n.guarantees ++ (note_items annotation.FunctionZone n.reads ++ (note_items annotation.FunctionZone n.writes ++ (note_items annotation.FunctionZone n.adds ++ last))))
    requires (ensures ++ (reads ++ (writes ++ (adds ++ (measure_line n.measure ++ budget_line n.budget)))))
    (kind_lines (λ (i : Inequality). item.Annotation (annotation.Requires i)) (inequality_line (codes "requires")) requires_line n.requirements) b
    ∙ sym (right7 requires ensures reads writes adds (measure_line n.measure) (budget_line n.budget))

block_notes_same : (n : BlockNotes) → lines (block_note_items n) ≡ block_notes_lines n
unfolding block_note_items block_notes_lines
block_notes_same n =
    let keeps : List ℕ = flat_map (inequality_line (codes "keeps")) n.keeps in
    let pending : List ℕ = flat_map pending_line n.pending in
    let foot : List ℕ = flat_map foot_line n.foot in
    let feet : List Item = note_items annotation.Foot n.foot in
    let left : lines (item.Annotation (annotation.Left n.left) ∷ feet) ≡ left_line n.left ++ foot =
    ap (λ (t : List ℕ). t ++ lines feet) (left_line_same n.left) ∙ ap (λ (t : List ℕ). left_line n.left ++ t) (kind_lines (λ (z : Zone). item.Annotation (annotation.Foot z)) foot_line foot_line_same n.foot) in
    let pends = onto (note_items annotation.Pending n.pending) (item.Annotation (annotation.Left n.left) ∷ feet) pending (left_line n.left ++ foot)
    (kind_lines (λ (p : Pending). item.Annotation (annotation.Pending p)) pending_line pending_line_same n.pending) left in
    onto (note_items annotation.Keeps n.keeps) (note_items annotation.Pending n.pending ++ item.Annotation (annotation.Left n.left) ∷ feet) keeps (pending ++ (left_line n.left ++ foot))
    (kind_lines (λ (i : Inequality). item.Annotation (annotation.Keeps i)) (inequality_line (codes "keeps")) keeps_line n.keeps) pends
    ∙ sym (right4 keeps pending (left_line n.left) foot)

shown_same : (shows : List Inequality) (i : Item) (text : List ℕ) → printed_line i ≡ text → lines (note_items annotation.Shows shows ++ i ∷ []) ≡ flat_map (inequality_line (codes "shows")) shows ++ text
shown_same shows i text h =
    onto (note_items annotation.Shows shows) (i ∷ []) (flat_map (inequality_line (codes "shows")) shows) text (kind_lines (λ (x : Inequality). item.Annotation (annotation.Shows x)) (inequality_line (codes "shows")) shows_line shows) (one_line i text h)

step_same : (s : Step) → lines (step_items s) ≡ step_lines s
unfolding step_lines
step_same s = shown_same s.shows (item.Instruction s.instruction) (inner_line (instruction_text s.instruction)) (inner_same (text_of (instruction_atoms s.instruction)) (instruction_text s.instruction) (instruction_same s.instruction))

ending_same : (e : Option Ending) → lines (ending_items e) ≡ ending_lines e
ending_same None = refl
ending_same (Some e) = shown_same e.shows (item.Terminator e.terminator) (inner_line (terminator_text e.terminator)) (inner_same (text_of (terminator_atoms e.terminator)) (terminator_text e.terminator) (terminator_same e.terminator))

block_same : (b : Block) → lines (block_items b) ≡ block_lines b
unfolding block_items block_lines
block_same b =
    let phis : List ℕ = flat_map phi_line b.phis in
    let steps : List ℕ = flat_map step_lines b.steps in
    let tail = onto (flat_map step_items b.steps) (ending_items b.ending) steps (ending_lines b.ending) (part_lines step_items step_lines step_same b.steps) (ending_same b.ending) in
    let body = onto (map item.Phi b.phis) (flat_map step_items b.steps ++ ending_items b.ending) phis (steps ++ ending_lines b.ending) (kind_lines item.Phi phi_line phi_line_same b.phis) tail in
    let rest = onto (block_note_items b.notes) (body_items b) (block_notes_lines b.notes) (phis ++ (steps ++ ending_lines b.ending)) (block_notes_same b.notes) body in
    ap (λ (t : List ℕ). t ++ lines (block_note_items b.notes ++ body_items b)) (label_line_same b.label) ∙ ap (λ (t : List ℕ). label_line b.label ++ t) rest
    ∙ sym (right5 (label_line b.label) (block_notes_lines b.notes) phis steps (ending_lines b.ending))

function_same : (f : Function) → lines (function_items f) ≡ function_lines f
unfolding function_items function_lines
function_same f =
    let blocks : List ℕ = flat_map block_lines f.blocks in
    let close : lines (item.Close ∷ []) ≡ codes "}\n" = refl in
    let tail = onto (flat_map block_items f.blocks) (item.Close ∷ []) blocks (codes "}\n") (part_lines block_items block_lines block_same f.blocks) close in
    let rest = onto (function_note_items f.notes) (flat_map block_items f.blocks ++ item.Close ∷ []) (function_notes_lines f.notes) (blocks ++ codes "}\n") (function_notes_same f.notes) tail in
    ap (λ (t : List ℕ). t ++ lines (function_note_items f.notes ++ (flat_map block_items f.blocks ++ item.Close ∷ []))) (define_line_same f) ∙ ap (λ (t : List ℕ). define_line f ++ t) rest
    ∙ sym (right4 (define_line f) (function_notes_lines f.notes) blocks (codes "}\n"))

-- The canonical text of a module is what the printer writes, part by part.
pub module_same : (m : Module) → module_text m ≡ module_lines m
unfolding module_items module_lines
module_same m =
    onto (map item.Global m.globals) (flat_map function_items m.functions) (flat_map global_line m.globals) (flat_map function_lines m.functions) (kind_lines item.Global global_line global_line_same m.globals)
    (part_lines function_items function_lines function_same m.functions)
