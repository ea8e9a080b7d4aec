-- Where an item may stand, the names and the limits do not depend on lines.
use Rattle.std.proofs.Common.{◌≡◌, ℕ, ◌+◌, Bool, true, false, List, [], ◌∷◌, ◌++◌, length, map, Option, Some, None, refl, sym, ap, ◌∙◌, arith}
use Rattle.std.specs.Prelude.{option_map, ◌&&◌, ◌||◌, ◌==◌, if◌then◌else◌}
use Rattle.std.specs.List.{flat_map, sum_by}
use Rattle.std.proofs.lemmas.List.{length-map, map_push}
use Rattle.std.proofs.lemmas.List.Sums.{sum_by-cons}
use Rattle.ir_annotation.specs.declared.meaning.Annotation.{Annotation}
use Rattle.ir_annotation.specs.declared.meaning.Annotation.TheVariants as annotation
use Rattle.ir_annotation.specs.Annotations.{inequality_on, zone_on, pending_on, annotation_on}
use Rattle.ir_reader.specs.declared.item.item.Item.{Item}
use Rattle.ir_reader.specs.declared.item.item.Item.TheVariants as item
use Rattle.ir_reader.specs.item.Printed.{item_on}
use Rattle.syntax.specs.declared.annotation.Inequality.{Inequality}
use Rattle.syntax.specs.declared.annotation.Zone.{Zone}
use Rattle.syntax.specs.declared.annotation.Pending.{Pending}
use Rattle.syntax.specs.declared.annotation.FunctionNotes.{FunctionNotes}
use Rattle.syntax.specs.declared.annotation.BlockNotes.{BlockNotes}
use Rattle.syntax.specs.declared.operator.Mode.{Mode}
use Rattle.syntax.specs.declared.operator.Mode.TheVariants as mode
use Rattle.syntax.specs.declared.instruction.Instruction.{Instruction}
use Rattle.syntax.specs.declared.instruction.Phi.{Phi}
use Rattle.syntax.specs.declared.instruction.Step.{Step}
use Rattle.syntax.specs.declared.module.Global.{Global}
use Rattle.syntax.specs.declared.module.Block.{Block}
use Rattle.syntax.specs.declared.module.Function.{Function}
use Rattle.syntax.specs.declared.module.Module.{Module}
use Rattle.ir_reader.specs.declared.annotating.FunctionHead.{FunctionHead}
use Rattle.ir_reader.specs.declared.annotating.BlockHead.{BlockHead}
use Rattle.ir_reader.specs.declared.draft.Draft.{Draft}
use Rattle.ir_reader.specs.declared.draft.LineContext.{LineContext}
use Rattle.ir_reader.specs.declared.draft.LineContext.TheVariants as place
use Rattle.ir_reader.specs.declared.limits.Counts.{Counts}
use Rattle.ir_reader.specs.Opening.{with_global, with_function, with_block, with_phi, with_step}
use Rattle.ir_reader.specs.Annotating.{with_function_notes, with_block_notes, with_zone_of, annotated_function}
use Rattle.ir_reader.specs.Draft.{drafted, new_place, placed, placed_in, placed_outside, placed_at_function, placed_in_function_head, placed_at_block, annotated_in_block_head, placed_in_block_head, placed_in_phis, annotated_in_body, placed_in_body, placed_in_ended}
use Rattle.ir_reader.specs.Names.{is_repeated}
use Rattle.ir_reader.specs.Defined.{parameter_name, step_registers, phi_register, block_registers, block_names, function_names, global_name, function_name, module_names, reserved_outside, reserved_inside, option_list, open_function, names_beside, names_outside, names_in, names_inside, defined_outside, defined_inside, inside_before}
use Rattle.ir_reader.specs.Limits.{global_cells, step_cells, block_cells, function_cells, block_register_count, register_count, is_place_within}
use Rattle.ir_reader.specs.Counting.{registers_in, cells_in, counts_of, are_counts_within, is_within_limits}
use Rattle.ir_reader.specs.Reading.{defines_again}
use Rattle.ir_text.specs.Unlined.{unlined_inequalities, unlined_zones, unlined_function_notes, unlined_block_notes, unlined_phi, unlined_step, unlined_block, unlined_function, unlined_global, unlined}

abbrev pub unlined_function_head : FunctionHead → FunctionHead
unlined_function_head h = record h { function = unlined_function h.function }

abbrev pub unlined_block_head : BlockHead → BlockHead
unlined_block_head h = record h { block = unlined_block h.block }

abbrev pub unlined_place : LineContext → LineContext
unlined_place place.Outside = place.Outside
unlined_place (place.FunctionHead h) = place.FunctionHead (unlined_function_head h)
unlined_place (place.BlockHead f h) = place.BlockHead (unlined_function f) (unlined_block_head h)
unlined_place (place.Phis f b) = place.Phis (unlined_function f) (unlined_block b)
unlined_place (place.Body f b shows) = place.Body (unlined_function f) (unlined_block b) (unlined_inequalities shows)
unlined_place (place.Ended f b) = place.Ended (unlined_function f) (unlined_block b)

abbrev pub unlined_draft : Draft → Draft
unlined_draft d = record { whole = unlined d.whole; place = unlined_place d.place }

-- ---- one part more

with_block-unlined : (f : Function) (b : Block) → unlined_function (with_block f b) ≡ with_block (unlined_function f) (unlined_block b)
with_block-unlined f b = ap (λ (bs : List Block). let g : Function = record (unlined_function f) { blocks = bs } in g) (map_push unlined_block f.blocks b)

with_function-unlined : (m : Module) (f : Function) → unlined (with_function m f) ≡ with_function (unlined m) (unlined_function f)
with_function-unlined m f = ap (λ (fs : List Function). let n : Module = record { globals = map unlined_global m.globals; functions = fs } in n) (map_push unlined_function m.functions f)

with_global-unlined : (m : Module) (g : Global) → unlined (with_global m g) ≡ with_global (unlined m) (unlined_global g)
with_global-unlined m g = ap (λ (gs : List Global). let n : Module = record { globals = gs; functions = map unlined_function m.functions } in n) (map_push unlined_global m.globals g)

with_phi-unlined : (b : Block) (p : Phi) → unlined_block (with_phi b p) ≡ with_phi (unlined_block b) (unlined_phi p)
with_phi-unlined b p = ap (λ (ps : List Phi). let c : Block = record (unlined_block b) { phis = ps } in c) (map_push unlined_phi b.phis p)

with_step-unlined : (b : Block) (at : ℕ) (shows : List Inequality) (i : Instruction) → unlined_block (with_step b at shows i) ≡ with_step (unlined_block b) 0 (unlined_inequalities shows) i
with_step-unlined b at shows i = ap (λ (ss : List Step). let c : Block = record (unlined_block b) { steps = ss } in c) (map_push unlined_step b.steps (record { line = at; shows = shows; instruction = i }))

-- ---- places

abbrev some_draft : Draft → Option Draft
some_draft d = Some d

if_unlined : (s t : Bool) (x y : Option Draft) → s ≡ t → option_map unlined_draft x ≡ y → option_map unlined_draft (if s then x else None) ≡ (if t then y else None)
if_unlined true true x y e h = h
if_unlined true false x y e h = absurd cc
if_unlined false true x y e h = absurd cc
if_unlined false false x y e h = refl

same_test : {A B : Type 0} (xs : List A) (f : A → B) → (length xs == 0) ≡ (length (map f xs) == 0)
same_test xs f = ap (λ (n : ℕ). n == 0) (sym (length-map xs f))

ended_unlined : (m : Module) (f : Function) (b : Block) (at : ℕ) (i : Item) → option_map unlined_draft (placed_in_ended m f b at i) ≡ placed_in_ended (unlined m) (unlined_function f) (unlined_block b) 0 (item_on 0 i)
ended_unlined m f b at (item.Label label) = ap (λ (g : Function). some_draft (drafted (unlined m) (new_place g 0 label))) (with_block-unlined f b)
ended_unlined m f b at item.Close =
    ap (λ (n : Module). some_draft (drafted n place.Outside)) (with_function-unlined m (with_block f b)) ∙ ap (λ (g : Function). some_draft (drafted (with_function (unlined m) g) place.Outside)) (with_block-unlined f b)
ended_unlined m f b at _ = refl

body_annotated : (m : Module) (f : Function) (b : Block) (shows : List Inequality) (a : Annotation)
    → option_map unlined_draft (annotated_in_body m f b shows a) ≡ annotated_in_body (unlined m) (unlined_function f) (unlined_block b) (unlined_inequalities shows) (annotation_on 0 a)
body_annotated m f b shows (annotation.Shows i) = ap (λ (is : List Inequality). some_draft (drafted (unlined m) (place.Body (unlined_function f) (unlined_block b) is))) (map_push (inequality_on 0) shows i)
body_annotated m f b shows _ = refl

body_unlined : (m : Module) (f : Function) (b : Block) (shows : List Inequality) (at : ℕ) (i : Item)
    → option_map unlined_draft (placed_in_body m f b shows at i) ≡ placed_in_body (unlined m) (unlined_function f) (unlined_block b) (unlined_inequalities shows) 0 (item_on 0 i)
body_unlined m f b shows at (item.Annotation a) = body_annotated m f b shows a
body_unlined m f b shows at (item.Instruction i) = ap (λ (c : Block). some_draft (drafted (unlined m) (place.Body (unlined_function f) c []))) (with_step-unlined b at shows i)
body_unlined m f b shows at (item.Terminator t) = refl
body_unlined m f b shows at i =
    if_unlined (length shows == 0) (length (unlined_inequalities shows) == 0) (placed_in_ended m f b at i) (placed_in_ended (unlined m) (unlined_function f) (unlined_block b) 0 (item_on 0 i)) (same_test shows (inequality_on 0))
    (ended_unlined m f b at i)

phis_unlined : (m : Module) (f : Function) (b : Block) (at : ℕ) (i : Item) → option_map unlined_draft (placed_in_phis m f b at i) ≡ placed_in_phis (unlined m) (unlined_function f) (unlined_block b) 0 (item_on 0 i)
phis_unlined m f b at (item.Phi p) = ap (λ (c : Block). some_draft (drafted (unlined m) (place.Phis (unlined_function f) c))) (with_phi-unlined b p)
phis_unlined m f b at i = body_unlined m f b [] at i

abbrev some_block_head : BlockHead → Option BlockHead
some_block_head h = Some h

once_block : (m : Module) (f : Function) (test : Bool) (g h : BlockHead) → unlined_block_head g ≡ h
    → option_map unlined_draft (placed_at_block m f (if test then None else Some g)) ≡ placed_at_block (unlined m) (unlined_function f) (if test then None else Some h)
once_block m f true g h e = refl
once_block m f false g h e = ap (λ (k : BlockHead). some_draft (drafted (unlined m) (place.BlockHead (unlined_function f) k))) e

abbrev noted_block : BlockHead → BlockNotes → BlockHead
noted_block h n = record h { block = with_block_notes h.block n }

at_block : (m : Module) (f : Function) (h : BlockHead) (n p : BlockNotes) → unlined_block_notes n ≡ p
    → option_map unlined_draft (Some (drafted m (place.BlockHead f (noted_block h n)))) ≡ Some (drafted (unlined m) (place.BlockHead (unlined_function f) (noted_block (unlined_block_head h) p)))
at_block m f h n p e = ap (λ (q : BlockNotes). some_draft (drafted (unlined m) (place.BlockHead (unlined_function f) (noted_block (unlined_block_head h) q)))) e

block_annotated : (m : Module) (f : Function) (h : BlockHead) (a : Annotation)
    → option_map unlined_draft (annotated_in_block_head m f h a) ≡ annotated_in_block_head (unlined m) (unlined_function f) (unlined_block_head h) (annotation_on 0 a)
block_annotated m f h (annotation.Shows i) = refl
block_annotated m f h (annotation.Keeps i) =
    let n : BlockNotes = h.block.notes in
    at_block m f h (record n { keeps = n.keeps ++ i ∷ [] }) (record (unlined_block_notes n) { keeps = unlined_inequalities n.keeps ++ inequality_on 0 i ∷ [] })
    (ap (λ (is : List Inequality). let q : BlockNotes = record (unlined_block_notes n) { keeps = is } in q) (map_push (inequality_on 0) n.keeps i))
block_annotated m f h (annotation.Pending p) =
    let n : BlockNotes = h.block.notes in
    at_block m f h (record n { pending = n.pending ++ p ∷ [] }) (record (unlined_block_notes n) { pending = map (pending_on 0) n.pending ++ pending_on 0 p ∷ [] })
    (ap (λ (ps : List Pending). let q : BlockNotes = record (unlined_block_notes n) { pending = ps } in q) (map_push (pending_on 0) n.pending p))
block_annotated m f h (annotation.Foot z) =
    let n : BlockNotes = h.block.notes in
    at_block m f h (record n { foot = n.foot ++ z ∷ [] }) (record (unlined_block_notes n) { foot = unlined_zones n.foot ++ zone_on 0 z ∷ [] })
    (ap (λ (zs : List Zone). let q : BlockNotes = record (unlined_block_notes n) { foot = zs } in q) (map_push (zone_on 0) n.foot z))
block_annotated m f h (annotation.Left l) =
    let g : BlockHead = record { block = with_block_notes h.block (record h.block.notes { left = l }); has_left = true } in
    once_block m f h.has_left g (unlined_block_head g) refl
block_annotated m f h _ = refl

block_head_unlined : (m : Module) (f : Function) (h : BlockHead) (at : ℕ) (i : Item)
    → option_map unlined_draft (placed_in_block_head m f h at i) ≡ placed_in_block_head (unlined m) (unlined_function f) (unlined_block_head h) 0 (item_on 0 i)
block_head_unlined m f h at (item.Annotation a) = block_annotated m f h a
block_head_unlined m f h at i = phis_unlined m f h.block at i

once_function : (m : Module) (test : Bool) (g h : FunctionHead) → unlined_function_head g ≡ h
    → option_map unlined_draft (placed_at_function m (if test then None else Some g)) ≡ placed_at_function (unlined m) (if test then None else Some h)
once_function m true g h e = refl
once_function m false g h e = ap (λ (k : FunctionHead). some_draft (drafted (unlined m) (place.FunctionHead k))) e

abbrev noted_function : FunctionHead → FunctionNotes → FunctionHead
noted_function h n = record h { function = with_function_notes h.function n }

at_function : (m : Module) (h : FunctionHead) (n p : FunctionNotes) → unlined_function_notes n ≡ p
    → option_map unlined_draft (Some (drafted m (place.FunctionHead (noted_function h n)))) ≡ Some (drafted (unlined m) (place.FunctionHead (noted_function (unlined_function_head h) p)))
at_function m h n p e = ap (λ (q : FunctionNotes). some_draft (drafted (unlined m) (place.FunctionHead (noted_function (unlined_function_head h) q)))) e

zone_unlined : (m : Module) (h : FunctionHead) (z : Zone) (which : Mode)
    → option_map unlined_draft (Some (drafted m (place.FunctionHead (record h { function = with_zone_of which h.function z }))))
    ≡ Some (drafted (unlined m) (place.FunctionHead (record (unlined_function_head h) { function = with_zone_of which (unlined_function h.function) (zone_on 0 z) })))
zone_unlined m h z mode.Reads =
    let n : FunctionNotes = h.function.notes in
    at_function m h (record n { reads = n.reads ++ z ∷ [] }) (record (unlined_function_notes n) { reads = unlined_zones n.reads ++ zone_on 0 z ∷ [] })
    (ap (λ (zs : List Zone). let q : FunctionNotes = record (unlined_function_notes n) { reads = zs } in q) (map_push (zone_on 0) n.reads z))
zone_unlined m h z mode.Writes =
    let n : FunctionNotes = h.function.notes in
    at_function m h (record n { writes = n.writes ++ z ∷ [] }) (record (unlined_function_notes n) { writes = unlined_zones n.writes ++ zone_on 0 z ∷ [] })
    (ap (λ (zs : List Zone). let q : FunctionNotes = record (unlined_function_notes n) { writes = zs } in q) (map_push (zone_on 0) n.writes z))
zone_unlined m h z mode.Adds =
    let n : FunctionNotes = h.function.notes in
    at_function m h (record n { adds = n.adds ++ z ∷ [] }) (record (unlined_function_notes n) { adds = unlined_zones n.adds ++ zone_on 0 z ∷ [] })
    (ap (λ (zs : List Zone). let q : FunctionNotes = record (unlined_function_notes n) { adds = zs } in q) (map_push (zone_on 0) n.adds z))

function_annotated : (m : Module) (h : FunctionHead) (a : Annotation)
    → option_map unlined_draft (placed_at_function m (annotated_function h a)) ≡ placed_at_function (unlined m) (annotated_function (unlined_function_head h) (annotation_on 0 a))
function_annotated m h (annotation.Requires i) =
    let n : FunctionNotes = h.function.notes in
    at_function m h (record n { requirements = n.requirements ++ i ∷ [] }) (record (unlined_function_notes n) { requirements = unlined_inequalities n.requirements ++ inequality_on 0 i ∷ [] })
    (ap (λ (is : List Inequality). let q : FunctionNotes = record (unlined_function_notes n) { requirements = is } in q) (map_push (inequality_on 0) n.requirements i))
function_annotated m h (annotation.Ensures i) =
    let n : FunctionNotes = h.function.notes in
    at_function m h (record n { guarantees = n.guarantees ++ i ∷ [] }) (record (unlined_function_notes n) { guarantees = unlined_inequalities n.guarantees ++ inequality_on 0 i ∷ [] })
    (ap (λ (is : List Inequality). let q : FunctionNotes = record (unlined_function_notes n) { guarantees = is } in q) (map_push (inequality_on 0) n.guarantees i))
function_annotated m h (annotation.FunctionZone z) = zone_unlined m h z z.mode
function_annotated m h (annotation.Measure x) =
    let g : FunctionHead = record h { function = with_function_notes h.function (record h.function.notes { measure = x }); has_measure = true } in
    once_function m h.has_measure g (unlined_function_head g) refl
function_annotated m h (annotation.Budget x) =
    let g : FunctionHead = record h { function = with_function_notes h.function (record h.function.notes { budget = x }); has_budget = true } in
    once_function m h.has_budget g (unlined_function_head g) refl
function_annotated m h _ = refl

function_head_unlined : (m : Module) (h : FunctionHead) (at : ℕ) (i : Item) → option_map unlined_draft (placed_in_function_head m h at i) ≡ placed_in_function_head (unlined m) (unlined_function_head h) 0 (item_on 0 i)
function_head_unlined m h at (item.Annotation a) = function_annotated m h a
function_head_unlined m h at _ = refl

outside_unlined : (m : Module) (at : ℕ) (i : Item) → option_map unlined_draft (placed_outside m at i) ≡ placed_outside (unlined m) 0 (item_on 0 i)
outside_unlined m at (item.Global g) =
    if_unlined (length m.functions == 0) (length (map unlined_function m.functions) == 0) (Some (drafted (with_global m g) place.Outside)) (Some (drafted (with_global (unlined m) (unlined_global g)) place.Outside))
    (same_test m.functions unlined_function) (ap (λ (n : Module). some_draft (drafted n place.Outside)) (with_global-unlined m g))
outside_unlined m at _ = refl

in_place : (m : Module) (p : LineContext) (at : ℕ) (i : Item) → option_map unlined_draft (placed_in m p at i) ≡ placed_in (unlined m) (unlined_place p) 0 (item_on 0 i)
in_place m place.Outside at i = outside_unlined m at i
in_place m (place.FunctionHead h) at i = function_head_unlined m h at i
in_place m (place.BlockHead f h) at i = block_head_unlined m f h at i
in_place m (place.Phis f b) at i = phis_unlined m f b at i
in_place m (place.Body f b shows) at i = body_unlined m f b shows at i
in_place m (place.Ended f b) at i = ended_unlined m f b at i

pub placed_unlined : (d : Draft) (at : ℕ) (i : Item) → option_map unlined_draft (placed d at i) ≡ placed (unlined_draft d) 0 (item_on 0 i)
placed_unlined d at i = in_place d.whole d.place at i

-- ---- names and counts

flat_same : {A C : Type 0} (h : A → List C) (v : A → A) → ((x : A) → h (v x) ≡ h x) → (xs : List A) → flat_map h (map v xs) ≡ flat_map h xs
flat_same h v same [] = refl
flat_same {A} {C} h v same (x ∷ xs) = ap (λ (ys : List C). ys ++ flat_map h (map v xs)) (same x) ∙ ap (λ (ys : List C). h x ++ ys) (flat_same h v same xs)

map_same : {A C : Type 0} (h : A → C) (v : A → A) → ((x : A) → h (v x) ≡ h x) → (xs : List A) → map h (map v xs) ≡ map h xs
map_same h v same [] = refl
map_same {A} {C} h v same (x ∷ xs) = ap (λ (y : C). y ∷ map h (map v xs)) (same x) ∙ ap (λ (ys : List C). h x ∷ ys) (map_same h v same xs)

sum_same : {A : Type 0} (h : A → ℕ) (v : A → A) → ((x : A) → h (v x) ≡ h x) → (xs : List A) → sum_by h (map v xs) ≡ sum_by h xs
sum_same h v same [] = refl
sum_same h v same (x ∷ xs) =
    let more : h (v x) + sum_by h (map v xs) ≡ h x + sum_by h xs = omega (arith, same x, sum_same h v same xs) in
    sum_by-cons h (v x) (map v xs) ∙ more ∙ sym (sum_by-cons h x xs)

block_registers-unlined : (b : Block) → block_registers (unlined_block b) ≡ block_registers b
unfolding block_registers
block_registers-unlined b =
    ap (λ (ns : List (List ℕ)). ns ++ flat_map step_registers (map unlined_step b.steps)) (map_same phi_register unlined_phi (λ p. refl) b.phis)
    ∙ ap (λ (ns : List (List ℕ)). map phi_register b.phis ++ ns) (flat_same step_registers unlined_step (λ s. refl) b.steps)

block_names-unlined : (b : Block) → block_names (unlined_block b) ≡ block_names b
block_names-unlined b = ap (λ (ns : List (List ℕ)). b.label ∷ ns) (block_registers-unlined b)

pub function_names-unlined : (f : Function) → function_names (unlined_function f) ≡ function_names f
unfolding function_names
function_names-unlined f = ap (λ (ns : List (List ℕ)). map parameter_name f.parameters ++ ns) (flat_same block_names unlined_block block_names-unlined f.blocks)

pub module_names-unlined : (m : Module) → module_names (unlined m) ≡ module_names m
unfolding module_names
module_names-unlined m =
    ap (λ (ns : List (List ℕ)). ns ++ map function_name (map unlined_function m.functions)) (map_same global_name unlined_global (λ g. refl) m.globals)
    ∙ ap (λ (ns : List (List ℕ)). map global_name m.globals ++ ns) (map_same function_name unlined_function (λ f. refl) m.functions)

pub register_count-unlined : (f : Function) → register_count (unlined_function f) ≡ register_count f
unfolding register_count
register_count-unlined f = ap (λ (n : ℕ). length f.parameters + n) (sum_same block_register_count unlined_block (λ b. ap (λ (ns : List (List ℕ)). length ns) (block_registers-unlined b)) f.blocks)

pub function_cells-unlined : (f : Function) → function_cells (unlined_function f) ≡ function_cells f
unfolding function_cells
function_cells-unlined f = sum_same block_cells unlined_block (λ b. sum_same step_cells unlined_step (λ s. refl) b.steps) f.blocks

pub global_cells-unlined : (m : Module) → global_cells (unlined m) ≡ global_cells m
global_cells-unlined m = sum_same (λ (g : Global). g.cells) unlined_global (λ g. refl) m.globals

open_unlined : (p : LineContext) → open_function (unlined_place p) ≡ option_map unlined_function (open_function p)
open_unlined place.Outside = refl
open_unlined (place.FunctionHead h) = refl
open_unlined (place.BlockHead f h) = ap (λ (g : Function). let o : Option Function = Some g in o) (sym (with_block-unlined f h.block))
open_unlined (place.Phis f b) = ap (λ (g : Function). let o : Option Function = Some g in o) (sym (with_block-unlined f b))
open_unlined (place.Body f b shows) = ap (λ (g : Function). let o : Option Function = Some g in o) (sym (with_block-unlined f b))
open_unlined (place.Ended f b) = ap (λ (g : Function). let o : Option Function = Some g in o) (sym (with_block-unlined f b))

names_of_open : (o : Option Function) → map function_name (option_list (option_map unlined_function o)) ≡ map function_name (option_list o)
names_of_open None = refl
names_of_open (Some f) = refl

pub outside-unlined : (d : Draft) → names_outside (unlined_draft d) ≡ names_outside d
outside-unlined d =
    ap (λ (o : Option Function). names_beside (unlined d.whole) o) (open_unlined d.place) ∙ ap (λ (ns : List (List ℕ)). reserved_outside ∷ (module_names (unlined d.whole) ++ ns)) (names_of_open (open_function d.place))
    ∙ ap (λ (ns : List (List ℕ)). reserved_outside ∷ (ns ++ map function_name (option_list (open_function d.place)))) (module_names-unlined d.whole)

names_in-unlined : (o : Option Function) → names_in (option_map unlined_function o) ≡ names_in o
names_in-unlined None = refl
names_in-unlined (Some f) = ap (λ (ns : List (List ℕ)). reserved_inside ∷ ns) (function_names-unlined f)

pub inside-unlined : (d : Draft) → names_inside (unlined_draft d) ≡ names_inside d
inside-unlined d = ap names_in (open_unlined d.place) ∙ names_in-unlined (open_function d.place)

registers_in-unlined : (o : Option Function) → registers_in (option_map unlined_function o) ≡ registers_in o
registers_in-unlined None = refl
registers_in-unlined (Some f) = register_count-unlined f

cells_in-unlined : (o : Option Function) → cells_in (option_map unlined_function o) ≡ cells_in o
cells_in-unlined None = refl
cells_in-unlined (Some f) = function_cells-unlined f

same_counts : (a b c d e f : ℕ) → a ≡ b → c ≡ d → e ≡ f → (let x : Counts = record { global_cells = a; registers = c; alloca_cells = e } in x) ≡ record { global_cells = b; registers = d; alloca_cells = f }
same_counts a b c d e f p q r = cc

pub counts-unlined : (d : Draft) → counts_of (unlined_draft d) ≡ counts_of d
counts-unlined d =
    let o : Option Function = open_function d.place in
    same_counts (global_cells (unlined d.whole)) (global_cells d.whole) (registers_in (open_function (unlined_place d.place))) (registers_in o) (cells_in (open_function (unlined_place d.place))) (cells_in o) (global_cells-unlined d.whole)
    (ap registers_in (open_unlined d.place) ∙ registers_in-unlined o) (ap cells_in (open_unlined d.place) ∙ cells_in-unlined o)

place_within-unlined : (m : Module) (p : LineContext) → is_place_within (unlined m) (unlined_place p) ≡ is_place_within m p
place_within-unlined m place.Outside = refl
place_within-unlined m (place.FunctionHead h) = simp length-map
place_within-unlined m (place.BlockHead f h) = simp length-map
place_within-unlined m (place.Phis f b) = refl
place_within-unlined m (place.Body f b shows) = simp length-map
place_within-unlined m (place.Ended f b) = refl

pub within-unlined : (d : Draft) → is_within_limits (unlined_draft d) ≡ is_within_limits d
within-unlined d =
    ap (λ (c : Counts). are_counts_within c && is_place_within (unlined d.whole) (unlined_place d.place)) (counts-unlined d) ∙ ap (λ (b : Bool). are_counts_within (counts_of d) && b) (place_within-unlined d.whole d.place)

-- ---- what an item defines

outside_on : (at : ℕ) (i : Item) → defined_outside (item_on at i) ≡ defined_outside i
outside_on at (item.Annotation a) = refl
outside_on at (item.Global g) = refl
outside_on at (item.Phi p) = refl
outside_on at _ = refl

inside_on : (at : ℕ) (i : Item) → defined_inside (item_on at i) ≡ defined_inside i
inside_on at (item.Annotation a) = refl
inside_on at (item.Global g) = refl
inside_on at (item.Phi p) = refl
inside_on at _ = refl

before_on : (at : ℕ) (names : List (List ℕ)) (i : Item) → inside_before names (item_on at i) ≡ inside_before names i
before_on at names (item.Annotation a) = refl
before_on at names (item.Global g) = refl
before_on at names (item.Phi p) = refl
before_on at names _ = refl

abbrev again_by : List (List ℕ) → List (List ℕ) → List (List ℕ) → List (List ℕ) → Bool
again_by outside news inside names = is_repeated outside news || is_repeated inside names

pub again-on : (d : Draft) (at : ℕ) (i : Item) → defines_again d (item_on at i) ≡ defines_again d i
again-on d at i =
    ap (λ (ns : List (List ℕ)). again_by (names_outside d) ns (inside_before (names_inside d) (item_on at i)) (defined_inside (item_on at i))) (outside_on at i)
    ∙ ap (λ (ns : List (List ℕ)). again_by (names_outside d) (defined_outside i) ns (defined_inside (item_on at i))) (before_on at (names_inside d) i)
    ∙ ap (λ (ns : List (List ℕ)). again_by (names_outside d) (defined_outside i) (inside_before (names_inside d) i) ns) (inside_on at i)

pub again-unlined : (d : Draft) (i : Item) → defines_again (unlined_draft d) i ≡ defines_again d i
again-unlined d i =
    ap (λ (ns : List (List ℕ)). again_by ns (defined_outside i) (inside_before (names_inside (unlined_draft d)) i) (defined_inside i)) (outside-unlined d)
    ∙ ap (λ (ns : List (List ℕ)). again_by (names_outside d) (defined_outside i) (inside_before ns i) (defined_inside i)) (inside-unlined d)
