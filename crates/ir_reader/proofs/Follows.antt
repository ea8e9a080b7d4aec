-- What an item that is put behind what was read does to the names that stand and to what is counted.
use Rattle.std.proofs.Common.{◌≡◌, ℕ, ◌+◌, Bool, true, false, List, [], ◌∷◌, ◌++◌, length, map, refl, sym, subst, ap, ◌∙◌, arith, append_assoc, length-append}
use Rattle.std.specs.Prelude.{Option, Some, None, ◌==◌, if◌then◌else◌}
use Rattle.std.specs.List.{flat_map, sum_by}
use Rattle.std.proofs.lemmas.Bool.{eqb-true}
use Rattle.std.proofs.lemmas.List.{append-nil, nil_from_length, map_push}
use Rattle.std.proofs.lemmas.List.Concat.{flat_map-cons}
use Rattle.std.proofs.lemmas.List.Sums.{sum_by-append}
use Rattle.std.proofs.lemmas.Grind.{flat_map-append}
use Rattle.ir_annotation.specs.declared.meaning.Annotation.{Annotation}
use Rattle.ir_annotation.specs.declared.meaning.Annotation.TheVariants as annotation
use Rattle.ir_reader.specs.declared.item.item.Item.{Item}
use Rattle.ir_reader.specs.declared.item.item.Item.TheVariants as item
use Rattle.syntax.specs.declared.annotation.Inequality.{Inequality}
use Rattle.syntax.specs.declared.annotation.Zone.{Zone}
use Rattle.syntax.specs.declared.operator.Mode.{Mode}
use Rattle.syntax.specs.declared.operator.Mode.TheVariants as mode
use Rattle.syntax.specs.declared.module.ResultType.{ResultType}
use Rattle.syntax.specs.declared.module.Parameter.{Parameter}
use Rattle.syntax.specs.declared.instruction.Instruction.{Instruction}
use Rattle.syntax.specs.declared.instruction.Phi.{Phi}
use Rattle.syntax.specs.declared.instruction.Step.{Step}
use Rattle.syntax.specs.declared.module.Global.{Global}
use Rattle.syntax.specs.declared.module.Block.{Block}
use Rattle.syntax.specs.declared.module.Function.{Function}
use Rattle.syntax.specs.declared.module.Module.{Module}
use Rattle.ir_reader.specs.declared.annotating.FunctionHead.{FunctionHead}
use Rattle.ir_reader.specs.declared.annotating.BlockHead.{BlockHead}
use Rattle.ir_reader.specs.declared.draft.Draft.{Draft}
use Rattle.ir_reader.specs.declared.draft.LineContext.{LineContext}
use Rattle.ir_reader.specs.declared.draft.LineContext.TheVariants as place
use Rattle.ir_reader.specs.Opening.{new_block, new_function, with_global, with_function, with_block, with_phi, with_step, with_ending}
use Rattle.ir_reader.specs.Annotating.{with_requirement, with_guarantee, with_measure, with_budget, with_keeps, with_pending, with_left, with_foot, with_zone_of}
use Rattle.ir_reader.specs.Draft.{drafted, new_place, placed, placed_in, placed_outside, placed_at_function, placed_in_function_head, placed_at_block, annotated_in_block_head, placed_in_block_head, placed_in_phis, placed_in_body, placed_in_ended}
use Rattle.ir_reader.specs.Tracking.{IsStepless}
use Rattle.ir_reader.specs.Defined.{parameter_name, defined_register, option_list, step_registers, phi_register, block_registers, block_names, function_names, global_name, function_name, module_names, reserved_outside, reserved_inside, open_function, names_beside, names_in, defined_outside, defined_inside, inside_before}
use Rattle.ir_reader.specs.Limits.{global_cells, instruction_cells, step_cells, block_cells, function_cells, block_register_count, register_count}
use Rattle.ir_reader.specs.declared.limits.Counts.{Counts}
use Rattle.ir_reader.specs.Counting.{counts_in}
use Rattle.ir_reader.specs.Counted.{counts_with}

-- behind the item stands what it adds to a module and its open function
pub record Adds (m : Module) (f : Option Function) (i : Item) (n : Module) (g : Option Function) : Type 0 where
  pub outside : names_beside n g ≡ names_beside m f ++ defined_outside i
  pub inside : names_in g ≡ inside_before (names_in f) i ++ defined_inside i
  pub counted : counts_in n g ≡ counts_with (counts_in m f) i

pub record Follows (m : Module) (f : Option Function) (i : Item) (e : Draft) : Type 0 where
  pub adds : Adds m f i e.whole (open_function e.place)
  pub stepless : IsStepless e.place

abbrev pub FollowsIfSome : Module → Option Function → Item → Option Draft → Type 0
FollowsIfSome m f i None = Unit {0}
FollowsIfSome m f i (Some e) = Follows m f i e

flat_push : {X A : Type 0} (f : X → List A) (xs : List X) (y : X) → flat_map f (xs ++ y ∷ []) ≡ flat_map f xs ++ f y
flat_push {X} {A} f xs y = flat_map-append f xs (y ∷ []) ∙ ap (λ (zs : List A). flat_map f xs ++ zs) (flat_map-cons f y [] ∙ append-nil (f y))

sum_push : {X : Type 0} (f : X → ℕ) (xs : List X) (y : X) → sum_by f (xs ++ y ∷ []) ≡ sum_by f xs + f y
sum_push f xs y = sum_by-append f xs (y ∷ []) ∙ omega arith

same_counts : (a b c d e f : ℕ) → a ≡ b → c ≡ d → e ≡ f → (let x : Counts = record { global_cells = a; registers = c; alloca_cells = e } in x) ≡ record { global_cells = b; registers = d; alloca_cells = f }
same_counts a b c d e f p q r = cc

-- one more block, phi or instruction

names-with_block : (f : Function) (b : Block) → function_names (with_block f b) ≡ function_names f ++ block_names b
unfolding function_names
names-with_block f b = ap (λ (names : List (List ℕ)). map parameter_name f.parameters ++ names) (flat_push block_names f.blocks b) ∙ sym (append_assoc (map parameter_name f.parameters) (flat_map block_names f.blocks) (block_names b))

count-with_block : (f : Function) (b : Block) → register_count (with_block f b) ≡ register_count f + length (block_registers b)
unfolding register_count
count-with_block f b = omega (arith, sum_push block_register_count f.blocks b)

cells-with_block : (f : Function) (b : Block) → function_cells (with_block f b) ≡ function_cells f + block_cells b
unfolding function_cells
cells-with_block f b = sum_push block_cells f.blocks b

registers-with_step : (b : Block) (line : ℕ) (shows : List Inequality) (i : Instruction) → block_registers (with_step b line shows i) ≡ block_registers b ++ option_list (defined_register i)
unfolding block_registers
registers-with_step b line shows i =
    ap (λ (names : List (List ℕ)). map phi_register b.phis ++ names) (flat_push step_registers b.steps (record { line = line; shows = shows; instruction = i }))
    ∙ sym (append_assoc (map phi_register b.phis) (flat_map step_registers b.steps) (option_list (defined_register i)))

registers-with_phi : (b : Block) (p : Phi) → b.steps ≡ [] → block_registers (with_phi b p) ≡ block_registers b ++ p.register ∷ []
unfolding block_registers
registers-with_phi b p none = let pushed = map_push phi_register b.phis p in rw (none, pushed) (simp append-nil)

registers-new_block : (line : ℕ) (label : List ℕ) → block_registers (new_block line label) ≡ []
unfolding block_registers
registers-new_block line label = refl

registers_kept : (b c : Block) → c.phis ≡ b.phis → c.steps ≡ b.steps → block_registers c ≡ block_registers b
unfolding block_registers
registers_kept b c phis steps = ap (λ (ps : List Phi). map phi_register ps ++ flat_map step_registers c.steps) phis ∙ ap (λ (ss : List Step). map phi_register b.phis ++ flat_map step_registers ss) steps

-- items that define nothing

adds_nothing : (m : Module) (f g : Function) (i : Item) → g.name ≡ f.name → function_names g ≡ function_names f → register_count g ≡ register_count f → function_cells g ≡ function_cells f
    → defined_outside i ≡ [] → defined_inside i ≡ [] → inside_before (names_in (Some f)) i ≡ names_in (Some f) → counts_with (counts_in m (Some f)) i ≡ counts_in m (Some f) → Adds m (Some f) i m (Some g)
adds_nothing m f g i name names count cells none_outside none_inside same_inside same_count = record {
  outside = ap (λ (n : List ℕ). reserved_outside ∷ (module_names m ++ n ∷ [])) name ∙ sym (append-nil (names_beside m (Some f))) ∙ ap (λ (ns : List (List ℕ)). names_beside m (Some f) ++ ns) (sym none_outside);
  inside =
      ap (λ (ns : List (List ℕ)). reserved_inside ∷ ns) names ∙ sym (append-nil (names_in (Some f))) ∙ ap (λ (ns : List (List ℕ)). ns ++ []) (sym same_inside)
      ∙ ap (λ (ns : List (List ℕ)). inside_before (names_in (Some f)) i ++ ns) (sym none_inside);
  counted = same_counts (global_cells m) (global_cells m) (register_count g) (register_count f) (function_cells g) (function_cells f) refl count cells ∙ sym same_count;
}

names_kept : (f g : Function) → g.parameters ≡ f.parameters → g.blocks ≡ f.blocks → function_names g ≡ function_names f
unfolding function_names
names_kept f g parameters blocks = ap (λ (ps : List Parameter). map parameter_name ps ++ flat_map block_names g.blocks) parameters ∙ ap (λ (bs : List Block). map parameter_name f.parameters ++ flat_map block_names bs) blocks

count_kept : (f g : Function) → g.parameters ≡ f.parameters → g.blocks ≡ f.blocks → register_count g ≡ register_count f
unfolding register_count
count_kept f g parameters blocks = ap (λ (ps : List Parameter). length ps + sum_by block_register_count g.blocks) parameters ∙ ap (λ (bs : List Block). length f.parameters + sum_by block_register_count bs) blocks

cells_kept : (f g : Function) → g.blocks ≡ f.blocks → function_cells g ≡ function_cells f
unfolding function_cells
cells_kept f g blocks = ap (λ (bs : List Block). sum_by block_cells bs) blocks

-- an annotation of a function
head_kept : (m : Module) (h g : FunctionHead) (a : Annotation) → g.function.name ≡ h.function.name → g.function.parameters ≡ h.function.parameters → g.function.blocks ≡ h.function.blocks
    → Follows m (Some h.function) (item.Annotation a) (drafted m (place.FunctionHead g))
head_kept m h g a name parameters blocks = record {
  adds = adds_nothing m h.function g.function (item.Annotation a) name (names_kept h.function g.function parameters blocks) (count_kept h.function g.function parameters blocks) (cells_kept h.function g.function blocks) refl refl refl refl;
  stepless = tt;
}

-- nothing but annotations and the end of a block changed
block_kept : (m : Module) (f : Function) (b c : Block) (i : Item) → c.label ≡ b.label → c.phis ≡ b.phis → c.steps ≡ b.steps → defined_outside i ≡ [] → defined_inside i ≡ []
    → inside_before (names_in (Some (with_block f b))) i ≡ names_in (Some (with_block f b)) → counts_with (counts_in m (Some (with_block f b))) i ≡ counts_in m (Some (with_block f b))
    → Adds m (Some (with_block f b)) i m (Some (with_block f c))
block_kept m f b c i label phis steps none_outside none_inside same_inside same_count =
    let registers = registers_kept b c phis steps in
    adds_nothing m (with_block f b) (with_block f c) i refl
    (names-with_block f c ∙ ap (λ (n : List ℕ). function_names f ++ (n ∷ block_registers c)) label ∙ ap (λ (ns : List (List ℕ)). function_names f ++ (b.label ∷ ns)) registers ∙ sym (names-with_block f b))
    (count-with_block f c ∙ ap (λ (ns : List (List ℕ)). register_count f + length ns) registers ∙ sym (count-with_block f b))
    (cells-with_block f c ∙ ap (λ (ss : List Step). function_cells f + sum_by step_cells ss) steps ∙ sym (cells-with_block f b))
    none_outside none_inside same_inside same_count

-- each item in its place

label_follows : (m : Module) (g : Function) (line : ℕ) (label : List ℕ) → Follows m (Some g) (item.Label label) (drafted m (new_place g line label))
label_follows m g line label = record {
  adds = record {
    outside = sym (append-nil (names_beside m (Some g)));
    inside = ap (λ (ns : List (List ℕ)). reserved_inside ∷ ns) (names-with_block g (new_block line label) ∙ ap (λ (ns : List (List ℕ)). function_names g ++ (label ∷ ns)) (registers-new_block line label));
    counted =
        same_counts (global_cells m) (global_cells m) (register_count (with_block g (new_block line label))) (register_count g) (function_cells (with_block g (new_block line label))) (function_cells g) refl
        (count-with_block g (new_block line label) ∙ ap (λ (ns : List (List ℕ)). register_count g + length ns) (registers-new_block line label) ∙ omega arith)
        (cells-with_block g (new_block line label) ∙ omega arith);
  };
  stepless = refl;
}

names-with_function : (m : Module) (g : Function) → module_names (with_function m g) ≡ module_names m ++ g.name ∷ []
unfolding module_names
names-with_function m g =
    ap (λ (ns : List (List ℕ)). map global_name m.globals ++ ns) (map_push function_name m.functions g)
    ∙ sym (append_assoc (map global_name m.globals) (map function_name m.functions) (g.name ∷ []))

close_follows : (m : Module) (g : Function) → Follows m (Some g) item.Close (drafted (with_function m g) place.Outside)
close_follows m g = record {
  adds = record {
    outside =
        ap (λ (ns : List (List ℕ)). reserved_outside ∷ (ns ++ [])) (names-with_function m g);
    inside = refl;
    counted = refl;
  };
  stepless = tt;
}

ended_follows : (m : Module) (f : Function) (b : Block) (line : ℕ) (i : Item) → FollowsIfSome m (Some (with_block f b)) i (placed_in_ended m f b line i)
ended_follows m f b line (item.Label label) = label_follows m (with_block f b) line label
ended_follows m f b line item.Close = close_follows m (with_block f b)
ended_follows m f b line _ = tt

if_some : (m : Module) (f : Option Function) (i : Item) (test : Bool) (e : Option Draft) → FollowsIfSome m f i e → FollowsIfSome m f i (if test then e else None)
if_some m f i true e h = h
if_some m f i false e h = tt

unless_some : (m : Module) (f : Option Function) (i : Item) (test : Bool) (e : Option Draft) → FollowsIfSome m f i e → FollowsIfSome m f i (if test then None else e)
unless_some m f i true e h = tt
unless_some m f i false e h = h

-- the place is unknown where nothing is defined
shown_follows : (m : Module) (f : Function) (b : Block) (shows : List Inequality) (a : Annotation) → Follows m (Some (with_block f b)) (item.Annotation a) (drafted m (place.Body f b shows))
shown_follows m f b shows a = record { adds = block_kept m f b b (item.Annotation a) refl refl refl refl refl refl refl; stepless = tt }

step_follows : (m : Module) (f : Function) (b : Block) (line : ℕ) (shows : List Inequality) (i : Instruction)
    → Follows m (Some (with_block f b)) (item.Instruction i) (drafted m (place.Body f (with_step b line shows i) []))
step_follows m f b line shows i =
    let c : Block = with_step b line shows i in
    let s : Step = record { line = line; shows = shows; instruction = i } in
    let regs : List (List ℕ) = option_list (defined_register i) in
    record {
      adds = record {
        outside = sym (append-nil (names_beside m (Some (with_block f b))));
        inside =
            ap (λ (ns : List (List ℕ)). reserved_inside ∷ ns)
            (names-with_block f c ∙ ap (λ (ns : List (List ℕ)). function_names f ++ (b.label ∷ ns)) (registers-with_step b line shows i) ∙ sym (append_assoc (function_names f) (block_names b) regs)
            ∙ ap (λ (ns : List (List ℕ)). ns ++ regs) (sym (names-with_block f b)));
        counted =
            same_counts (global_cells m) (global_cells m) (register_count (with_block f c)) (register_count (with_block f b) + length regs) (function_cells (with_block f c))
            (function_cells (with_block f b) + instruction_cells i) refl
            (count-with_block f c ∙ ap (λ (ns : List (List ℕ)). register_count f + length ns) (registers-with_step b line shows i) ∙ omega (arith, length-append (block_registers b) regs, count-with_block f b))
            (cells-with_block f c ∙ omega (arith, sum_push step_cells b.steps s, cells-with_block f b));
      };
      stepless = tt;
    }

body_follows : (m : Module) (f : Function) (b : Block) (shows : List Inequality) (line : ℕ) (i : Item) → FollowsIfSome m (Some (with_block f b)) i (placed_in_body m f b shows line i)
body_follows m f b shows line (item.Annotation (annotation.Shows i)) = shown_follows m f b (shows ++ i ∷ []) (annotation.Shows i)
body_follows m f b shows line (item.Annotation _) = tt
body_follows m f b shows line (item.Instruction i) = step_follows m f b line shows i
body_follows m f b shows line (item.Terminator t) = record { adds = block_kept m f b (with_ending b line shows t) (item.Terminator t) refl refl refl refl refl refl refl; stepless = tt }
body_follows m f b shows line i = if_some m (Some (with_block f b)) i (length shows == 0) (placed_in_ended m f b line i) (ended_follows m f b line i)

phi_follows : (m : Module) (f : Function) (b : Block) (p : Phi) → b.steps ≡ [] → Follows m (Some (with_block f b)) (item.Phi p) (drafted m (place.Phis f (with_phi b p)))
phi_follows m f b p none =
    let c : Block = with_phi b p in
    record {
      adds = record {
        outside = sym (append-nil (names_beside m (Some (with_block f b))));
        inside =
            ap (λ (ns : List (List ℕ)). reserved_inside ∷ ns)
            (names-with_block f c ∙ ap (λ (ns : List (List ℕ)). function_names f ++ (b.label ∷ ns)) (registers-with_phi b p none) ∙ sym (append_assoc (function_names f) (block_names b) (p.register ∷ []))
            ∙ ap (λ (ns : List (List ℕ)). ns ++ p.register ∷ []) (sym (names-with_block f b)));
        counted =
            same_counts (global_cells m) (global_cells m) (register_count (with_block f c)) (register_count (with_block f b) + 1) (function_cells (with_block f c)) (function_cells (with_block f b)) refl
            (count-with_block f c ∙ ap (λ (ns : List (List ℕ)). register_count f + length ns) (registers-with_phi b p none)
            ∙ omega (arith, length-append (block_registers b) (p.register ∷ []), count-with_block f b))
            (cells-with_block f c ∙ sym (cells-with_block f b));
      };
      stepless = none;
    }

phis_follows : (m : Module) (f : Function) (b : Block) (line : ℕ) (i : Item) → b.steps ≡ [] → FollowsIfSome m (Some (with_block f b)) i (placed_in_phis m f b line i)
phis_follows m f b line (item.Phi p) none = phi_follows m f b p none
phis_follows m f b line i none = body_follows m f b [] line i

block_head_kept : (m : Module) (f : Function) (h g : BlockHead) (a : Annotation) → h.block.steps ≡ [] → g.block.label ≡ h.block.label → g.block.phis ≡ h.block.phis → g.block.steps ≡ h.block.steps
    → Follows m (Some (with_block f h.block)) (item.Annotation a) (drafted m (place.BlockHead f g))
block_head_kept m f h g a none label phis steps = record { adds = block_kept m f h.block g.block (item.Annotation a) label phis steps refl refl refl refl; stepless = steps ∙ none }

block_once : (m : Module) (f : Function) (o : Option Function) (i : Item) (g : BlockHead) (test : Bool) → Follows m o i (drafted m (place.BlockHead f g)) → FollowsIfSome m o i (placed_at_block m f (if test then None else Some g))
block_once m f o i g true h = tt
block_once m f o i g false h = h

annotated_head_follows : (m : Module) (f : Function) (h : BlockHead) (a : Annotation) → h.block.steps ≡ [] → FollowsIfSome m (Some (with_block f h.block)) (item.Annotation a) (annotated_in_block_head m f h a)
annotated_head_follows m f h (annotation.Shows i) none = shown_follows m f h.block (i ∷ []) (annotation.Shows i)
annotated_head_follows m f h (annotation.Keeps i) none = block_head_kept m f h (record h { block = with_keeps h.block i }) (annotation.Keeps i) none refl refl refl
annotated_head_follows m f h (annotation.Pending p) none = block_head_kept m f h (record h { block = with_pending h.block p }) (annotation.Pending p) none refl refl refl
annotated_head_follows m f h (annotation.Foot z) none = block_head_kept m f h (record h { block = with_foot h.block z }) (annotation.Foot z) none refl refl refl
annotated_head_follows m f h (annotation.Left left) none =
    let g : BlockHead = record { block = with_left h.block left; has_left = true } in
    block_once m f (Some (with_block f h.block)) (item.Annotation (annotation.Left left)) g h.has_left (block_head_kept m f h g (annotation.Left left) none refl refl refl)
annotated_head_follows m f h _ none = tt

block_head_follows : (m : Module) (f : Function) (h : BlockHead) (line : ℕ) (i : Item) → h.block.steps ≡ [] → FollowsIfSome m (Some (with_block f h.block)) i (placed_in_block_head m f h line i)
block_head_follows m f h line (item.Annotation a) none = annotated_head_follows m f h a none
block_head_follows m f h line i none = phis_follows m f h.block line i none

function_once : (m : Module) (o : Option Function) (i : Item) (g : FunctionHead) (test : Bool) → Follows m o i (drafted m (place.FunctionHead g)) → FollowsIfSome m o i (placed_at_function m (if test then None else Some g))
function_once m o i g true h = tt
function_once m o i g false h = h

zone_kept : (m : Module) (h : FunctionHead) (zone : Zone) (which : Mode) → zone.mode ≡ which → Follows m (Some h.function) (item.Annotation (annotation.FunctionZone zone)) (drafted m (place.FunctionHead (record h { function = with_zone_of which h.function zone })))
zone_kept m h zone mode.Reads e = head_kept m h (record h { function = with_zone_of mode.Reads h.function zone }) (annotation.FunctionZone zone) refl refl refl
zone_kept m h zone mode.Writes e = head_kept m h (record h { function = with_zone_of mode.Writes h.function zone }) (annotation.FunctionZone zone) refl refl refl
zone_kept m h zone mode.Adds e = head_kept m h (record h { function = with_zone_of mode.Adds h.function zone }) (annotation.FunctionZone zone) refl refl refl

function_head_follows : (m : Module) (h : FunctionHead) (line : ℕ) (i : Item) → FollowsIfSome m (Some h.function) i (placed_in_function_head m h line i)
function_head_follows m h line (item.Label label) = label_follows m h.function line label
function_head_follows m h line (item.Annotation (annotation.Requires i)) = head_kept m h (record h { function = with_requirement h.function i }) (annotation.Requires i) refl refl refl
function_head_follows m h line (item.Annotation (annotation.Ensures i)) = head_kept m h (record h { function = with_guarantee h.function i }) (annotation.Ensures i) refl refl refl
function_head_follows m h line (item.Annotation (annotation.FunctionZone zone)) = zone_kept m h zone zone.mode refl
function_head_follows m h line (item.Annotation (annotation.Measure measure)) =
    let g : FunctionHead = record h { function = with_measure h.function measure; has_measure = true } in
    function_once m (Some h.function) (item.Annotation (annotation.Measure measure)) g h.has_measure (head_kept m h g (annotation.Measure measure) refl refl refl)
function_head_follows m h line (item.Annotation (annotation.Budget budget)) =
    let g : FunctionHead = record h { function = with_budget h.function budget; has_budget = true } in
    function_once m (Some h.function) (item.Annotation (annotation.Budget budget)) g h.has_budget (head_kept m h g (annotation.Budget budget) refl refl refl)
function_head_follows m h line _ = tt

names-with_global : (m : Module) (g : Global) → m.functions ≡ [] → module_names (with_global m g) ≡ module_names m ++ g.name ∷ []
unfolding module_names
names-with_global m g none = let pushed = map_push global_name m.globals g in rw (none, pushed) (simp append-nil)

global_follows : (m : Module) (g : Global) → m.functions ≡ [] → Follows m None (item.Global g) (drafted (with_global m g) place.Outside)
global_follows m g none = record {
  adds = record {
    outside =
        ap (λ (ns : List (List ℕ)). reserved_outside ∷ (ns ++ [])) (names-with_global m g none) ∙ append-nil (reserved_outside ∷ (module_names m ++ g.name ∷ []))
        ∙ ap (λ (ns : List (List ℕ)). reserved_outside ∷ (ns ++ g.name ∷ [])) (sym (append-nil (module_names m)));
    inside = refl;
    counted = same_counts (global_cells (with_global m g)) (global_cells m + g.cells) 0 0 0 0 (sum_push (λ (g : Global). g.cells) m.globals g) refl refl;
  };
  stepless = tt;
}

global_if : (m : Module) (g : Global) (test : Bool) → test ≡ (length m.functions == 0) → FollowsIfSome m None (item.Global g) (if test then Some (drafted (with_global m g) place.Outside) else None)
global_if m g true h = global_follows m g (nil_from_length m.functions (eqb-true (length m.functions) 0 (sym h)))
global_if m g false h = tt

names-new_function : (line : ℕ) (name : List ℕ) (result_type : ResultType) (parameters : List Parameter) → function_names (new_function line name result_type parameters) ≡ map parameter_name parameters
unfolding function_names
names-new_function line name result_type parameters = append-nil (map parameter_name parameters)

count-new_function : (line : ℕ) (name : List ℕ) (result_type : ResultType) (parameters : List Parameter) → register_count (new_function line name result_type parameters) ≡ length parameters
unfolding register_count
count-new_function line name result_type parameters = omega arith

cells-new_function : (line : ℕ) (name : List ℕ) (result_type : ResultType) (parameters : List Parameter) → function_cells (new_function line name result_type parameters) ≡ 0
unfolding function_cells
cells-new_function line name result_type parameters = refl

define_follows : (m : Module) (line : ℕ) (name : List ℕ) (result_type : ResultType) (parameters : List Parameter)
    → Follows m None (item.Define name result_type parameters) (drafted m (place.FunctionHead (record { function = new_function line name result_type parameters; has_measure = false; has_budget = false })))
define_follows m line name result_type parameters =
    let f : Function = new_function line name result_type parameters in
    record {
      adds = record {
        outside = ap (λ (ns : List (List ℕ)). reserved_outside ∷ (ns ++ name ∷ [])) (sym (append-nil (module_names m)));
        inside = ap (λ (ns : List (List ℕ)). reserved_inside ∷ ns) (names-new_function line name result_type parameters);
        counted = same_counts (global_cells m) (global_cells m) (register_count f) (length parameters) (function_cells f) 0 refl (count-new_function line name result_type parameters) (cells-new_function line name result_type parameters);
      };
      stepless = tt;
    }

outside_follows : (m : Module) (line : ℕ) (i : Item) → FollowsIfSome m None i (placed_outside m line i)
outside_follows m line (item.Global g) = global_if m g (length m.functions == 0) refl
outside_follows m line (item.Define name result_type parameters) = define_follows m line name result_type parameters
outside_follows m line _ = tt

in_place : (m : Module) (p : LineContext) (line : ℕ) (i : Item) → IsStepless p → FollowsIfSome m (open_function p) i (placed_in m p line i)
in_place m place.Outside line i none = outside_follows m line i
in_place m (place.FunctionHead h) line i none = function_head_follows m h line i
in_place m (place.BlockHead f h) line i none = block_head_follows m f h line i none
in_place m (place.Phis f b) line i none = phis_follows m f b line i none
in_place m (place.Body f b shows) line i none = body_follows m f b shows line i
in_place m (place.Ended f b) line i none = ended_follows m f b line i

pub placed_follows : (d e : Draft) (line : ℕ) (i : Item) → IsStepless d.place → placed d line i ≡ Some e → Follows d.whole (open_function d.place) i e
placed_follows d e line i none h = subst (FollowsIfSome d.whole (open_function d.place) i) h (in_place d.whole d.place line i none)
