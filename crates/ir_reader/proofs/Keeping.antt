-- What is read keeps names defined once and stays within limits.
use Rattle.std.proofs.Common.{◌≡◌, ℕ, ◌+◌, ◌<◌, ◌≤◌, Bool, true, false, List, [], ◌∷◌, ◌++◌, length, get_or, refl, sym, subst, ap, ◌∙◌, arith, append_assoc, length-append}
use Rattle.std.specs.Prelude.{◌==◌, ◌&&◌, ◌||◌, Result, Ok, Err, Option, Some, None, if◌then◌else◌}
use Rattle.std.specs.List.{All}
use Rattle.std.proofs.lemmas.List.{append-nil}
use Rattle.std.proofs.lemmas.List.Elements.{All-push, All-nil}
use Rattle.std.proofs.lemmas.Bool.{or_parts, and_parts}
use Rattle.ir_annotation.specs.declared.meaning.Annotation.{Annotation}
use Rattle.ir_annotation.specs.declared.meaning.Annotation.TheVariants as annotation
use Rattle.ir_reader.specs.declared.item.item.Item.{Item}
use Rattle.ir_reader.specs.declared.item.item.Item.TheVariants as item
use Rattle.ir_reader.specs.declared.item.line.Line.{Line}
use Rattle.syntax.specs.declared.annotation.Inequality.{Inequality}
use Rattle.syntax.specs.declared.module.Block.{Block}
use Rattle.syntax.specs.declared.module.Function.{Function}
use Rattle.syntax.specs.declared.module.Module.{Module}
use Rattle.ir_reader.specs.declared.annotating.FunctionHead.{FunctionHead}
use Rattle.ir_reader.specs.declared.annotating.BlockHead.{BlockHead}
use Rattle.ir_reader.specs.declared.draft.Draft.{Draft}
use Rattle.ir_reader.specs.declared.draft.LineContext.{LineContext}
use Rattle.ir_reader.specs.declared.draft.LineContext.TheVariants as place
use Rattle.ir_reader.specs.Opening.{with_block}
use Rattle.ir_reader.specs.Annotating.{annotated_function, annotated_block}
use Rattle.ir_reader.specs.Draft.{placed, placed_in, placed_outside, placed_at_function, placed_in_function_head, placed_at_block, annotated_in_block_head, placed_in_block_head, placed_in_phis, placed_in_body, placed_in_ended}
use Rattle.ir_reader.specs.Names.{is_known, is_repeated}
use Rattle.ir_reader.specs.Defined.{module_names, function_names, reserved_outside, reserved_inside, open_function, names_outside, names_in, names_inside, defined_outside, defined_inside, inside_before}
use Rattle.ir_reader.specs.Limits.{register_count, function_cells, is_place_within}
use Rattle.ir_reader.specs.Counting.{counts_in, counts_of, are_counts_within, is_within_limits}
use Rattle.ir_reader.specs.Counted.{IsSmall}
use Rattle.ir_reader.specs.Tracking.{IsStepless}
use Rattle.ir_reader.specs.Lines.{lines_of}
use Rattle.ir_reader.specs.Reading.{start, defines_again, judged_if_placed, with_item, with_said, Steps, Said, Reads, Done, Next, Stop, Overlong, ended, Answers, Read}
use Rattle.ir_reader.specs.Kept.{IsFunctionWritten, IsFunctionWithin, IsKeptFunction, IsKeptModule}
use Rattle.ir_reader.proofs.Follows.{Follows, placed_follows}
use Rattle.ir_reader.specs.item.Lines.{line_of}
use Rattle.ir_reader.specs.item.Printed.{IsKeptItem}
use Rattle.ir_reader.proofs.item.ReadSpelled.{line_kept as read_kept}
use Rattle.ir_reader.proofs.Tracked.{counts_small}
use Rattle.ir_reader.proofs.Naming.{function_short, module_short}
use Rattle.ir_reader.proofs.Writing.{IsDraftWritten, placed_written, start_written}
use Rattle.ir_reader.proofs.Limiting.{IsOpenFunction, IsOpenKept, IsDraftWithin, placed_within, start_within}

-- what a function has of its names and registers, and a block at least
pub record IsCountedFunction (f : Function) : Type 0 where
  pub distinct : is_repeated [] (reserved_inside ∷ function_names f) ≡ false
  pub some : 0 < length f.blocks
  pub registers : register_count f ≤ 4096
  pub alloca_cells : function_cells f ≤ 4096

pub record IsKeptDraft (d : Draft) : Type 0 where
  pub outside : is_repeated [] (names_outside d) ≡ false
  pub inside : is_repeated [] (names_inside d) ≡ false
  pub small : IsSmall (counts_of d)
  pub stepless : IsStepless d.place
  pub functions : All IsCountedFunction d.whole.functions
  pub written : IsDraftWritten d
  pub within : IsDraftWithin d

-- functions

abbrev Grows : Module → Option Function → Option Draft → Type 0
Grows m f None = Unit {0}
Grows m f (Some e) = All IsCountedFunction m.functions → IsOpenKept f → All IsCountedFunction e.whole.functions

closed : (f : Function) (b : Block) → IsOpenFunction (with_block f b) → IsCountedFunction (with_block f b)
closed f b h = record { distinct = h.distinct; some = omega (arith, length-append f.blocks (b ∷ [])); registers = h.registers; alloca_cells = h.alloca_cells }

ended_grows : (m : Module) (f : Function) (b : Block) (line : ℕ) (i : Item) → Grows m (Some (with_block f b)) (placed_in_ended m f b line i)
ended_grows m f b line (item.Label label) = λ all one. all
ended_grows m f b line item.Close = λ all one. All-push IsCountedFunction m.functions (with_block f b) all (closed f b one)
ended_grows m f b line _ = tt

if_grows : (m : Module) (f : Option Function) (test : Bool) (e : Option Draft) → Grows m f e → Grows m f (if test then e else None)
if_grows m f true e h = h
if_grows m f false e h = tt

body_grows : (m : Module) (f : Function) (b : Block) (shows : List Inequality) (line : ℕ) (i : Item) → Grows m (Some (with_block f b)) (placed_in_body m f b shows line i)
body_grows m f b shows line (item.Annotation (annotation.Shows i)) = λ all one. all
body_grows m f b shows line (item.Annotation _) = tt
body_grows m f b shows line (item.Instruction i) = λ all one. all
body_grows m f b shows line (item.Terminator t) = λ all one. all
body_grows m f b shows line i = if_grows m (Some (with_block f b)) (length shows == 0) (placed_in_ended m f b line i) (ended_grows m f b line i)

phis_grows : (m : Module) (f : Function) (b : Block) (line : ℕ) (i : Item) → Grows m (Some (with_block f b)) (placed_in_phis m f b line i)
phis_grows m f b line (item.Phi p) = λ all one. all
phis_grows m f b line i = body_grows m f b [] line i

at_block_grows : (m : Module) (f : Function) (o : Option Function) (h : Option BlockHead) → Grows m o (placed_at_block m f h)
at_block_grows m f o None = tt
at_block_grows m f o (Some h) = λ all one. all

annotated_grows : (m : Module) (f : Function) (h : BlockHead) (a : Annotation) → Grows m (Some (with_block f h.block)) (annotated_in_block_head m f h a)
annotated_grows m f h (annotation.Shows i) = λ all one. all
annotated_grows m f h a = at_block_grows m f (Some (with_block f h.block)) (annotated_block h a)

block_head_grows : (m : Module) (f : Function) (h : BlockHead) (line : ℕ) (i : Item) → Grows m (Some (with_block f h.block)) (placed_in_block_head m f h line i)
block_head_grows m f h line (item.Annotation a) = annotated_grows m f h a
block_head_grows m f h line i = phis_grows m f h.block line i

at_function_grows : (m : Module) (o : Option Function) (h : Option FunctionHead) → Grows m o (placed_at_function m h)
at_function_grows m o None = tt
at_function_grows m o (Some h) = λ all one. all

function_head_grows : (m : Module) (h : FunctionHead) (line : ℕ) (i : Item) → Grows m (Some h.function) (placed_in_function_head m h line i)
function_head_grows m h line (item.Label label) = λ all one. all
function_head_grows m h line (item.Annotation a) = at_function_grows m (Some h.function) (annotated_function h a)
function_head_grows m h line _ = tt

outside_grows : (m : Module) (line : ℕ) (i : Item) → Grows m None (placed_outside m line i)
outside_grows m line (item.Global g) = if_grows m None (length m.functions == 0) (Some _) (λ all one. all)
outside_grows m line (item.Define name result_type parameters) = λ all one. all
outside_grows m line _ = tt

in_place : (m : Module) (p : LineContext) (line : ℕ) (i : Item) → Grows m (open_function p) (placed_in m p line i)
in_place m place.Outside line i = outside_grows m line i
in_place m (place.FunctionHead h) line i = function_head_grows m h line i
in_place m (place.BlockHead f h) line i = block_head_grows m f h line i
in_place m (place.Phis f b) line i = phis_grows m f b line i
in_place m (place.Body f b shows) line i = body_grows m f b shows line i
in_place m (place.Ended f b) line i = ended_grows m f b line i

-- names

or_assoc : (x y z : Bool) → (x || (y || z)) ≡ ((x || y) || z)
or_assoc true y z = refl
or_assoc false y z = refl

pub repeats-append : (known xs ys : List (List ℕ)) → is_repeated known (xs ++ ys) ≡ (is_repeated known xs || is_repeated (known ++ xs) ys)
repeats-append known [] ys = ap (λ (ns : List (List ℕ)). is_repeated ns ys) (sym (append-nil known))
repeats-append known (x ∷ xs) ys =
    ap (λ (t : Bool). is_known known x || t) (repeats-append (known ++ x ∷ []) xs ys)
    ∙ or_assoc (is_known known x) (is_repeated (known ++ x ∷ []) xs) (is_repeated ((known ++ x ∷ []) ++ xs) ys)
    ∙ ap (λ (ns : List (List ℕ)). (is_known known x || is_repeated (known ++ x ∷ []) xs) || is_repeated ns ys) (append_assoc known (x ∷ []) xs)

distinct-append : (xs ys : List (List ℕ)) → is_repeated [] xs ≡ false → is_repeated xs ys ≡ false → is_repeated [] (xs ++ ys) ≡ false
distinct-append xs ys first later = repeats-append [] xs ys ∙ ap (λ (t : Bool). t || is_repeated xs ys) first ∙ later

before_distinct : (names : List (List ℕ)) (i : Item) → is_repeated [] names ≡ false → is_repeated [] (inside_before names i) ≡ false
before_distinct names (item.Define name result_type parameters) h = refl
before_distinct names item.Close h = refl
before_distinct names _ h = h

open_kept : (m : Module) (f : Option Function) → is_repeated [] (names_in f) ≡ false → IsSmall (counts_in m f) → IsOpenKept f
open_kept m None names small = tt
open_kept m (Some f) names small = record { distinct = names; registers = small.registers; alloca_cells = small.alloca_cells }

-- one more item

item_kept : (d e : Draft) (at : ℕ) (i : Item) → IsKeptDraft d → IsKeptItem i → placed d at i ≡ Some e → is_within_limits e ≡ true → defines_again d i ≡ false → IsKeptDraft e
item_kept d e at i kept is put within once =
    let follows : Follows _ _ i e = placed_follows d e at i kept.stepless put in
    let new_names = or_parts (is_repeated (names_outside d) (defined_outside i)) (is_repeated (inside_before (names_inside d) i) (defined_inside i)) once in
    let grown : Grows d.whole (open_function d.place) (Some e) = subst (Grows d.whole (open_function d.place)) put (in_place d.whole d.place at i) in
    let limits = and_parts (are_counts_within (counts_of e)) (is_place_within e.whole e.place) within in
    record {
      outside = ap (is_repeated []) follows.adds.outside ∙ distinct-append (names_outside d) (defined_outside i) kept.outside new_names.0;
      inside = ap (is_repeated []) follows.adds.inside ∙ distinct-append (inside_before (names_inside d) i) (defined_inside i) (before_distinct (names_inside d) i kept.inside) new_names.1;
      small = counts_small (counts_of e) limits.0;
      stepless = follows.stepless;
      functions = grown kept.functions (open_kept d.whole (open_function d.place) kept.inside kept.small);
      written = placed_written d e at i kept.written is put;
      within = placed_within d e at i kept.within put limits.1;
    }

abbrev ok : Draft → Result Draft ℕ
ok d = Ok d

judged_kept : (d e g : Draft) (at : ℕ) (i : Item) (good again : Bool) → IsKeptDraft d → placed d at i ≡ Some g → (good ≡ true → IsKeptItem i) → (good ≡ true → is_within_limits g ≡ true) → (again ≡ false → defines_again d i ≡ false)
    → (if good then (if again then Err 106 else ok g) else Err 104) ≡ ok e → IsKeptDraft e
judged_kept d e g at i false again kept put is within once h = absurd cc
judged_kept d e g at i true true kept put is within once h = absurd cc
judged_kept d e g at i true false kept put is within once h =
    let same : g ≡ e = cc in
    subst IsKeptDraft same (item_kept d g at i kept (is refl) put (within refl) (once refl))

placed_kept : (d e : Draft) (at : ℕ) (line : Line) (o : Option Draft) → IsKeptDraft d → (line.is_within_limits ≡ true → IsKeptItem line.item) → placed d at line.item ≡ o → judged_if_placed d line o ≡ ok e → IsKeptDraft e
placed_kept d e at line None kept is put h = absurd cc
placed_kept d e at line (Some g) kept is put h =
    judged_kept d e g at line.item (line.is_within_limits && is_within_limits g) (defines_again d line.item) kept put (λ w. is (and_parts line.is_within_limits (is_within_limits g) w).0)
    (λ w. (and_parts line.is_within_limits (is_within_limits g) w).1) (λ o. o) h

line_kept : (d e : Draft) (at : ℕ) (line : Line) → IsKeptDraft d → (line.is_within_limits ≡ true → IsKeptItem line.item) → with_item d at line ≡ ok e → IsKeptDraft e
unfolding with_item
line_kept d e at line kept is h = placed_kept d e at line (placed d at line.item) kept is refl h

said_kept : (d e : Draft) (at : ℕ) (text : List ℕ) (said : Option Line) → IsKeptDraft d → line_of at text ≡ Ok said → with_said d at said ≡ ok e → IsKeptDraft e
said_kept d e at text None kept means h = let same : d ≡ e = cc in subst IsKeptDraft same kept
said_kept d e at text (Some line) kept means h = line_kept d e at line kept (read_kept at text line means) h

step_kept : (d e : Draft) (at : ℕ) (line : List ℕ) → Steps d at line (Ok e) → IsKeptDraft d → IsKeptDraft e
step_kept d e at line (Said said _ utf8 means h) kept = said_kept d e at line said kept means h

abbrev KeptIfOk : Result Draft (ℕ × ℕ) → Type 0
KeptIfOk (Ok d) = IsKeptDraft d
KeptIfOk (Err e) = Unit {0}

reads_kept : (d : Draft) (at room : ℕ) (lines : List (List ℕ)) (out : Result Draft (ℕ × ℕ)) → Reads d at room lines out → IsKeptDraft d → KeptIfOk out
reads_kept _ _ _ _ _ (Done d at room) kept = kept
reads_kept _ _ _ _ _ (Next d e at room line lines out fits step later) kept = reads_kept e (at + 1) _ lines out later (step_kept d e at _ step kept)
reads_kept _ _ _ _ _ (Stop d at room line lines number fits step) kept = tt
reads_kept _ _ _ _ _ (Overlong d at room line lines number past h) kept = tt

start_kept : IsKeptDraft start
unfolding module_names
start_kept = record { outside = refl; inside = refl; small = record { global_cells = omega arith; registers = omega arith; alloca_cells = omega arith }; stepless = tt; functions = All-nil IsCountedFunction; written = start_written; within = start_within }

whole_function : (f : Function) → IsCountedFunction f → IsFunctionWritten f → IsFunctionWithin f → IsKeptFunction f
whole_function f c written within =
    record { distinct = c.distinct; names = function_short f written; some = c.some; registers = c.registers; alloca_cells = c.alloca_cells; written = written; within = within }

all_kept : (fs : List Function) → All IsCountedFunction fs → All IsFunctionWritten fs → All IsFunctionWithin fs → All IsKeptFunction fs
all_kept fs counted written within = λ k d h. whole_function (get_or fs k d) (counted k d h) (written k d h) (within k d h)

abbrev whole : Module → Result Module (ℕ × ℕ)
whole m = Ok m

ended_kept : (m n : Module) (p : LineContext) (count : ℕ) → IsKeptDraft (record { whole = m; place = p }) → ended m p count ≡ whole n → IsKeptModule n
ended_kept m n place.Outside count kept h =
    let same : m ≡ n = cc in
    subst IsKeptModule same (record {
      distinct = ap (λ (ns : List (List ℕ)). is_repeated [] (reserved_outside ∷ ns)) (sym (append-nil (module_names m))) ∙ kept.outside;
      names = module_short m kept.written.whole.globals kept.written.whole.functions;
      functions = all_kept m.functions kept.functions kept.written.whole.functions kept.within.whole.functions;
      cells = kept.small.global_cells;
      globals = kept.written.whole.globals;
      function_count = kept.within.whole.few;
    })
ended_kept m n (place.FunctionHead f) count kept h = absurd cc
ended_kept m n (place.BlockHead f b) count kept h = absurd cc
ended_kept m n (place.Phis f b) count kept h = absurd cc
ended_kept m n (place.Body f b shows) count kept h = absurd cc
ended_kept m n (place.Ended f b) count kept h = absurd cc

pub answers_kept : (text : List ℕ) (m : Module) → Answers text (Ok m) → IsKeptModule m
answers_kept text m (Read d _ all h) = ended_kept d.whole m d.place (length (lines_of text)) (reads_kept start 1 1048576 (lines_of text) (Ok d) all start_kept) h
