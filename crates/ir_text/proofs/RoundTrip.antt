-- What a module that is kept prints is read again as the module, lines aside.
use Rattle.std.proofs.Common.{◌≡◌, ℕ, ◌≤◌, List, [], ◌∷◌, ◌++◌, length, map, Option, Some, None, Result, Ok, Err, refl, sym, subst, ap, ◌∙◌, arith, append-nil}
use Rattle.std.specs.Prelude.{IfOk}
use Rattle.std.specs.List.{All, flat_map}
use Rattle.std.proofs.lemmas.List.{length-map}
use Rattle.std.proofs.lemmas.List.Elements.{All-nil, All-cons, All-head, All-tail}
use Rattle.ir_annotation.specs.declared.meaning.Annotation.{Annotation}
use Rattle.ir_annotation.specs.declared.meaning.Annotation.TheVariants as annotation
use Rattle.ir_annotation.specs.Annotations.{IsInequality, IsZone, IsPending, IsKeptAnnotation}
use Rattle.ir_reader.specs.declared.item.item.Item.{Item}
use Rattle.ir_reader.specs.declared.item.item.Item.TheVariants as item
use Rattle.ir_reader.specs.item.Printed.{IsKeptItem}
use Rattle.syntax.specs.declared.annotation.Zone.{Zone}
use Rattle.syntax.specs.declared.annotation.FunctionNotes.{FunctionNotes}
use Rattle.syntax.specs.declared.annotation.BlockNotes.{BlockNotes}
use Rattle.syntax.specs.declared.operator.Mode.{Mode}
use Rattle.syntax.specs.declared.operator.Mode.TheVariants as mode
use Rattle.syntax.specs.declared.instruction.Step.{Step}
use Rattle.syntax.specs.declared.terminator.Ending.{Ending}
use Rattle.syntax.specs.declared.module.Block.{Block}
use Rattle.syntax.specs.declared.module.Function.{Function}
use Rattle.syntax.specs.declared.module.Module.{Module}
use Rattle.ir_reader.specs.declared.draft.Draft.{Draft}
use Rattle.ir_reader.specs.declared.draft.LineContext.{LineContext}
use Rattle.ir_reader.specs.declared.draft.LineContext.TheVariants as place
use Rattle.ir_reader.specs.Draft.{drafted}
use Rattle.ir_reader.specs.Names.{is_repeated}
use Rattle.ir_reader.specs.Defined.{reserved_outside, reserved_inside, module_names}
use Rattle.ir_reader.specs.Counting.{counts_of}
use Rattle.ir_reader.specs.Counted.{IsSmall}
use Rattle.ir_text.specs.Items.{note_items, function_note_items, block_note_items, step_items, ending_items, body_items, block_items, function_items, module_items, printed_line, module_text}
use Rattle.ir_reader.specs.Kept.{IsZoneOf, AreFunctionNotesWritten, AreBlockNotesWritten, IsPhiWritten, IsStepWritten, IsEndingWrittenIfAny, IsBlockWritten, IsFunctionWritten, IsGlobalWritten, AreStepShowsFew, AreEndingShowsFew, IsBlockWithin, IsFunctionWithin, IsKeptFunction, IsKeptModule}
use Rattle.ir_reader.specs.Lines.{lines_of}
use Rattle.ir_reader.specs.Reading.{start, Reads, ended, Answers, Read}
use Rattle.ir_text.specs.RoundTrip.{IsAgain, IsReadBackAs}
use Rattle.ir_text.specs.Unlined.{unlined_step, unlined_block, unlined_function, unlined}
use Rattle.ir_text.proofs.Again.{reads_again}
use Rattle.ir_text.proofs.Fills.{IsWhole, module_fills}
use Rattle.ir_reader.proofs.Limiting.{IsOpenFunction}
use Rattle.ir_reader.proofs.OneAnswer.{one_answer}
use Rattle.ir_text.proofs.PrintedLines.{AreKept, printed_lines}
use Rattle.ir_text.proofs.Rerun.{IsGoodDraft, Passes, all_pass}
use Rattle.ir_text.proofs.Unlining.{unlined_place, function_names-unlined, module_names-unlined, register_count-unlined, function_cells-unlined, global_cells-unlined}

-- ---- each item of the module is kept

both_kept : (xs ys : List Item) → AreKept xs → AreKept ys → AreKept (xs ++ ys)
both_kept [] ys hx hy = hy
both_kept (x ∷ xs) ys hx hy = (hx.0, both_kept xs ys hx.1 hy)

kind_kept : {A : Type 0} (P : A → Type 0) (kind : A → Item) → ((x : A) → P x → IsKeptItem (kind x)) → (xs : List A) → All P xs → AreKept (map kind xs)
kind_kept P kind each [] all = tt
kind_kept P kind each (x ∷ xs) all = (each x (All-head P x xs all), kind_kept P kind each xs (All-tail P x xs all))

part_kept : {A : Type 0} (P : A → Type 0) (items : A → List Item) → ((x : A) → P x → AreKept (items x)) → (xs : List A) → All P xs → AreKept (flat_map items xs)
part_kept P items each [] all = tt
part_kept P items each (x ∷ xs) all = both_kept (items x) (flat_map items xs) (each x (All-head P x xs all)) (part_kept P items each xs (All-tail P x xs all))

note_kept : {A : Type 0} (P : A → Type 0) (kind : A → Annotation) → ((x : A) → P x → IsKeptAnnotation (kind x)) → (xs : List A) → All P xs → AreKept (note_items kind xs)
note_kept P kind each xs all = kind_kept P (λ x. item.Annotation (kind x)) each xs all

function_notes_kept : (n : FunctionNotes) → AreFunctionNotesWritten n → AreKept (function_note_items n)
unfolding function_note_items
function_notes_kept n is =
    let last : List Item = item.Annotation (annotation.Measure n.measure) ∷ item.Annotation (annotation.Budget n.budget) ∷ [] in
    let adds : List Item = note_items annotation.FunctionZone n.adds in
    let writes : List Item = note_items annotation.FunctionZone n.writes in
    let reads : List Item = note_items annotation.FunctionZone n.reads in
    let zones : (m : Mode) (zs : List Zone) → All (IsZoneOf m) zs → AreKept (note_items annotation.FunctionZone zs) = λ (m : Mode) (zs : List Zone) (all : All (IsZoneOf m) zs). note_kept (IsZoneOf m) annotation.FunctionZone (λ z of. of.zone) zs all in
    both_kept (note_items annotation.Requires n.requirements) (note_items annotation.Ensures n.guarantees ++ (reads ++ (writes ++ (adds ++ last)))) (note_kept IsInequality annotation.Requires (λ i of. of) n.requirements is.requirements)
    (both_kept (note_items annotation.Ensures n.guarantees) (reads ++ (writes ++ (adds ++ last))) (note_kept IsInequality annotation.Ensures (λ i of. of) n.guarantees is.guarantees)
    (both_kept reads (writes ++ (adds ++ last)) (zones mode.Reads n.reads is.reads) (both_kept writes (adds ++ last) (zones mode.Writes n.writes is.writes) (both_kept adds last (zones mode.Adds n.adds is.adds) (is.measure, (is.budget, tt))))))

block_notes_kept : (n : BlockNotes) → AreBlockNotesWritten n → AreKept (block_note_items n)
unfolding block_note_items
block_notes_kept n is =
    let foot : List Item = note_items annotation.Foot n.foot in
    let left : List Item = item.Annotation (annotation.Left n.left) ∷ foot in
    both_kept (note_items annotation.Keeps n.keeps) (note_items annotation.Pending n.pending ++ left) (note_kept IsInequality annotation.Keeps (λ i of. of) n.keeps is.keeps)
    (both_kept (note_items annotation.Pending n.pending) left (note_kept IsPending annotation.Pending (λ p of. of) n.pending is.pending) (is.left, note_kept IsZone annotation.Foot (λ z of. of) n.foot is.foot))

step_kept : (s : Step) → IsStepWritten s → AreKept (step_items s)
step_kept s is = both_kept (note_items annotation.Shows s.shows) (item.Instruction s.instruction ∷ []) (note_kept IsInequality annotation.Shows (λ i of. of) s.shows is.shows) (is.instruction, tt)

ending_kept : (e : Option Ending) → IsEndingWrittenIfAny e → AreKept (ending_items e)
ending_kept None is = tt
ending_kept (Some e) is = both_kept (note_items annotation.Shows e.shows) (item.Terminator e.terminator ∷ []) (note_kept IsInequality annotation.Shows (λ i of. of) e.shows is.shows) (is.terminator, tt)

block_kept : (b : Block) → IsBlockWritten b → AreKept (block_items b)
unfolding block_items
block_kept b is =
    let tail : List Item = flat_map step_items b.steps ++ ending_items b.ending in
    let body = both_kept (map item.Phi b.phis) tail (kind_kept IsPhiWritten item.Phi (λ p of. of) b.phis is.phis)
    (both_kept (flat_map step_items b.steps) (ending_items b.ending) (part_kept IsStepWritten step_items step_kept b.steps is.steps) (ending_kept b.ending is.ending)) in
    (is.label, both_kept (block_note_items b.notes) (body_items b) (block_notes_kept b.notes is.notes) body)

close_kept : IsKeptItem item.Close
close_kept = record { fits = refl; spelled = refl; within = refl }

function_kept : (f : Function) → IsFunctionWritten f → AreKept (function_items f)
unfolding function_items
function_kept f is =
    let blocks : List Item = flat_map block_items f.blocks in (
      is.head,
      both_kept (function_note_items f.notes) (blocks ++ item.Close ∷ []) (function_notes_kept f.notes is.notes)
          (both_kept blocks (item.Close ∷ []) (part_kept IsBlockWritten block_items block_kept f.blocks is.blocks) (close_kept, tt)),
    )

module_kept : (m : Module) → IsKeptModule m → AreKept (module_items m)
unfolding module_items
module_kept m is =
    both_kept (map item.Global m.globals) (flat_map function_items m.functions) (kind_kept IsGlobalWritten item.Global (λ g of. of) m.globals is.globals)
    (part_kept IsKeptFunction function_items (λ f of. function_kept f of.written) m.functions is.functions)

-- ---- the module with no lines is within the limits

map_all : {A B : Type 0} (P : A → Type 0) (Q : B → Type 0) (f : A → B) → ((x : A) → P x → Q (f x)) → (xs : List A) → All P xs → All Q (map f xs)
map_all P Q f each [] all = All-nil Q
map_all P Q f each (x ∷ xs) all = All-cons Q (f x) (map f xs) (each x (All-head P x xs all)) (map_all P Q f each xs (All-tail P x xs all))

unlined_ending_few : (b : Block) (e : Option Ending) → b.ending ≡ e → AreEndingShowsFew e → AreEndingShowsFew (unlined_block b).ending
unlined_ending_few b None same h = rw same tt
unlined_ending_few b (Some e) same h = rw same (simp length-map h)

block_within : (b : Block) → IsBlockWithin b → IsBlockWithin (unlined_block b)
block_within b is = record {
  notes = record { keeps = simp length-map is.notes.keeps; pending = simp length-map is.notes.pending; foot = simp length-map is.notes.foot };
  shows = map_all AreStepShowsFew AreStepShowsFew unlined_step (λ s few. simp length-map few) b.steps is.shows;
  ending = unlined_ending_few b b.ending refl is.ending;
}

function_within : (f : Function) → IsFunctionWithin f → IsFunctionWithin (unlined_function f)
function_within f is = record {
  parameters = is.parameters;
  notes = record {
    requirements = simp length-map is.notes.requirements;
    guarantees = simp length-map is.notes.guarantees;
    reads = simp length-map is.notes.reads;
    writes = simp length-map is.notes.writes;
    adds = simp length-map is.notes.adds;
  };
  blocks = simp length-map is.blocks;
  each_block = map_all IsBlockWithin IsBlockWithin unlined_block block_within f.blocks is.each_block;
}

function_opened : (f : Function) → IsKeptFunction f → IsOpenFunction (unlined_function f)
function_opened f is = record {
  distinct = ap (λ (ns : List (List ℕ)). is_repeated [] (reserved_inside ∷ ns)) (function_names-unlined f) ∙ is.distinct;
  registers = subst (λ (n : ℕ). n ≤ 4096) (sym (register_count-unlined f)) is.registers;
  alloca_cells = subst (λ (n : ℕ). n ≤ 4096) (sym (function_cells-unlined f)) is.alloca_cells;
}

module_good : (m : Module) → IsKeptModule m → IsGoodDraft (drafted (unlined m) place.Outside)
module_good m is =
    let counted : All IsOpenFunction (map unlined_function m.functions) = map_all IsKeptFunction IsOpenFunction unlined_function function_opened m.functions is.functions in
    let within : All IsFunctionWithin (map unlined_function m.functions) = map_all IsKeptFunction IsFunctionWithin unlined_function (λ f of. function_within f of.within) m.functions is.functions in
    let cells : IsSmall (counts_of (drafted (unlined m) place.Outside)) = record { global_cells = subst (λ (n : ℕ). n ≤ 1048576) (sym (global_cells-unlined m)) is.cells; registers = omega arith; alloca_cells = omega arith } in
    record {
      outside =
          ap (λ (ns : List (List ℕ)). is_repeated [] (reserved_outside ∷ ns)) (append-nil (module_names (unlined m)) ∙ module_names-unlined m) ∙ is.distinct;
      inside = refl;
      small = cells;
      few = record { whole = record { within = record { few = simp length-map is.function_count; functions = within }; counted = counted }; place = tt };
    }

-- ---- printed and read again

outside_only : (p : LineContext) → unlined_place p ≡ place.Outside → p ≡ place.Outside
outside_only place.Outside h = refl
outside_only (place.FunctionHead f) h = absurd cc
outside_only (place.BlockHead f b) h = absurd cc
outside_only (place.Phis f b) h = absurd cc
outside_only (place.Body f b shows) h = absurd cc
outside_only (place.Ended f b) h = absurd cc

pub round_trip : (m : Module) → IsKeptModule m → length (module_text m) ≤ 1048576 → (w : Module) × (Answers (module_text m) (Ok w) × (unlined w ≡ unlined m))
round_trip m is short =
    let items : List Item = module_items m in
    let text : List ℕ = module_text m in
    let end : Draft = drafted (unlined m) place.Outside in
    let whole : All IsWhole m.functions = λ k d h. let f = is.functions k d h in record { some = f.some; written = f.written } in
    let kept : AreKept items = module_kept m is in
    let passes : Passes start items end = (all_pass start end items tt (module_fills m whole) (module_good m is)).0 in
    let again = reads_again start start end items 1 1048576 refl passes kept short in
    let e : Draft = again.0 in
    let lines : lines_of text ≡ map printed_line items = printed_lines items kept in
    let read : Reads start 1 1048576 (lines_of text) (Ok e) = subst (λ (ls : List (List ℕ)). Reads start 1 1048576 ls (Ok e)) (sym lines) again.1.1 in
    let outside : e.place ≡ place.Outside = outside_only e.place (ap (λ (d : Draft). d.place) again.1.0) in
    let over : ended e.whole e.place (length (lines_of text)) ≡ Ok e.whole = ap (λ (p : LineContext). ended e.whole p (length (lines_of text))) outside in (
      e.whole,
      (
        Read e (Ok e.whole) read over,
        ap (λ (d : Draft). d.whole) again.1.0,
      ),
    )

read_back_as : (m : Module) (text : List ℕ) → text ≡ module_text m → IsReadBackAs m text
read_back_as m text e = λ kept short out answers.
    let fits : length (module_text m) ≤ 1048576 = subst (λ (t : List ℕ). length t ≤ 1048576) e short in
    let again = round_trip m kept fits in
    let same : out ≡ Ok again.0 = one_answer (module_text m) out (Ok again.0) (subst (λ (t : List ℕ). Answers t out) e answers) again.1.0 in
    subst (IsAgain m) (sym same) again.1.1

pub if_read_back : {S E : Type 0} (bytes : S → List ℕ) (m : Module) (r : Result S E) → IfOk r (λ text. bytes text ≡ module_text m) → IfOk r (λ text. IsReadBackAs m (bytes text))
if_read_back bytes m (Ok text) h = read_back_as m (bytes text) h
if_read_back bytes m (Err e) h = tt
