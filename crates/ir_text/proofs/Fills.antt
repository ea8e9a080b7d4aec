-- The items of a module that is kept, put one behind another on line 0, are the module again, lines aside.
use Rattle.std.proofs.Common.{◌≡◌, ℕ, ◌<◌, Bool, true, false, List, [], ◌∷◌, ◌++◌, length, map, Option, Some, None, refl, sym, subst, ap, ◌∙◌, arith, append_assoc, append-nil}
use Rattle.std.specs.Prelude.{option_map}
use Rattle.std.specs.List.{All, flat_map}
use Rattle.std.proofs.lemmas.List.Elements.{All-head, All-tail}
use Rattle.ir_annotation.specs.declared.meaning.Annotation.TheVariants as annotation
use Rattle.ir_annotation.specs.Annotations.{inequality_on, zone_on, pending_on, measure_on, left_on}
use Rattle.ir_reader.specs.declared.item.item.Item.{Item}
use Rattle.ir_reader.specs.declared.item.item.Item.TheVariants as item
use Rattle.ir_reader.specs.item.Printed.{item_on}
use Rattle.syntax.specs.declared.annotation.Inequality.{Inequality}
use Rattle.syntax.specs.declared.annotation.Zone.{Zone}
use Rattle.syntax.specs.declared.annotation.Pending.{Pending}
use Rattle.syntax.specs.declared.annotation.FunctionNotes.{FunctionNotes}
use Rattle.syntax.specs.declared.annotation.BlockNotes.{BlockNotes}
use Rattle.syntax.specs.declared.operator.Mode.{Mode}
use Rattle.syntax.specs.declared.operator.Mode.TheVariants as mode
use Rattle.syntax.specs.declared.instruction.Phi.{Phi}
use Rattle.syntax.specs.declared.instruction.Step.{Step}
use Rattle.syntax.specs.declared.terminator.Ending.{Ending}
use Rattle.syntax.specs.declared.module.Global.{Global}
use Rattle.syntax.specs.declared.module.Block.{Block}
use Rattle.syntax.specs.declared.module.Function.{Function}
use Rattle.syntax.specs.declared.module.Module.{Module}
use Rattle.ir_reader.specs.declared.annotating.BlockHead.{BlockHead}
use Rattle.ir_reader.specs.declared.draft.Draft.{Draft}
use Rattle.ir_reader.specs.declared.draft.LineContext.TheVariants as place
use Rattle.ir_reader.specs.Opening.{no_function_notes, new_function, no_block_notes, new_block, with_function, with_block}
use Rattle.ir_reader.specs.Annotating.{with_zone_of}
use Rattle.ir_reader.specs.Draft.{drafted, new_place, placed}
use Rattle.ir_text.specs.Items.{note_items, function_note_items, block_note_items, step_items, ending_items, body_items, block_items, function_items, module_items}
use Rattle.ir_text.specs.Unlined.{unlined_inequalities, unlined_zones, unlined_function_notes, unlined_block_notes, unlined_phi, unlined_step, unlined_ending, unlined_block, unlined_function, unlined_global, unlined}
use Rattle.ir_reader.specs.Reading.{start}
use Rattle.ir_reader.specs.Kept.{IsZoneOf, IsFunctionWritten, AreFunctionNotesWritten}

-- an item is put on line 0
abbrev pub Puts : Draft → Item → Draft → Type 0
Puts d i e = placed d 0 (item_on 0 i) ≡ Some e

-- items are put one behind another
abbrev pub Fills : Draft → List Item → Draft → Type 0
Fills d [] e = d ≡ e
Fills d (i ∷ items) e = (g : Draft) × (Puts d i g × Fills g items e)

fills_both : (d e g : Draft) (xs ys : List Item) → Fills d xs e → Fills e ys g → Fills d (xs ++ ys) g
fills_both d e g [] ys first later = subst (λ (h : Draft). Fills h ys g) (sym first) later
fills_both d e g (x ∷ xs) ys first later = (first.0, (first.1.0, fills_both first.0 e g xs ys first.1.1 later))

put : (d e g : Draft) (i : Item) (items : List Item) → Puts d i e → Fills e items g → Fills d (i ∷ items) g
put d e g i items here later = (e, (here, later))

one : (d e : Draft) (i : Item) → Puts d i e → Fills d (i ∷ []) e
one d e i here = (e, (here, refl))

-- items of one kind, each of which adds its part to a list
fills_list : {A B : Type 0} (P : A → Type 0) (D : List B → Draft) (kind : A → Item) (u : A → B) → ((done : List B) (x : A) → P x → Puts (D done) (kind x) (D (done ++ u x ∷ [])))
    → (done : List B) (xs : List A) → All P xs → Fills (D done) (map kind xs) (D (done ++ map u xs))
fills_list P D kind u each done [] all = ap D (sym (append-nil done))
fills_list {A} {B} P D kind u each done (x ∷ xs) all =
    let next : List B = done ++ u x ∷ [] in
    let same : next ++ map u xs ≡ done ++ map u (x ∷ xs) = append_assoc done (u x ∷ []) (map u xs) in
    put (D done) (D next) (D (done ++ map u (x ∷ xs))) (kind x) (map kind xs) (each done x (All-head P x xs all))
    (subst (Fills (D next) (map kind xs)) (ap D same) (fills_list P D kind u each next xs (All-tail P x xs all)))

-- parts of several items
fills_flat : {A B : Type 0} (P : A → Type 0) (D : List B → Draft) (items : A → List Item) (u : A → B) → ((done : List B) (x : A) → P x → Fills (D done) (items x) (D (done ++ u x ∷ [])))
    → (done : List B) (xs : List A) → All P xs → Fills (D done) (flat_map items xs) (D (done ++ map u xs))
fills_flat P D items u each done [] all = ap D (sym (append-nil done))
fills_flat {A} {B} P D items u each done (x ∷ xs) all =
    let next : List B = done ++ u x ∷ [] in
    let same : next ++ map u xs ≡ done ++ map u (x ∷ xs) = append_assoc done (u x ∷ []) (map u xs) in
    fills_both (D done) (D next) (D (done ++ map u (x ∷ xs))) (items x) (flat_map items xs) (each done x (All-head P x xs all))
    (subst (Fills (D next) (flat_map items xs)) (ap D same) (fills_flat P D items u each next xs (All-tail P x xs all)))

abbrev Any : {A : Type 0} → A → Type 0
Any x = Unit {0}

all_any : {A : Type 0} (xs : List A) → All Any xs
all_any xs k d h = tt

-- ---- a function's annotations

abbrev head_with : Module → Function → Bool → Bool → FunctionNotes → Draft
head_with m f has_measure has_budget n = drafted m (place.FunctionHead (record { function = record f { notes = n }; has_measure = has_measure; has_budget = has_budget }))

zone_puts : (m : Module) (f : Function) (n : FunctionNotes) (z : Zone) (which : Mode) → z.mode ≡ which
    → Puts (head_with m f false false n) (item.Annotation (annotation.FunctionZone z)) (drafted m (place.FunctionHead (record { function = with_zone_of which (record f { notes = n }) (zone_on 0 z); has_measure = false; has_budget = false })))
zone_puts m f n z which e = ap (λ (w : Mode). let d : Draft = drafted m (place.FunctionHead (record { function = with_zone_of w (record f { notes = n }) (zone_on 0 z); has_measure = false; has_budget = false })) in Some d) e

-- measures and budgets as a `define` leaves them
abbrev notes_of : List Inequality → List Inequality → List Zone → List Zone → List Zone → FunctionNotes
notes_of requirements guarantees reads writes adds = record (no_function_notes 0) { requirements = requirements; guarantees = guarantees; reads = reads; writes = writes; adds = adds }

function_notes_fill : (m : Module) (f : Function) (n : FunctionNotes) → AreFunctionNotesWritten n → Fills (head_with m f false false (no_function_notes 0)) (function_note_items n) (head_with m f true true (unlined_function_notes n))
unfolding function_note_items
function_notes_fill m f n is =
    let r : List Inequality = unlined_inequalities n.requirements in
    let g : List Inequality = unlined_inequalities n.guarantees in
    let reads : List Zone = unlined_zones n.reads in
    let writes : List Zone = unlined_zones n.writes in
    let adds : List Zone = unlined_zones n.adds in
    let at : FunctionNotes → Draft = head_with m f false false in
    let end : Draft = head_with m f true true (unlined_function_notes n) in
    let measured : Draft = head_with m f true false (record (notes_of r g reads writes adds) { measure = measure_on 0 n.measure }) in
    let last : List Item = item.Annotation (annotation.Measure n.measure) ∷ item.Annotation (annotation.Budget n.budget) ∷ [] in
    let five : Fills (at (notes_of r g reads writes adds)) last end =
    put (at (notes_of r g reads writes adds)) measured end (item.Annotation (annotation.Measure n.measure)) (item.Annotation (annotation.Budget n.budget) ∷ []) refl (one measured end (item.Annotation (annotation.Budget n.budget)) refl) in
    let four = fills_both (at (notes_of r g reads writes [])) (at (notes_of r g reads writes adds)) end (note_items annotation.FunctionZone n.adds) last
    (fills_list (IsZoneOf mode.Adds) (λ (zs : List Zone). at (notes_of r g reads writes zs)) (λ (z : Zone). item.Annotation (annotation.FunctionZone z)) (zone_on 0) (λ done z is. zone_puts m f (notes_of r g reads writes done) z mode.Adds is.mode) [] n.adds is.adds) five in
    let three = fills_both (at (notes_of r g reads [] [])) (at (notes_of r g reads writes [])) end (note_items annotation.FunctionZone n.writes) (note_items annotation.FunctionZone n.adds ++ last)
    (fills_list (IsZoneOf mode.Writes) (λ (zs : List Zone). at (notes_of r g reads zs [])) (λ (z : Zone). item.Annotation (annotation.FunctionZone z)) (zone_on 0) (λ done z is. zone_puts m f (notes_of r g reads done []) z mode.Writes is.mode) [] n.writes is.writes) four in
    let two = fills_both (at (notes_of r g [] [] [])) (at (notes_of r g reads [] [])) end (note_items annotation.FunctionZone n.reads) (note_items annotation.FunctionZone n.writes ++ (note_items annotation.FunctionZone n.adds ++ last))
    (fills_list (IsZoneOf mode.Reads) (λ (zs : List Zone). at (notes_of r g zs [] [])) (λ (z : Zone). item.Annotation (annotation.FunctionZone z)) (zone_on 0) (λ done z is. zone_puts m f (notes_of r g done [] []) z mode.Reads is.mode) [] n.reads is.reads) three in
    let first = fills_both (at (notes_of r [] [] [] [])) (at (notes_of r g [] [] [])) end (note_items annotation.Ensures n.guarantees) (note_items annotation.FunctionZone n.reads ++ (note_items annotation.FunctionZone n.writes ++ (note_items annotation.FunctionZone n.adds ++ last)))
    (fills_list Any (λ (is : List Inequality). at (notes_of r is [] [] [])) (λ (i : Inequality). item.Annotation (annotation.Ensures i)) (inequality_on 0) (λ done i any. refl) [] n.guarantees (all_any n.guarantees)) two in
    fills_both (at (notes_of [] [] [] [] [])) (at (notes_of r [] [] [] [])) end (note_items annotation.Requires n.requirements)
    (note_items annotation.Ensures n.guarantees ++ (note_items annotation.FunctionZone n.reads ++ (note_items annotation.FunctionZone n.writes ++ (note_items annotation.FunctionZone n.adds ++ last))))
    (fills_list Any (λ (is : List Inequality). at (notes_of is [] [] [] [])) (λ (i : Inequality). item.Annotation (annotation.Requires i)) (inequality_on 0) (λ done i any. refl) [] n.requirements (all_any n.requirements)) first

-- ---- a block's annotations

abbrev block_head : Module → Function → List ℕ → Bool → BlockNotes → Draft
block_head m f label has_left n = drafted m (place.BlockHead f (record { block = record (new_block 0 label) { notes = n }; has_left = has_left }))

block_notes_fill : (m : Module) (f : Function) (label : List ℕ) (n : BlockNotes) → Fills (block_head m f label false (no_block_notes 0)) (block_note_items n) (block_head m f label true (unlined_block_notes n))
unfolding block_note_items
block_notes_fill m f label n =
    let keeps : List Inequality = unlined_inequalities n.keeps in
    let pending : List Pending = map (pending_on 0) n.pending in
    let with_notes : List Inequality → List Pending → BlockNotes = λ (ks : List Inequality) (ps : List Pending). record (no_block_notes 0) { keeps = ks; pending = ps } in
    let left_there : List Zone → BlockNotes = λ (zs : List Zone). record { keeps = keeps; pending = pending; left = left_on 0 n.left; foot = zs } in
    let end : Draft = block_head m f label true (unlined_block_notes n) in
    let feet : Fills (block_head m f label true (left_there [])) (note_items annotation.Foot n.foot) end =
    fills_list Any (λ (zs : List Zone). block_head m f label true (left_there zs)) (λ (z : Zone). item.Annotation (annotation.Foot z)) (zone_on 0) (λ done z any. refl) [] n.foot (all_any n.foot) in
    let left : Fills (block_head m f label false (with_notes keeps pending)) (item.Annotation (annotation.Left n.left) ∷ note_items annotation.Foot n.foot) end =
    put (block_head m f label false (with_notes keeps pending)) (block_head m f label true (left_there [])) end (item.Annotation (annotation.Left n.left)) (note_items annotation.Foot n.foot) refl feet in
    let pends = fills_both (block_head m f label false (with_notes keeps [])) (block_head m f label false (with_notes keeps pending)) end (note_items annotation.Pending n.pending) (item.Annotation (annotation.Left n.left) ∷ note_items annotation.Foot n.foot)
    (fills_list Any (λ (ps : List Pending). block_head m f label false (with_notes keeps ps)) (λ (p : Pending). item.Annotation (annotation.Pending p)) (pending_on 0) (λ done p any. refl) [] n.pending (all_any n.pending)) left in
    fills_both (block_head m f label false (with_notes [] [])) (block_head m f label false (with_notes keeps [])) end (note_items annotation.Keeps n.keeps)
    (note_items annotation.Pending n.pending ++ item.Annotation (annotation.Left n.left) ∷ note_items annotation.Foot n.foot)
    (fills_list Any (λ (ks : List Inequality). block_head m f label false (with_notes ks [])) (λ (i : Inequality). item.Annotation (annotation.Keeps i)) (inequality_on 0) (λ done i any. refl) [] n.keeps (all_any n.keeps)) pends

-- ---- what stands behind them

-- a label and the end of the function may stand behind the draft as behind this block
record IsEnd (d : Draft) (m : Module) (f : Function) (b : Block) : Type 0 where
  label : (l : List ℕ) → Puts d (item.Label l) (drafted m (new_place (with_block f b) 0 l))
  close : Puts d item.Close (drafted (with_function m (with_block f b)) place.Outside)

-- the items end a block
abbrev FillsTo : Draft → List Item → Module → Function → Block → Type 0
FillsTo d items m f b = (e : Draft) × (Fills d items e × IsEnd e m f b)

fills_to : (d e : Draft) (xs ys : List Item) (m : Module) (f : Function) (b : Block) → Fills d xs e → FillsTo e ys m f b → FillsTo d (xs ++ ys) m f b
fills_to d e xs ys m f b first later = (later.0, (fills_both d e later.0 xs ys first later.1.0, later.1.1))

-- these may stand behind a phi and behind a block's annotations as behind an instruction
abbrev IsOfBody : List Item → Type 0
IsOfBody [] = Unit {0}
IsOfBody (item.Instruction i ∷ items) = Unit {0}
IsOfBody (item.Terminator t ∷ items) = Unit {0}
IsOfBody (item.Annotation (annotation.Shows i) ∷ items) = Unit {0}
IsOfBody _ = ⊥

behind_phis : (m : Module) (f : Function) (b c : Block) (items : List Item) → IsOfBody items → FillsTo (drafted m (place.Body f b [])) items m f c → FillsTo (drafted m (place.Phis f b)) items m f c
behind_phis m f b c [] is h =
    let end : IsEnd (drafted m (place.Body f b [])) m f c = subst (λ (d : Draft). IsEnd d m f c) (sym h.1.0) h.1.1 in
    (drafted m (place.Phis f b), (refl, record { label = end.label; close = end.close }))
behind_phis m f b c (item.Instruction i ∷ items) is h = h
behind_phis m f b c (item.Terminator t ∷ items) is h = h
behind_phis m f b c (item.Annotation (annotation.Shows i) ∷ items) is h = h
behind_phis m f b c (item.Annotation _ ∷ items) is h = absurd is
behind_phis m f b c (_ ∷ items) is h = absurd is

-- and so may phis behind a block's annotations
abbrev BeginsBody : List Item → Type 0
BeginsBody (item.Phi p ∷ items) = Unit {0}
BeginsBody items = IsOfBody items

behind_notes : (m : Module) (f : Function) (h : BlockHead) (c : Block) (items : List Item) → BeginsBody items → FillsTo (drafted m (place.Phis f h.block)) items m f c → FillsTo (drafted m (place.BlockHead f h)) items m f c
behind_notes m f h c [] is fills =
    let end : IsEnd (drafted m (place.Phis f h.block)) m f c = subst (λ (d : Draft). IsEnd d m f c) (sym fills.1.0) fills.1.1 in
    (drafted m (place.BlockHead f h), (refl, record { label = end.label; close = end.close }))
behind_notes m f h c (item.Phi p ∷ items) is fills = fills
behind_notes m f h c (item.Instruction i ∷ items) is fills = fills
behind_notes m f h c (item.Terminator t ∷ items) is fills = fills
behind_notes m f h c (item.Annotation (annotation.Shows i) ∷ items) is fills = fills
behind_notes m f h c (item.Annotation _ ∷ items) is fills = absurd is
behind_notes m f h c (_ ∷ items) is fills = absurd is

shows_fill : (m : Module) (f : Function) (b : Block) (shows : List Inequality) → Fills (drafted m (place.Body f b [])) (note_items annotation.Shows shows) (drafted m (place.Body f b (unlined_inequalities shows)))
shows_fill m f b shows = fills_list Any (λ (is : List Inequality). drafted m (place.Body f b is)) (λ (i : Inequality). item.Annotation (annotation.Shows i)) (inequality_on 0) (λ done i any. refl) [] shows (all_any shows)

abbrev with_steps : Block → List Step → Block
with_steps b steps = record b { steps = steps }

step_fill : (m : Module) (f : Function) (b : Block) (done : List Step) (s : Step)
    → Fills (drafted m (place.Body f (with_steps b done) [])) (step_items s) (drafted m (place.Body f (with_steps b (done ++ unlined_step s ∷ [])) []))
step_fill m f b done s =
    let shown : Draft = drafted m (place.Body f (with_steps b done) (unlined_inequalities s.shows)) in
    let end : Draft = drafted m (place.Body f (with_steps b (done ++ unlined_step s ∷ [])) []) in
    fills_both (drafted m (place.Body f (with_steps b done) [])) shown end (note_items annotation.Shows s.shows) (item.Instruction s.instruction ∷ []) (shows_fill m f (with_steps b done) s.shows)
    (one shown end (item.Instruction s.instruction) refl)

abbrev with_body : Block → List Phi → List Step → Option Ending → Block
with_body b phis steps ending = record b { phis = phis; steps = steps; ending = ending }

ending_fill : (m : Module) (f : Function) (b : Block) (phis : List Phi) (steps : List Step) (ending : Option Ending)
    → FillsTo (drafted m (place.Body f (with_body b phis steps None) [])) (ending_items ending) m f (with_body b phis steps (option_map unlined_ending ending))
ending_fill m f b phis steps None = (drafted m (place.Body f (with_body b phis steps None) []), (refl, record { label = λ l. refl; close = refl }))
ending_fill m f b phis steps (Some e) =
    let open_block : Block = with_body b phis steps None in
    let shown : Draft = drafted m (place.Body f open_block (unlined_inequalities e.shows)) in
    let end : Draft = drafted m (place.Ended f (with_body b phis steps (Some (unlined_ending e)))) in (
      end,
      (
        fills_both (drafted m (place.Body f open_block [])) shown end (note_items annotation.Shows e.shows) (item.Terminator e.terminator ∷ []) (shows_fill m f open_block e.shows)
            (one shown end (item.Terminator e.terminator) refl),
        record { label = λ l. refl; close = refl },
      ),
    )

begins_ending : (shows : List Inequality) (i : Item) (rest : List Item) → IsOfBody (i ∷ rest) → IsOfBody ((note_items annotation.Shows shows ++ i ∷ []) ++ rest)
begins_ending [] (item.Instruction i) rest is = tt
begins_ending [] (item.Terminator t) rest is = tt
begins_ending [] (item.Annotation (annotation.Shows i)) rest is = tt
begins_ending [] (item.Annotation _) rest is = absurd is
begins_ending [] _ rest is = absurd is
begins_ending (s ∷ shows) i rest is = tt

begins_steps : (steps : List Step) (ending : Option Ending) → IsOfBody (flat_map step_items steps ++ ending_items ending)
begins_steps [] None = tt
begins_steps [] (Some e) = subst IsOfBody (append-nil (ending_items (Some e))) (begins_ending e.shows (item.Terminator e.terminator) [] tt)
begins_steps (s ∷ steps) ending =
    subst IsOfBody (sym (append_assoc (step_items s) (flat_map step_items steps) (ending_items ending))) (begins_ending s.shows (item.Instruction s.instruction) (flat_map step_items steps ++ ending_items ending) tt)

begins_phis : (phis : List Phi) (items : List Item) → IsOfBody items → BeginsBody (map item.Phi phis ++ items)
begins_phis [] [] is = tt
begins_phis [] (item.Instruction i ∷ items) is = tt
begins_phis [] (item.Terminator t ∷ items) is = tt
begins_phis [] (item.Annotation (annotation.Shows i) ∷ items) is = tt
begins_phis [] (item.Annotation _ ∷ items) is = absurd is
begins_phis [] (_ ∷ items) is = absurd is
begins_phis (p ∷ phis) items is = tt

-- ---- blocks

-- behind the annotations of a block that has nothing else yet
body_fill : (m : Module) (f : Function) (h : BlockHead) (phis : List Phi) (steps : List Step) (ending : Option Ending) → h.block ≡ with_body h.block [] [] None
    → FillsTo (drafted m (place.BlockHead f h)) (map item.Phi phis ++ (flat_map step_items steps ++ ending_items ending)) m f
    (with_body h.block (map unlined_phi phis) (map unlined_step steps) (option_map unlined_ending ending))
body_fill m f h phis steps ending plain =
    let b : Block = h.block in
    let ps : List Phi = map unlined_phi phis in
    let ss : List Step = map unlined_step steps in
    let end : Block = with_body b ps ss (option_map unlined_ending ending) in
    let tail : List Item = flat_map step_items steps ++ ending_items ending in
    let phi_fill = fills_list Any (λ (done : List Phi). drafted m (place.Phis f (with_body b done [] None))) item.Phi unlined_phi (λ done p any. refl) [] phis (all_any phis) in
    let step_fills = fills_flat Any (λ (done : List Step). drafted m (place.Body f (with_body b ps done None) [])) step_items unlined_step (λ done s any. step_fill m f (with_body b ps [] None) done s) [] steps (all_any steps) in
    let body : FillsTo (drafted m (place.Body f (with_body b ps [] None) [])) tail m f end =
    fills_to (drafted m (place.Body f (with_body b ps [] None) [])) (drafted m (place.Body f (with_body b ps ss None) [])) (flat_map step_items steps) (ending_items ending) m f end step_fills (ending_fill m f b ps ss ending) in
    let all : FillsTo (drafted m (place.Phis f (with_body b [] [] None))) (map item.Phi phis ++ tail) m f end =
    fills_to (drafted m (place.Phis f (with_body b [] [] None))) (drafted m (place.Phis f (with_body b ps [] None))) (map item.Phi phis) tail m f end phi_fill
    (behind_phis m f (with_body b ps [] None) end tail (begins_steps steps ending) body) in
    behind_notes m f h end (map item.Phi phis ++ tail) (begins_phis phis tail (begins_steps steps ending))
    (subst (λ (c : Block). FillsTo (drafted m (place.Phis f c)) (map item.Phi phis ++ tail) m f end) (sym plain) all)

-- behind a draft in which a label may stand
block_fill : (d : Draft) (m : Module) (f : Function) (b : Block) → Puts d (item.Label b.label) (drafted m (new_place f 0 b.label)) → FillsTo d (block_items b) m f (unlined_block b)
unfolding block_items
block_fill d m f b label =
    let head : BlockHead = record { block = record (new_block 0 b.label) { notes = unlined_block_notes b.notes }; has_left = true } in
    let new : Draft = drafted m (new_place f 0 b.label) in
    let rest : FillsTo new (block_note_items b.notes ++ body_items b) m f (unlined_block b) =
    fills_to new (drafted m (place.BlockHead f head)) (block_note_items b.notes) (body_items b) m f (unlined_block b) (block_notes_fill m f b.label b.notes) (body_fill m f head b.phis b.steps b.ending refl) in
    (rest.0, (put d new rest.0 (item.Label b.label) (block_note_items b.notes ++ body_items b) label rest.1.0, rest.1.1))

abbrev with_blocks : Function → List Block → Function
with_blocks f blocks = record f { blocks = blocks }

-- more blocks, and the end of the function
blocks_fill : (d : Draft) (m : Module) (f : Function) (done : List Block) (b : Block) (blocks : List Block) → IsEnd d m (with_blocks f done) b
    → Fills d (flat_map block_items blocks ++ item.Close ∷ []) (drafted (with_function m (with_blocks f ((done ++ b ∷ []) ++ map unlined_block blocks))) place.Outside)
blocks_fill d m f done b [] end =
    one d (drafted (with_function m (with_blocks f ((done ++ b ∷ []) ++ []))) place.Outside) item.Close
    (end.close ∙ ap (λ (bs : List Block). let e : Draft = drafted (with_function m (with_blocks f bs)) place.Outside in let o : Option Draft = Some e in o) (sym (append-nil (done ++ b ∷ []))))
blocks_fill d m f done b (c ∷ blocks) end =
    let so_far : List Block = done ++ b ∷ [] in
    let last : Draft = drafted (with_function m (with_blocks f (so_far ++ map unlined_block (c ∷ blocks)))) place.Outside in
    let first : FillsTo d (block_items c) m (with_blocks f so_far) (unlined_block c) = block_fill d m (with_blocks f so_far) c (end.label c.label) in
    let later : Fills first.0 (flat_map block_items blocks ++ item.Close ∷ []) last =
    subst (λ (bs : List Block). Fills first.0 (flat_map block_items blocks ++ item.Close ∷ []) (drafted (with_function m (with_blocks f bs)) place.Outside)) (append_assoc so_far (unlined_block c ∷ []) (map unlined_block blocks))
    (blocks_fill first.0 m f so_far (unlined_block c) blocks first.1.1) in
    subst (λ (items : List Item). Fills d items last) (sym (append_assoc (block_items c) (flat_map block_items blocks) (item.Close ∷ [])))
    (fills_both d first.0 last (block_items c) (flat_map block_items blocks ++ item.Close ∷ []) first.1.0 later)

-- behind a function's annotations
all_blocks_fill : (m : Module) (f : Function) (notes : FunctionNotes) (blocks : List Block) → 0 < length blocks
    → Fills (head_with m (with_blocks f []) true true notes) (flat_map block_items blocks ++ item.Close ∷ []) (drafted (with_function m (record f { notes = notes; blocks = map unlined_block blocks })) place.Outside)
all_blocks_fill m f notes [] some = absurd (omega arith)
all_blocks_fill m f notes (b ∷ blocks) some =
    let g : Function = record f { notes = notes; blocks = [] } in
    let start_of : Draft = head_with m (with_blocks f []) true true notes in
    let last : Draft = drafted (with_function m (record f { notes = notes; blocks = map unlined_block (b ∷ blocks) })) place.Outside in
    let first : FillsTo start_of (block_items b) m g (unlined_block b) = block_fill start_of m g b refl in
    let later : Fills first.0 (flat_map block_items blocks ++ item.Close ∷ []) last = blocks_fill first.0 m g [] (unlined_block b) blocks first.1.1 in
    subst (λ (items : List Item). Fills start_of items last) (sym (append_assoc (block_items b) (flat_map block_items blocks) (item.Close ∷ [])))
    (fills_both start_of first.0 last (block_items b) (flat_map block_items blocks ++ item.Close ∷ []) first.1.0 later)

-- ---- functions and the module

pub record IsWhole (f : Function) : Type 0 where
  pub some : 0 < length f.blocks
  pub written : IsFunctionWritten f

function_fill : (m : Module) (f : Function) → IsWhole f → Fills (drafted m place.Outside) (function_items f) (drafted (with_function m (unlined_function f)) place.Outside)
unfolding function_items
function_fill m f is =
    let new : Function = new_function 0 f.name f.result_type f.parameters in
    let opened : Draft = head_with m new false false (no_function_notes 0) in
    let noted : Draft = head_with m new true true (unlined_function_notes f.notes) in
    let end : Draft = drafted (with_function m (unlined_function f)) place.Outside in
    let rest : List Item = flat_map block_items f.blocks ++ item.Close ∷ [] in
    put (drafted m place.Outside) opened end (item.Define f.name f.result_type f.parameters) (function_note_items f.notes ++ rest) refl
    (fills_both opened noted end (function_note_items f.notes) rest (function_notes_fill m new f.notes is.written.notes) (all_blocks_fill m new (unlined_function_notes f.notes) f.blocks is.some))

abbrev outside : List Global → List Function → Draft
outside globals functions = drafted (record { globals = globals; functions = functions }) place.Outside

pub module_fills : (m : Module) → All IsWhole m.functions → Fills start (module_items m) (drafted (unlined m) place.Outside)
unfolding module_items
module_fills m all =
    let globals : List Global = map unlined_global m.globals in
    let first = fills_list Any (λ (gs : List Global). outside gs []) item.Global unlined_global (λ done g any. refl) [] m.globals (all_any m.globals) in
    let later = fills_flat IsWhole (λ (fs : List Function). outside globals fs) function_items unlined_function (λ done f is. function_fill (record { globals = globals; functions = done }) f is) [] m.functions all in
    fills_both start (outside globals []) (drafted (unlined m) place.Outside) (map item.Global m.globals) (flat_map function_items m.functions) first later
