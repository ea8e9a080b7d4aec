-- Printed items are read again.
use Rattle.std.proofs.Common.{◌≡◌, ℕ, ◌+◌, ◌-◌, ◌≤◌, true, false, List, [], ◌∷◌, length, length-append, map, Option, Some, None, Ok, refl, sym, subst, ap, ◌∙◌, arith}
use Rattle.std.specs.Prelude.{option_map}
use Rattle.std.specs.List.{flat_map}
use Rattle.ir_annotation.specs.declared.meaning.Annotation.{Annotation}
use Rattle.ir_annotation.specs.declared.meaning.Annotation.TheVariants as annotation
use Rattle.ir_annotation.specs.Annotations.{annotation_on}
use Rattle.ir_reader.specs.declared.item.item.Item.{Item}
use Rattle.ir_reader.specs.declared.item.item.Item.TheVariants as item
use Rattle.ir_reader.specs.item.Printed.{item_on, IsKeptItem, said}
use Rattle.ir_reader.proofs.item.ItemsAgain.{kept_again}
use Rattle.ir_reader.proofs.item.Shown.{shown_utf8}
use Rattle.ir_reader.specs.declared.draft.Draft.{Draft}
use Rattle.ir_reader.specs.Draft.{placed}
use Rattle.ir_reader.specs.Counting.{is_within_limits}
use Rattle.ir_text.specs.Items.{indentation, printed_content, printed_line}
use Rattle.ir_reader.specs.Lines.{content}
use Rattle.ir_reader.specs.Reading.{defines_again, judged_if_placed, with_item, Steps, Said, Reads, Done, Next}
use Rattle.ir_text.proofs.Unlining.{unlined_draft, placed_unlined, within-unlined, again-on, again-unlined}
use Rattle.ir_text.proofs.Rerun.{IsPassed, Passes}
use Rattle.ir_text.proofs.PrintedLines.{content_is, content_shown, AreKept}

on_annotation : (at : ℕ) (a : Annotation) → (let i : Item = item.Annotation (annotation_on 0 (annotation_on at a)) in i) ≡ item.Annotation (annotation_on 0 a)
on_annotation at (annotation.Requires i) = refl
on_annotation at (annotation.Ensures i) = refl
on_annotation at (annotation.FunctionZone z) = refl
on_annotation at (annotation.Measure m) = refl
on_annotation at (annotation.Budget b) = refl
on_annotation at (annotation.Keeps i) = refl
on_annotation at (annotation.Pending p) = refl
on_annotation at (annotation.Left l) = refl
on_annotation at (annotation.Foot z) = refl
on_annotation at (annotation.Shows i) = refl

on_again : (at : ℕ) (i : Item) → item_on 0 (item_on at i) ≡ item_on 0 i
on_again at (item.Annotation a) = on_annotation at a
on_again at (item.Global g) = refl
on_again at (item.Phi p) = refl
on_again at _ = refl

-- an item on its line makes of what was read what it made on line 0, lines aside
abbrev Makes : Draft → ℕ → Item → Draft → Type 0
Makes d at i e0 = (e : Draft) × ((unlined_draft e ≡ e0) × (with_item d at (said (item_on at i)) ≡ Ok e))

judged_made : (d : Draft) (at : ℕ) (i : Item) (o : Option Draft) (e0 : Draft) → placed d at (item_on at i) ≡ o → option_map unlined_draft o ≡ Some e0 → is_within_limits e0 ≡ true → defines_again d (item_on at i) ≡ false
    → (e : Draft) × ((unlined_draft e ≡ e0) × (judged_if_placed d (said (item_on at i)) o ≡ Ok e))
judged_made d at i None e0 put there within once = absurd cc
judged_made d at i (Some e) e0 put there within once =
    let same : unlined_draft e ≡ e0 = cc in
    let good : is_within_limits e ≡ true = sym (within-unlined e) ∙ ap is_within_limits same ∙ within in
    (e, (same, rw (good, once) refl))

item_made : (d d0 e0 : Draft) (at : ℕ) (i : Item) → unlined_draft d ≡ d0 → IsPassed d0 (item_on 0 i) e0 → Makes d at i e0
unfolding with_item
item_made d d0 e0 at i same passed =
    let there : option_map unlined_draft (placed d at (item_on at i)) ≡ Some e0 =
    placed_unlined d at (item_on at i) ∙ ap (placed (unlined_draft d) 0) (on_again at i) ∙ ap (λ (x : Draft). placed x 0 (item_on 0 i)) same ∙ passed.put in
    let once : defines_again d (item_on at i) ≡ false =
    again-on d at i ∙ sym (again-unlined d i) ∙ ap (λ (x : Draft). defines_again x i) same ∙ sym (again-on d0 0 i) ∙ passed.once in
    judged_made d at i (placed d at (item_on at i)) e0 refl there passed.within once

step_made : (d e : Draft) (at : ℕ) (i : Item) → IsKeptItem i → with_item d at (said (item_on at i)) ≡ Ok e → Steps d at (content (printed_line i)) (Ok e)
step_made d e at i is h =
    let shown = content_shown i is in
    subst (λ (line : List ℕ). Steps d at line (Ok e)) (sym (content_is (printed_content i) shown)) (Said (Some (said (item_on at i))) (Ok e) (shown_utf8 (printed_content i) shown) (kept_again at (indentation i) i is) h)

-- The lines of items that pass give what the items make, lines aside.
pub reads_again : (d d0 e0 : Draft) (items : List Item) (at room : ℕ) → unlined_draft d ≡ d0 → Passes d0 items e0 → AreKept items → length (flat_map printed_line items) ≤ room
    → (e : Draft) × ((unlined_draft e ≡ e0) × Reads d at room (map printed_line items) (Ok e))
reads_again d d0 e0 [] at room same passes kept fits = (d, (same ∙ passes, Done d at room))
reads_again d d0 e0 (i ∷ items) at room same passes kept fits =
    let line : List ℕ = printed_line i in
    let long = length-append line (flat_map printed_line items) in
    let made = item_made d d0 passes.0 at i same passes.1.0 in
    let later = reads_again made.0 passes.0 e0 items (at + 1) (room - length line) made.1.0 passes.1.1 kept.1 (omega (arith, long)) in
    (later.0, (later.1.0, Next d made.0 at room line (map printed_line items) (Ok later.0) (omega (arith, long)) (step_made d made.0 at i kept.0 made.1.1) later.1.1))
