-- What stands in a block, and where a list's elements stand from its other end.
use Rattle.std.proofs.Common.{◌≡◌, ℕ, zero, suc, ◌-◌, ◌<◌, ◌≤◌, List, [], ◌∷◌, length, reverse, refl, ap, sym, ◌∙◌, subst, arith, get_or, Option, Some, None}
use Rattle.std.specs.Prelude.{slice_get}
use Rattle.std.proofs.lemmas.List.{get_or-reverse, length-reverse}
use Rattle.std.proofs.lemmas.Option.{get_or_from_slice_get, slice_get-get_or, slice_get_within}
use Rattle.semantics.specs.Frames.{Does, Ends, Item, item_at, item_of}
use Rattle.program.specs.declared.function.Program.{Program}
use Rattle.program.specs.declared.instruction.Ending.{Ending}
use Rattle.program.specs.declared.instruction.Step.{Step}
use Rattle.frame_engine.proofs.Turns.{item_step}
use Rattle.windows.specs.CodeSlots.{places_of}
use Rattle.windows.specs.declared.places.CodePlace.{CodePlace}
use Rattle.strand.specs.Spans.{placed_item, slot_item}

-- ---- items of a block

-- a step that was read
pub step_read : (steps lent : List Step) (ending : Option Ending) (i : ℕ) (d : Step) → lent ≡ steps → i < length lent → item_of steps ending i ≡ Some (Does (get_or lent i d).instruction)
step_read steps lent ending i d same lt =
    subst (λ (xs : List Step). item_of xs ending i ≡ Some (Does (get_or lent i d).instruction)) same
    (item_step lent ending i (get_or lent i d) (slice_get-get_or lent i d lt))

past_steps : (steps : List Step) (i : ℕ) → length steps ≤ i → item_of steps None i ≡ None
past_steps [] i le = refl
past_steps (s ∷ steps) zero le = absurd (omega (arith, le))
past_steps (s ∷ steps) (suc i) le = past_steps steps i (omega (arith, le))

pub none_past : (steps lent : List Step) (ending : Option Ending) (i : ℕ) → lent ≡ steps → length lent ≤ i → ending ≡ None → item_of steps ending i ≡ None
none_past steps lent ending i same le none =
    subst (λ (o : Option Ending). item_of steps o i ≡ None) (sym none) (subst (λ (xs : List Step). item_of xs None i ≡ None) same (past_steps lent i le))

at_end : (steps : List Step) (e : Ending) (i : ℕ) → length steps ≤ i → (item_of steps (Some e) i ≡ None → ⊥) → item_of steps (Some e) i ≡ Some (Ends e.terminator)
at_end [] e zero le there = refl
at_end [] e (suc i) le there = absurd (there refl)
at_end (s ∷ steps) e zero le there = absurd (omega (arith, le))
at_end (s ∷ steps) e (suc i) le there = at_end steps e i (omega (arith, le)) there

pub end_read : (steps lent : List Step) (ending : Option Ending) (e : Ending) (i : ℕ) → lent ≡ steps → length lent ≤ i → ending ≡ Some e → (item_of steps ending i ≡ None → ⊥) → item_of steps ending i ≡ Some (Ends e.terminator)
end_read steps lent ending e i same le is there =
    let long : length steps ≤ i = subst (λ (xs : List Step). length xs ≤ i) same le in
    let here : item_of steps (Some e) i ≡ None → ⊥ = subst (λ (o : Option Ending). item_of steps o i ≡ None → ⊥) is there in
    subst (λ (o : Option Ending). item_of steps o i ≡ Some (Ends e.terminator)) (sym is) (at_end steps e i long here)

-- ---- items of slots

some_there : (o : Option Item) → (o ≡ None → ⊥) → (item : Item) × (o ≡ Some item)
some_there None there = absurd (there refl)
some_there (Some item) there = (item, refl)

-- the place of a slot whose item is there
pub record Slotted (prog : Program) (pc : ℕ) : Type 0 where
  pub place : CodePlace
  pub is : slice_get (places_of prog) pc ≡ Some place
  pub item : Item
  pub item_is : item_at prog place.function.0 place.block.0 place.index ≡ Some item

slotted_in : (prog : Program) (pc : ℕ) (o : Option CodePlace) → slice_get (places_of prog) pc ≡ o → (placed_item prog o ≡ None → ⊥) → Slotted prog pc
slotted_in prog pc None e there = absurd (there refl)
slotted_in prog pc (Some p) e there = let x = some_there (item_at prog p.function.0 p.block.0 p.index) there in record { place = p; is = e; item = x.0; item_is = x.1 }

pub slotted : (prog : Program) (pc : ℕ) → (slot_item prog pc ≡ None → ⊥) → Slotted prog pc
slotted prog pc there = slotted_in prog pc (slice_get (places_of prog) pc) refl there

-- ---- lists

abbrev pub AtEach : {A : Type 0} → (A → Type 0) → List A → Type 0
AtEach P xs = (k : ℕ) (x : _) → slice_get xs k ≡ Some x → P x

-- an element from the other end
pub from_end : {A : Type 0} (xs : List A) (k : ℕ) (x : A) → slice_get xs k ≡ Some x → slice_get (reverse xs) (length xs - suc k) ≡ Some x
from_end xs k x e =
    let lt : k < length xs = slice_get_within xs k x e in
    let long = length-reverse xs in
    let at : length xs - 1 - (length xs - suc k) ≡ k = omega (arith, lt) in
    let got : get_or (reverse xs) (length xs - suc k) x ≡ x =
    get_or-reverse xs (length xs - suc k) x (omega (arith, lt)) ∙ ap (λ (n : ℕ). get_or xs n x) at ∙ get_or_from_slice_get xs k x x e in
    slice_get-get_or (reverse xs) (length xs - suc k) x (omega (arith, lt, long)) ∙ ap (λ (y : _). Some y) got

pub each_reversed : {A : Type 0} (P : A → Type 0) (xs : List A) → AtEach P (reverse xs) → AtEach P xs
each_reversed P xs all k x e = all (length xs - suc k) x (from_end xs k x e)
