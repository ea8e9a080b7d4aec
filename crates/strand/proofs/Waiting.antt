-- What stands at the slots that a strand keeps, and what its frame on top waits for.
use Rattle.std.proofs.Common.{◌≡◌, ℕ, zero, suc, ◌<◌, List, length, reverse, refl, ap, sym, ◌∙◌, subst, arith, get_or, Option, Some, None}
use Rattle.std.specs.Prelude.{slice_get}
use Rattle.std.proofs.Math.Logic.{∥∥₁_elim, ∥∥₁_map}
use Rattle.std.proofs.Props.{props}
use Rattle.std.proofs.lemmas.Option.{slice_get-get_or}
use Rattle.semantics.specs.Frames.{Does, Ends, Item}
use Rattle.program.specs.declared.function.Block.{Block}
use Rattle.program.specs.declared.function.Program.{Program}
use Rattle.program.specs.declared.instruction.Terminator.TheVariants as terminator
use Rattle.frame_engine.specs.declared.activation.Places.{Places}
use Rattle.frame_engine.specs.Shows.{Layout}
use Rattle.frame_engine.proofs.Texts.{located}
use Rattle.laws_strands.specs.stacks.Strands as strands
use Rattle.windows.specs.declared.windows.Saved.{Saved}
use Rattle.windows.specs.WindowsShown.{Text}
use Rattle.windows.specs.CodeSlots.{place, places_of, slot_of}
use Rattle.windows.specs.Slots.{blocks_in, blocks_of, slot}
use Rattle.windows.proofs.CodeSlots.{slots_stand}
use Rattle.windows.proofs.Slots.{within_block}
use Rattle.window_runs.specs.Frames.{IsSlot}
use Rattle.strand.specs.Along.{IsUnderWay}
use Rattle.strand.specs.Layouts.{Segment, base_on}
use Rattle.strand.specs.Spans.{IsSyncOf, ShowsSpan, placed_item, slot_item, text_of}
use Rattle.strand.specs.declared.strand.Strand.{Strand}
use Rattle.strand.proofs.Along.{stands}
use Rattle.strand.proofs.Frames.{IsMade, below_long, makers_there}
use Rattle.strand.proofs.Items.{each_reversed}

pub some_done : (n : ℕ) → (n ≡ 0 → ⊥) → 0 < n
some_done zero some = absurd (some refl)
some_done (suc n) some = omega arith

-- a sync that is somewhere found is found
region_from : (item : Item) → ∥ ((region : ℕ) × IsSyncOf (Some item) region) ∥₁ → (region : ℕ) × IsSyncOf (Some item) region
region_from (Does i) h = absurd (∥∥₁_elim h (hlevel props) (λ s. let e = s.1.2 in absurd cc))
region_from (Ends (terminator.Jump target)) h = absurd (∥∥₁_elim h (hlevel props) (λ s. let e = s.1.2 in absurd cc))
region_from (Ends (terminator.Branch test one other)) h = absurd (∥∥₁_elim h (hlevel props) (λ s. let e = s.1.2 in absurd cc))
region_from (Ends (terminator.Switch w a default cases)) h = absurd (∥∥₁_elim h (hlevel props) (λ s. let e = s.1.2 in absurd cc))
region_from (Ends (terminator.Return a)) h = absurd (∥∥₁_elim h (hlevel props) (λ s. let e = s.1.2 in absurd cc))
region_from (Ends (terminator.Detach r b c)) h = absurd (∥∥₁_elim h (hlevel props) (λ s. let e = s.1.2 in absurd cc))
region_from (Ends (terminator.Reattach r c)) h = absurd (∥∥₁_elim h (hlevel props) (λ s. let e = s.1.2 in absurd cc))
region_from (Ends (terminator.Sync r t)) h = (r.0, (r, t, refl, refl))

none_synced : (o : Option Item) (region : ℕ) → IsSyncOf o region → o ≡ None → ⊥
none_synced o region s e = let f = sym e ∙ s.2 in absurd cc

-- an item is what stands at its slot
slot_holds : (t : Text) (pc k b i : ℕ) (s : IsSlot t pc k b i) → slot_item t.prog pc ≡ Some s.item
slot_holds t pc k b i s =
    let x = located t.prog k b i s.item s.item_is in
    let blocks : blocks_in t.prog k ≡ x.function.blocks = ap blocks_of x.is in
    let here : slice_get (places_of t.prog) (slot t.prog k b i) ≡ Some (place k b i) =
    ap (λ (xs : List Block). slice_get (places_of t.prog) (slot_of t.prog.functions k xs b i)) blocks ∙
    slots_stand t.prog k b i x.function x.block x.is x.at (within_block x.block.steps x.block.ending i s.item x.item_is) in
    ap (slot_item t.prog) s.pc_is ∙ ap (placed_item t.prog) here ∙ s.item_is

module _ (prog : Program) (places : Places) (x : Strand) where
  -- ---- the frame on top

  pub next_there : ∥ IsUnderWay prog places x ∥₁ → slot_item prog x.span.place.pc ≡ None → ⊥
  next_there way e = ∥∥₁_elim way (hlevel props) (λ w.
      let h = (stands prog places x w).shown in
      let on = h.stands in
      let f = sym e ∙ slot_holds (text_of prog places h.allocas) x.span.place.pc on.function on.block on.index on.at in
      absurd cc)

  -- ---- right behind a sync

  module _ (way : ∥ IsUnderWay prog places x ∥₁) (some : x.done ≡ 0 → ⊥) (behind : x.done ≡ x.span.synced) where
    sync_found : ∥ ((region : ℕ) × IsSyncOf (slot_item prog x.span.synced_at) region) ∥₁
    sync_found = ∥∥₁_map way (λ w.
        let s = (stands prog places x w).shown.waits.behind (some_done x.done some) behind in
        (s.0, s.1))

    pub sync_there : slot_item prog x.span.synced_at ≡ None → ⊥
    sync_there e = ∥∥₁_elim sync_found (hlevel props) (λ s. none_synced (slot_item prog x.span.synced_at) s.0 s.1 e)

    pub sync_region : (item : Item) → slot_item prog x.span.synced_at ≡ Some item → (region : ℕ) × IsSyncOf (Some item) region
    sync_region item is = region_from item (subst (λ (o : Option Item). ∥ ((region : ℕ) × IsSyncOf o region) ∥₁) is sync_found)

  -- ---- frames below

  made_there : (l : Layout) (s : Segment) (d : strands.Strand) → ShowsSpan l prog places s d x → (k : ℕ) (saved : Saved) → slice_get x.span.windows.below.items k ≡ Some saved → IsMade prog saved
  made_there l s d h k saved e =
      let items = x.span.windows.below.items in
      let long = below_long (base_on l s.start) (text_of prog places h.allocas) x.span.windows.row.items d.below (reverse items) x.span.windows.base h.windows.below in
      each_reversed (IsMade prog) items (makers_there prog x.base.frame.made x.done d.top d.below (reverse items) long h.makers) k saved e

  pub ready_there : ∥ IsUnderWay prog places x ∥₁ → (lent : List Saved) (k : ℕ) (saved : Saved) → lent ≡ x.span.windows.below.items → k < length lent → IsMade prog (get_or lent k saved)
  ready_there way lent k saved same lt e = ∥∥₁_elim way (hlevel props) (λ w.
      let s = stands prog places x w in
      let got : slice_get x.span.windows.below.items k ≡ Some (get_or lent k saved) = ap (λ (xs : List Saved). slice_get xs k) (sym same) ∙ slice_get-get_or lent k saved lt in
      made_there s.layout s.segment s.strand s.shown k (get_or lent k saved) got e)
