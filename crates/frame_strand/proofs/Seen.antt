-- A memory for a strand that goes on alone: what it read, 0 elsewhere in living objects, and what it wrote.
use Rattle.std.proofs.Common.{◌≡◌, ◌≢◌, ℕ, zero, suc, ◌<◌, List, [], ◌∷◌, map, refl, ap, sym, ◌∙◌, subst, arith, cond, ℤ, Bool, true, false, is_some, Option, Some, None, inl, inr}
use Rattle.std.specs.Prelude.{IsSome, nat_le, slice_get}
use Rattle.std.specs.List.{All}
use Rattle.std.specs.Map.{lookup}
use Rattle.std.specs.Option.{option_map}
use Rattle.std.proofs.lemmas.Bool.Decides.{leb_tells}
use Rattle.std.proofs.lemmas.List.Elements.{All-cons, All-head, All-nil, All-tail}
use Rattle.std.proofs.lemmas.Option.{same_Some, slice_get-map}
use Rattle.semantics.specs.Cells.{Cell, Memory, same_cell}
use Rattle.semantics.specs.Written.{or_zero}
use Rattle.semantics.specs.State.{sum_in}
use Rattle.semantics.proofs.SameCells.{same_cell_is}
use Rattle.laws_strands.specs.Footprint.{Delta, Footprint, Stored, Write, held, put, read_at, write_at}
use Rattle.laws_strands.proofs.Growing as growing
use Rattle.laws_strands.proofs.Growing.{held_put}
use Rattle.frame_engine.specs.Shows.{Layout, IsIn, ShowsCells, address}
use Rattle.frame_strand.specs.Advancing.{with_writes}
use Rattle.frame_strand.specs.Alone.{IsFull}
use Rattle.frame_strand.specs.Buffers.{Buffers, any_address, may_hold, value_in}
use Rattle.frame_strand.specs.Keeping.{AreDifferent}
use Rattle.frame_strand.specs.Showing.{AreApart, ShowsFootprint, read_of}
use Rattle.frame_strand.specs.declared.cells.Read.{Read}
use Rattle.frame_strand.proofs.CellsKept.{value_at}
use Rattle.frame_strand.proofs.Showing.{held_is, value_is}

all_from : {X : Type 0} (P : X → Type 0) (xs : List X) → ((i : ℕ) (x : X) → slice_get xs i ≡ Some x → P x) → All P xs
all_from P [] h = All-nil P
all_from P (x ∷ xs) h = All-cons P x xs (h 0 x refl) (all_from P xs (λ i y e. h (suc i) y e))

at_all : {X : Type 0} (P : X → Type 0) (xs : List X) (i : ℕ) (x : X) → slice_get xs i ≡ Some x → All P xs → P x
at_all P [] i x e all = absurd cc
at_all P (y ∷ xs) zero x e all = subst P (same_Some y x e) (All-head P y xs all)
at_all P (y ∷ xs) (suc i) x e all = at_all P xs i x e (All-tail P y xs all)

-- a cell that is written is one of those that were
pub written_in : (l : Layout) (x : Cell) (u : Write) (ws : List (Cell × Write)) → All (λ (w : Cell × Write). IsIn l w.0) ws → lookup (same_cell x) ws ≡ Some u → IsIn l x
written_in l x u [] all e = absurd cc
written_in l x u (w ∷ ws) all e = from (same_cell x w.0) refl e (written_in l x u ws (All-tail (λ (y : Cell × Write). IsIn l y.0) w ws all))
  where
    from : (b : Bool) → same_cell x w.0 ≡ b → cond b (Some w.1) (lookup (same_cell x) ws) ≡ Some u → (lookup (same_cell x) ws ≡ Some u → IsIn l x) → IsIn l x
    from true is h rest = subst (IsIn l) (sym (same_cell_is x w.0 is)) (All-head (λ (y : Cell × Write). IsIn l y.0) w ws all)
    from false is h rest = rest h

module _ (l : Layout) (f : Footprint) where
  abbrev pub seen_by : Memory
  seen_by c = cond (nat_le (suc c.index) (l.cells c.object)) (Some (or_zero (read_at f c))) None

  within_seen : (c : Cell) → IsIn l c → seen_by c ≡ Some (or_zero (read_at f c))
  within_seen c here = elim (leb_tells (suc c.index) (l.cells c.object)) [
    | inl q ↦ ap (λ (t : Bool). cond t (Some (or_zero (read_at f c))) None) q.0
    | inr q ↦ absurd (let r = q.1 in omega (arith, r, here))
  ]

  outside_unseen : (c : Cell) → (IsIn l c → ⊥) → seen_by c ≡ None
  outside_unseen c away = elim (leb_tells (suc c.index) (l.cells c.object)) [
    | inl q ↦ absurd (away (let r = q.1 in omega (arith, r)))
    | inr q ↦ ap (λ (t : Bool). cond t (Some (or_zero (read_at f c))) None) q.0
  ]

  module _ (b : Buffers) (s : ShowsFootprint l f b) (apart : AreApart l) (differ : AreDifferent (map (λ (r : Read). r.at) b.reads)) where
    pub seen_reads : All (λ r. seen_by r.0 ≡ Some r.1) f.reads
    seen_reads = all_from (λ (r : Cell × ℤ). seen_by r.0 ≡ Some r.1) f.reads (λ i r e.
        let here : IsIn l r.0 = at_all (λ (x : Cell × ℤ). IsIn l x.0) f.reads i r e s.reads_in in
        let there : slice_get b.reads i ≡ Some (read_of l r) = ap (λ xs. slice_get xs i) s.reads ∙ slice_get-map (read_of l) f.reads i ∙ ap (option_map (read_of l)) e in
        let value : read_at f r.0 ≡ Some r.1 = sym (value_is l apart r.0 here f b s) ∙ value_at b.reads i (read_of l r) (address l r.0) there refl differ in
        within_seen r.0 here ∙ ap (λ o. Some (or_zero o)) value)

    abbrev seen : Memory
    seen = with_writes seen_by f

    pub seen_full : IsFull l seen
    seen_full c here = growing.put_some (write_at f c) (seen_by c) (ap (λ o. is_some o) (within_seen c here))

    inside_put : (c : Cell) (u : Option Write) (v : Option ℤ) (z : ℤ) → write_at f c ≡ u → seen_by c ≡ v → put u v ≡ Some z → IsIn l c
    inside_put c (Some w) v z is at e = written_in l c w f.writes s.writes_in is
    inside_put c None v z is at e = elim (leb_tells (suc c.index) (l.cells c.object)) [
      | inl q ↦ let r = q.1 in omega (arith, r)
      | inr q ↦ absurd (let none = ap (λ (t : Bool). cond t (Some (or_zero (read_at f c))) None) q.0 in let bad : None ≡ Some z = sym none ∙ at ∙ e in cc)
    ]

    seen_inside : (c : Cell) (z : ℤ) → seen c ≡ Some z → IsIn l c
    seen_inside c z e = inside_put c (write_at f c) (seen_by c) z refl refl e

    pub seen_shows : ShowsCells l (any_address b) (may_hold b) seen
    seen_shows = record {
      values = λ c z e v h. same_Some v z (sym (held_put seen_by f seen_reads c v (sym (held_is l apart c (seen_inside c z e) f b s) ∙ h)) ∙ e);
      inside = seen_inside;
      reached = λ c here. refl;
      apart = apart;
    }
