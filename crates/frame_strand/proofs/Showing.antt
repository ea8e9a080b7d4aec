-- Buffers that grow show the footprints of the definitions that grow.
use Rattle.std.proofs.Common.{◌≡◌, List, [], ◌∷◌, ◌++◌, map, refl, ap, sym, ◌∙◌, subst, cond, ℤ, Bool, true, false, Option, Some, None, Result, Ok, Err, inl, inr}
use Rattle.std.specs.Prelude.{find, OnOk}
use Rattle.std.specs.List.{All}
use Rattle.std.specs.Map.{lookup}
use Rattle.std.specs.Option.{option_map}
use Rattle.std.specs.Ordering.{int_eq}
use Rattle.std.proofs.lemmas.Bool.Decides.{Decides-int_eq}
use Rattle.std.proofs.lemmas.List.{map-append}
use Rattle.std.proofs.lemmas.List.Elements.{All-cons, All-head, All-tail, All-push}
use Rattle.semantics.specs.Cells.{Cell, same_cell}
use Rattle.semantics.specs.Arithmetic.{cell_sum}
use Rattle.semantics.proofs.Actions.{same_cell_itself}
use Rattle.laws_strands.specs.Footprint as frame_strands
use Rattle.laws_strands.specs.Footprint.{Footprint, Write, held, known, raised, read_at, settled, with_read, with_write, write_at}
use Rattle.semantics.proofs.SameCells.{same_cell_tells}
use Rattle.frame_engine.specs.Shows.{Layout, IsIn, address}
use Rattle.frame_strand.specs.Buffers.{Buffers, IsPut, change_in, held_in, known_value, raised_change, settled_changes, value_in, with_change}
use Rattle.frame_strand.specs.Showing.{AreApart, Becomes, ShowsFootprint, change_of, read_of, with_add, with_store, written_of}
use Rattle.frame_strand.specs.declared.cells.Read.{Read}
use Rattle.frame_strand.specs.declared.cells.Written.{Written}
use Rattle.frame_strand.specs.declared.cells.Change.TheVariants.{Stored}
use Rattle.frame_strand.specs.declared.cells.CellStop.{CellStop}
use Rattle.frame_strand.proofs.CellsKept.{int_tells}

module _ (l : Layout) (apart : AreApart l) (c : Cell) (here : IsIn l c) where
  key_same : (d : Cell) → IsIn l d → int_eq (address l c) (address l d) ≡ same_cell c d
  key_same d there = elim (same_cell_tells c d) [
    | inl h ↦ (Decides-int_eq (address l c) (address l d)).1 (ap (address l) h.1) ∙ sym h.0
    | inr h ↦ elim (int_tells (address l c) (address l d)) [
      | inl q ↦ absurd (let same : same_cell c d ≡ true = sym (ap (same_cell c) (apart c d here there q.1)) ∙ same_cell_itself c in cc)
      | inr q ↦ q.0 ∙ sym h
    ]
  ]

  abbrev ReadIn : Cell × ℤ → Type 0
  ReadIn r = IsIn l r.0

  abbrev WriteIn : Cell × Write → Type 0
  WriteIn w = IsIn l w.0

  value_shown : (rs : List (Cell × ℤ)) → All (λ (r : Cell × ℤ). IsIn l r.0) rs → value_in (map (read_of l) rs) (address l c) ≡ lookup (same_cell c) rs
  value_shown [] all = refl
  value_shown (r ∷ rs) all =
      ap (λ t. option_map (λ (x : Read). x.value) (cond t (Some (read_of l r)) (find (λ (x : Read). int_eq (address l c) x.at) (map (read_of l) rs)))) (key_same r.0 (All-head ReadIn r rs all)) ∙
      from (same_cell c r.0) (value_shown rs (All-tail ReadIn r rs all))
    where
      from : (b : Bool) → value_in (map (read_of l) rs) (address l c) ≡ lookup (same_cell c) rs → option_map (λ (x : Read). x.value) (cond b (Some (read_of l r)) (find (λ (x : Read). int_eq (address l c) x.at) (map (read_of l) rs))) ≡ cond b (Some r.1) (lookup (same_cell c) rs)
      from true rest = refl
      from false rest = rest

  change_shown : (ws : List (Cell × Write)) → All (λ (w : Cell × Write). IsIn l w.0) ws → change_in (map (written_of l) ws) (address l c) ≡ option_map change_of (lookup (same_cell c) ws)
  change_shown [] all = refl
  change_shown (w ∷ ws) all =
      ap (λ t. option_map (λ (x : Written). x.change) (cond t (Some (written_of l w)) (find (λ (x : Written). int_eq (address l c) x.at) (map (written_of l) ws)))) (key_same w.0 (All-head WriteIn w ws all)) ∙
      from (same_cell c w.0) (change_shown ws (All-tail WriteIn w ws all))
    where
      from : (b : Bool) → change_in (map (written_of l) ws) (address l c) ≡ option_map change_of (lookup (same_cell c) ws) → option_map (λ (x : Written). x.change) (cond b (Some (written_of l w)) (find (λ (x : Written). int_eq (address l c) x.at) (map (written_of l) ws))) ≡ option_map change_of (cond b (Some w.1) (lookup (same_cell c) ws))
      from true rest = refl
      from false rest = rest

  with_shown : (u : Write) (ws : List (Cell × Write)) → All (λ (w : Cell × Write). IsIn l w.0) ws → with_change (map (written_of l) ws) (address l c) (change_of u) ≡ map (written_of l) (with_write ws c u)
  with_shown u [] all = refl
  with_shown u (w ∷ ws) all =
      ap (λ t. cond t (record (written_of l w) { change = change_of u } ∷ map (written_of l) ws) (written_of l w ∷ with_change (map (written_of l) ws) (address l c) (change_of u))) (key_same w.0 (All-head WriteIn w ws all)) ∙
      from (same_cell c w.0) (with_shown u ws (All-tail WriteIn w ws all))
    where
      from : (b : Bool) → with_change (map (written_of l) ws) (address l c) (change_of u) ≡ map (written_of l) (with_write ws c u) →
          cond b (record (written_of l w) { change = change_of u } ∷ map (written_of l) ws) (written_of l w ∷ with_change (map (written_of l) ws) (address l c) (change_of u)) ≡ map (written_of l) (cond b ((w.0, u) ∷ ws) (w ∷ with_write ws c u))
      from true rest = refl
      from false rest = ap (λ x. written_of l w ∷ x) rest

  with_in : (u : Write) (ws : List (Cell × Write)) → All (λ (w : Cell × Write). IsIn l w.0) ws → All (λ (w : Cell × Write). IsIn l w.0) (with_write ws c u)
  with_in u [] all = All-cons WriteIn (c, u) [] here all
  with_in u (w ∷ ws) all = from (same_cell c w.0) (All-head WriteIn w ws all) (All-tail WriteIn w ws all) (with_in u ws (All-tail WriteIn w ws all))
    where
      from : (b : Bool) → WriteIn w → All WriteIn ws → All WriteIn (with_write ws c u) → All WriteIn (cond b ((w.0, u) ∷ ws) (w ∷ with_write ws c u))
      from true h rest more = All-cons WriteIn (w.0, u) ws h rest
      from false h rest more = All-cons WriteIn w (with_write ws c u) h more

  -- ---- of a footprint that is shown

  module _ (f : Footprint) (b : Buffers) (s : ShowsFootprint l f b) where
    pub value_is : value_in b.reads (address l c) ≡ read_at f c
    value_is = ap (λ x. value_in x (address l c)) s.reads ∙ value_shown f.reads s.reads_in

    pub change_is : change_in b.writes (address l c) ≡ option_map change_of (write_at f c)
    change_is = ap (λ x. change_in x (address l c)) s.writes ∙ change_shown f.writes s.writes_in

    known_is : (u : Option Write) (r : Option ℤ) → known_value (option_map change_of u) r ≡ known u r
    known_is None r = refl
    known_is (Some (frame_strands.Stored z)) r = refl
    known_is (Some (frame_strands.Delta z)) r = refl

    pub held_is : held_in b (address l c) ≡ held f c
    held_is = (λ i. known_value (change_is i) (value_is i)) ∙ known_is (write_at f c) (read_at f c)

    raised_is : (z : ℤ) (u : Option Write) (r : Option ℤ) → raised_change z (option_map change_of u) r ≡ change_of (raised z u r)
    raised_is z None None = refl
    raised_is z None (Some y) = refl
    raised_is z (Some (frame_strands.Stored y)) r = refl
    raised_is z (Some (frame_strands.Delta y)) r = refl

    shown_put : (after : Buffers) (u : Write) → IsPut b (address l c) (change_of u) after → ShowsFootprint l (record f { writes = with_write f.writes c u }) after
    shown_put after u p = record {
      reads = ap (λ (x : Buffers). x.reads) p.is ∙ s.reads;
      writes = ap (λ (x : Buffers). x.writes) p.is ∙ ap (λ x. with_change x (address l c) (change_of u)) s.writes ∙ with_shown u f.writes s.writes_in;
      reads_in = s.reads_in;
      writes_in = with_in u f.writes s.writes_in;
    }

    pub shown_store : (after : Buffers) (z : ℤ) → IsPut b (address l c) (Stored z) after → ShowsFootprint l (with_store z f c) after
    shown_store after z p = shown_put after (frame_strands.Stored z) p

    pub shown_add : (after : Buffers) (z : ℤ) → IsPut b (address l c) (raised_change z (change_in b.writes (address l c)) (value_in b.reads (address l c))) after → ShowsFootprint l (with_add z f c) after
    shown_add after z p = shown_put after (raised z (write_at f c) (read_at f c)) (subst (λ u. IsPut b (address l c) u after) ((λ i. raised_change z (change_is i) (value_is i)) ∙ raised_is z (write_at f c) (read_at f c)) p)

    settled_is : (v : ℤ) (o : Option Write) → settled_changes b.writes (address l c) v (option_map change_of o) ≡ map (written_of l) (settled f.writes c v o)
    settled_is v None = s.writes
    settled_is v (Some (frame_strands.Stored z)) = s.writes
    settled_is v (Some (frame_strands.Delta z)) = ap (λ x. with_change x (address l c) (Stored (cell_sum v z))) s.writes ∙ with_shown (frame_strands.Stored (cell_sum v z)) f.writes s.writes_in

    settled_in : (v : ℤ) (o : Option Write) → All (λ (w : Cell × Write). IsIn l w.0) (settled f.writes c v o)
    settled_in v None = s.writes_in
    settled_in v (Some (frame_strands.Stored z)) = s.writes_in
    settled_in v (Some (frame_strands.Delta z)) = with_in (frame_strands.Stored (cell_sum v z)) f.writes s.writes_in

    pub shown_fill : (after : Buffers) (v : ℤ) → after.reads ≡ b.reads ++ record { at = address l c; value = v } ∷ [] → after.writes ≡ settled_changes b.writes (address l c) v (change_in b.writes (address l c)) → ShowsFootprint l (with_read f c v) after
    shown_fill after v rs ws = record {
      reads = rs ∙ ap (λ x. x ++ record { at = address l c; value = v } ∷ []) s.reads ∙ sym (map-append (read_of l) f.reads ((c, v) ∷ []));
      writes = ws ∙ ap (settled_changes b.writes (address l c) v) change_is ∙ settled_is v (write_at f c);
      reads_in = All-push ReadIn f.reads (c, v) s.reads_in here;
      writes_in = settled_in v (write_at f c);
    }

-- ---- by what became of an access

pub became_stored : (r : Result (Unit {0}) CellStop) (b after : Buffers) (a z : ℤ) → OnOk r (IsPut b a (Stored z) after) → OnOk r (Becomes (with_store z) b a after)
became_stored (Err stop) b after a z p = tt
became_stored (Ok u) b after a z p = λ l f c apart here is s. shown_store l apart c here f b s after z (subst (λ (x : ℤ). IsPut b x (Stored z) after) is p)

pub became_added : (r : Result (Unit {0}) CellStop) (b after : Buffers) (a z : ℤ) → OnOk r (IsPut b a (raised_change z (change_in b.writes a) (value_in b.reads a)) after) → OnOk r (Becomes (with_add z) b a after)
became_added (Err stop) b after a z p = tt
became_added (Ok u) b after a z p = λ l f c apart here is s. shown_add l apart c here f b s after z (subst (λ (x : ℤ). IsPut b x (raised_change z (change_in b.writes x) (value_in b.reads x)) after) is p)

pub became_read : (b after : Buffers) (a v : ℤ) → after.reads ≡ b.reads ++ record { at = a; value = v } ∷ [] → after.writes ≡ settled_changes b.writes a v (change_in b.writes a) → Becomes (λ f c. with_read f c v) b a after
became_read b after a v rs ws = λ l f c apart here is s.
    shown_fill l apart c here f b s after v (subst (λ (x : ℤ). after.reads ≡ b.reads ++ record { at = x; value = v } ∷ []) is rs) (subst (λ (x : ℤ). after.writes ≡ settled_changes b.writes x v (change_in b.writes x)) is ws)
