-- How a log shows a footprint as cells are loaded, stored and added to, and as pages are filled.
use Rattle.std.proofs.Common.{◌≡◌, ◌≢◌, ◌⊎◌, refl, ap, sym, ◌∙◌, subst, cond, ℕ, ℤ, List, Bool, true, false, is_some, Option, Some, None, inl, inr}
use Rattle.std.specs.Prelude.{IsSome, slice_get}
use Rattle.std.specs.Option.{option_map}
use Rattle.std.specs.Ordering.{int_eq}
use Rattle.std.proofs.lemmas.Option.{same_Some}
use Rattle.semantics.specs.Cells.{Cell, same_cell}
use Rattle.semantics.specs.Effect.{stores}
use Rattle.semantics.specs.Frames.{Frame}
use Rattle.semantics.proofs.Actions.{same_cell_itself}
use Rattle.semantics.proofs.SameCells.{same_cell_tells}
use Rattle.laws_strands.specs.stacks.Footprint.{Footprint, Write, added_to, held, known, raised, settled, stored, untouched, with_read, with_writes}
use Rattle.frame_engine.specs.Shows.{Layout, IsIn, address}
use Rattle.strand.specs.frame_strand.Buffers.{raised_change}
use Rattle.strand.specs.frame_strand.Showing.{AreApart}
use Rattle.strand.specs.frame_strand.declared.cells.Change.{Change}
use Rattle.strand.specs.frame_strand.declared.cells.Change.TheVariants.{Stored, Delta}
use Rattle.strand_pages.specs.Doing.{IsChanged, IsKept}
use Rattle.strand_pages.specs.Known.{at_address, first_of, read_after, settled_change, value_of}
use Rattle.strand_pages.specs.Logs.{IsWider, Log, empty_log, filled_log, loaded_log, place_of, same_page, value_at, with_change}
use Rattle.strand_pages.proofs.Addresses.{address_tells}
use Rattle.strand_pages.proofs.Opening.{changed_kept}
use Rattle.strand.specs.CellsKept.{ShowsLog, write_of}

at_here : {X : Type 0} (a : ℤ) (n : X) (g : ℤ → X) → at_address a n g a ≡ n
at_here a n g = elim (address_tells a a) [
  | inl q ↦ ap (λ (t : Bool). cond t n (g a)) q.0
  | inr q ↦ absurd (q.1 refl)
]

at_off : {X : Type 0} (a : ℤ) (n : X) (g : ℤ → X) (x : ℤ) → x ≢ a → at_address a n g x ≡ g x
at_off a n g x off = elim (address_tells x a) [
  | inl q ↦ absurd (off q.1)
  | inr q ↦ ap (λ (t : Bool). cond t n (g x)) q.0
]

-- ---- nothing, and more at hand

pub empty_log_shown : (l : Layout) (n : ℕ) → ShowsLog l untouched (empty_log n)
empty_log_shown l n = record {
  reads = λ c here. refl;
  writes = λ c here. refl;
  read_there = λ a v e. absurd cc;
  written_there = λ a u e. absurd cc;
  near = λ a v e. absurd cc;
  deltas = λ a z e. absurd cc;
}

pub filled_log_shown : (l : Layout) (f : Footprint) (b : Log) (a : ℤ) (values : List ℤ) → ShowsLog l f b → ShowsLog l f (filled_log b a values)
filled_log_shown l f b a values s = record {
  reads = s.reads;
  writes = s.writes;
  read_there = s.read_there;
  written_there = s.written_there;
  near = λ x v e. at x v (same_page a x) (s.near x v e);
  deltas = s.deltas;
}
  where
    at : (x v : ℤ) (t : Bool) → b.near x ≡ Some v → cond t (first_of (b.near x) (slice_get values (place_of x))) (b.near x) ≡ Some v
    at x v true e = ap (λ o. first_of o (slice_get values (place_of x))) e
    at x v false e = e

-- a footprint that has the same of the machine's cells
pub off_logged : (l : Layout) (f g : Footprint) (b : Log) → ((c : Cell) → IsIn l c → (g.reads c ≡ f.reads c) × (g.writes c ≡ f.writes c)) → ShowsLog l f b → ShowsLog l g b
off_logged l f g b same s = record {
  reads = λ c here. (same c here).0 ∙ s.reads c here;
  writes = λ c here. (same c here).1 ∙ s.writes c here;
  read_there = s.read_there;
  written_there = s.written_there;
  near = s.near;
  deltas = s.deltas;
}

-- more pages are in use
pub wider_log : (l : Layout) (f : Footprint) (b c : Log) → IsWider b c → ShowsLog l f b → ShowsLog l f c
wider_log l f b c wide h = record {
  reads = λ x inside. h.reads x inside ∙ ap (λ r. r (address l x)) (sym wide.reads);
  writes = λ x inside. h.writes x inside ∙ ap (λ r. option_map write_of (r (address l x))) (sym wide.writes);
  read_there = λ a v e. h.read_there a v (ap (λ r. r a) (sym wide.reads) ∙ e);
  written_there = λ a u e. h.written_there a u (ap (λ r. r a) (sym wide.writes) ∙ e);
  near = λ a v e. ap (λ r. r a) wide.near ∙ h.near a v (ap (λ r. r a) (sym wide.reads) ∙ e);
  deltas = λ a z e. ap (λ r. r a) wide.reads ∙ h.deltas a z (ap (λ r. r a) (sym wide.writes) ∙ e);
}

-- ---- a cell is written

raised_unread : (z : ℤ) (u : Option Change) (r : Option ℤ) → ((y : ℤ) → u ≡ Some (Delta y) → r ≡ None) → (w : ℤ) → raised_change z u r ≡ Delta w → r ≡ None
raised_unread z (Some (Stored y)) r old w e = absurd cc
raised_unread z (Some (Delta y)) r old w e = old y refl
raised_unread z None (Some y) old w e = absurd cc
raised_unread z None None old w e = refl

raised_is : (z : ℤ) (u : Option Change) (r : Option ℤ) → raised z (option_map write_of u) r ≡ write_of (raised_change z u r)
raised_is z None None = refl
raised_is z None (Some y) = refl
raised_is z (Some (Stored y)) r = refl
raised_is z (Some (Delta y)) r = refl

module _ (l : Layout) (apart : AreApart l) (f : Footprint) (b after : Log) (s : ShowsLog l f b) (c : Cell) (here : IsIn l c) where
  -- what is kept of this cell becomes a change, and of no other
  put_logged : (g : Footprint) (u : Change) → IsKept b (address l c) u after → ((w : ℤ) → u ≡ Delta w → b.reads (address l c) ≡ None) →
      g.reads ≡ f.reads → g.writes c ≡ Some (write_of u) → ((d : Cell) → same_cell c d ≡ false → g.writes d ≡ f.writes d) → ShowsLog l g after
  put_logged g u kept unread same mine others = wider_log l g (with_change b (address l c) u) after kept (record {
    reads = λ d in_l. ap (λ (r : Cell → Option ℤ). r d) same ∙ s.reads d in_l;
    writes = λ d in_l. elim (same_cell_tells c d) [
      | inl q ↦
          subst (λ (x : Cell). g.writes x ≡ option_map write_of (at_address (address l c) (Some u) b.writes (address l x))) q.1
          (mine ∙ sym (ap (option_map write_of) (itself (address_tells (address l c) (address l c)))))
      | inr q ↦ others d q ∙ s.writes d in_l ∙ sym (ap (option_map write_of) (elsewhere d in_l q (address_tells (address l d) (address l c))))
    ];
    read_there = s.read_there;
    written_there = λ a w e. elim (address_tells a (address l c)) [
      | inl q ↦ (c, here, q.1)
      | inr q ↦ s.written_there a w (sym (ap (λ (t : Bool). cond t (Some u) (b.writes a)) q.0) ∙ e)
    ];
    near = s.near;
    deltas = λ a z e. elim (address_tells a (address l c)) [
      | inl q ↦ ap b.reads q.1 ∙ unread z (same_Some u (Delta z) (sym (ap (λ (t : Bool). cond t (Some u) (b.writes a)) q.0) ∙ e))
      | inr q ↦ s.deltas a z (sym (ap (λ (t : Bool). cond t (Some u) (b.writes a)) q.0) ∙ e)
    ];
  })
    where
      itself : ((int_eq (address l c) (address l c) ≡ true) × (address l c ≡ address l c)) ⊎ ((int_eq (address l c) (address l c) ≡ false) × (address l c ≢ address l c)) → cond (int_eq (address l c) (address l c)) (Some u) (b.writes (address l c)) ≡ Some u
      itself (inl q) = ap (λ (t : Bool). cond t (Some u) (b.writes (address l c))) q.0
      itself (inr q) = absurd (q.1 refl)

      elsewhere : (d : Cell) → IsIn l d → same_cell c d ≡ false → ((int_eq (address l d) (address l c) ≡ true) × (address l d ≡ address l c)) ⊎ ((int_eq (address l d) (address l c) ≡ false) × (address l d ≢ address l c)) → cond (int_eq (address l d) (address l c)) (Some u) (b.writes (address l d)) ≡ b.writes (address l d)
      elsewhere d in_l off (inl q) = absurd (let same : same_cell c d ≡ true = ap (same_cell c) (apart d c in_l here q.1) ∙ same_cell_itself c in cc)
      elsewhere d in_l off (inr q) = ap (λ (t : Bool). cond t (Some u) (b.writes (address l d))) q.0

  pub stores_logged : (h : Frame) (z : ℤ) → IsChanged b (address l c) (Stored z) after → ShowsLog l (with_writes f (stores h c z).writes (stores h c z).adds) after
  stores_logged h z done =
      put_logged (with_writes f (stores h c z).writes (stores h c z).adds) (Stored z) (changed_kept b (address l c) (Stored z) after done.is) (λ w e. absurd cc) refl
      (ap (λ (t : Bool). stored (cond {A = Option (Option ℤ)} t (Some (Some z)) None) (f.writes c)) (same_cell_itself c))
      (λ d off. ap (λ (t : Bool). stored (cond {A = Option (Option ℤ)} t (Some (Some z)) None) (f.writes d)) off)

  pub adds_logged : (writes : Cell → Option (Option ℤ)) (adds : Cell → Option ℤ) (z : ℤ) → ((x : Cell) → writes x ≡ None) → ((x : Cell) → adds x ≡ cond (same_cell c x) (Some z) None) →
      IsKept b (address l c) (raised_change z (b.writes (address l c)) (b.reads (address l c))) after → ShowsLog l (with_writes f writes adds) after
  adds_logged writes adds z none is done =
      put_logged (with_writes f writes adds) (raised_change z (b.writes (address l c)) (b.reads (address l c))) done
      (raised_unread z (b.writes (address l c)) (b.reads (address l c)) (s.deltas (address l c))) refl
      ((λ i. added_to (is c i) (stored (none c i) (f.writes c)) (f.reads c)) ∙ ap (λ (t : Bool). added_to (cond {A = Option ℤ} t (Some z) None) (f.writes c) (f.reads c)) (same_cell_itself c) ∙
      ap Some ((λ i. raised z (s.writes c here i) (s.reads c here i)) ∙ raised_is z (b.writes (address l c)) (b.reads (address l c))))
      (λ d off. (λ i. added_to (is d i) (stored (none d i) (f.writes d)) (f.reads d)) ∙ ap (λ (t : Bool). added_to (cond {A = Option ℤ} t (Some z) None) (f.writes d) (f.reads d)) off)

-- what an effect without writes and adds keeps
pub same_logged : (l : Layout) (f : Footprint) (b : Log) (writes : Cell → Option (Option ℤ)) (adds : Cell → Option ℤ) → ShowsLog l f b → ((x : Cell) → writes x ≡ None) → ((x : Cell) → adds x ≡ None) → ShowsLog l (with_writes f writes adds) b
same_logged l f b writes adds s none no_add = record {
  reads = s.reads;
  writes = λ c here. kept c ∙ s.writes c here;
  read_there = s.read_there;
  written_there = s.written_there;
  near = s.near;
  deltas = s.deltas;
}
  where
    kept : (c : Cell) → added_to (adds c) (stored (writes c) (f.writes c)) (f.reads c) ≡ f.writes c
    kept c = λ i. added_to (no_add c i) (stored (none c i) (f.writes c)) (f.reads c)

-- ---- a cell is loaded

read_known : (u : Option Change) (near r : Option ℤ) → ((v : ℤ) → r ≡ Some v → near ≡ Some v) → (y : ℤ) → known (option_map write_of u) r ≡ Some y → read_after u near r ≡ r
read_known None near r sound y e = ap (λ o. first_of o r) (sound y e) ∙ sym e
read_known (Some (Stored z)) near r sound y e = refl
read_known (Some (Delta z)) near r sound y e = absurd cc

settled_known : (u : Option Change) (near r : Option ℤ) (y : ℤ) → known (option_map write_of u) r ≡ Some y → settled_change u near ≡ u
settled_known None near r y e = refl
settled_known (Some (Stored z)) near r y e = refl
settled_known (Some (Delta z)) near r y e = absurd cc

-- a cell that is not held, and yet at hand, is to be read
near_there : (u : Option Change) (near r : Option ℤ) → known (option_map write_of u) r ≡ None → IsSome (value_of u near) → (v : ℤ) × (near ≡ Some v)
near_there None None r e h = absurd cc
near_there None (Some v) r e h = (v, refl)
near_there (Some (Stored z)) near r e h = absurd cc
near_there (Some (Delta z)) None r e h = absurd cc
near_there (Some (Delta z)) (Some v) r e h = (v, refl)

unread_yet : (u : Option Change) (r : Option ℤ) → ((y : ℤ) → u ≡ Some (Delta y) → r ≡ None) → known (option_map write_of u) r ≡ None → r ≡ None
unread_yet None r old e = e
unread_yet (Some (Stored z)) r old e = absurd cc
unread_yet (Some (Delta z)) r old e = old z refl

read_new : (u : Option Change) (r : Option ℤ) (v : ℤ) → known (option_map write_of u) r ≡ None → read_after u (Some v) r ≡ Some v
read_new None r v e = refl
read_new (Some (Stored z)) r v e = absurd cc
read_new (Some (Delta z)) r v e = refl

settled_new : (u : Option Change) (v : ℤ) → settled v (option_map write_of u) ≡ option_map write_of (settled_change u (Some v))
settled_new None v = refl
settled_new (Some (Stored z)) v = refl
settled_new (Some (Delta z)) v = refl

settled_no_delta : (u : Option Change) (v z : ℤ) → settled_change u (Some v) ≡ Some (Delta z) → ⊥
settled_no_delta None v z e = cc
settled_no_delta (Some (Stored y)) v z e = cc
settled_no_delta (Some (Delta y)) v z e = cc

held_then : (u : Option Change) (v : ℤ) → is_some (known (settled v (option_map write_of u)) (Some v)) ≡ true
held_then None v = refl
held_then (Some (Stored z)) v = refl
held_then (Some (Delta z)) v = refl

module _ (l : Layout) (apart : AreApart l) (f : Footprint) (b : Log) (s : ShowsLog l f b) (c : Cell) (here : IsIn l c) where
  abbrev a : ℤ
  a = address l c

  known_is : held f c ≡ known (option_map write_of (b.writes a)) (b.reads a)
  known_is = λ i. known (s.writes c here i) (s.reads c here i)

  -- a load of a cell that is held changes nothing
  pub load_held : (y : ℤ) → held f c ≡ Some y → loaded_log b a ≡ b
  load_held y e = λ i. record b { reads = λ x. reads_at x i; writes = λ x. writes_at x i }
    where
      have : known (option_map write_of (b.writes a)) (b.reads a) ≡ Some y
      have = sym known_is ∙ e

      reads_at : (x : ℤ) → at_address a (read_after (b.writes a) (b.near a) (b.reads a)) b.reads x ≡ b.reads x
      reads_at x = elim (address_tells x a) [
        | inl q ↦ ap (λ (t : Bool). cond t (read_after (b.writes a) (b.near a) (b.reads a)) (b.reads x)) q.0 ∙ read_known (b.writes a) (b.near a) (b.reads a) (s.near a) y have ∙ ap b.reads (sym q.1)
        | inr q ↦ ap (λ (t : Bool). cond t (read_after (b.writes a) (b.near a) (b.reads a)) (b.reads x)) q.0
      ]

      writes_at : (x : ℤ) → at_address a (settled_change (b.writes a) (b.near a)) b.writes x ≡ b.writes x
      writes_at x = elim (address_tells x a) [
        | inl q ↦ ap (λ (t : Bool). cond t (settled_change (b.writes a) (b.near a)) (b.writes x)) q.0 ∙ settled_known (b.writes a) (b.near a) (b.reads a) y have ∙ ap b.writes (sym q.1)
        | inr q ↦ ap (λ (t : Bool). cond t (settled_change (b.writes a) (b.near a)) (b.writes x)) q.0
      ]

  module _ (none : held f c ≡ None) (there : IsSome (value_at b a)) where
    not_known : known (option_map write_of (b.writes a)) (b.reads a) ≡ None
    not_known = sym known_is ∙ none

    pub at_hand : (v : ℤ) × (b.near a ≡ Some v)
    at_hand = near_there (b.writes a) (b.near a) (b.reads a) not_known there

    abbrev pub value : ℤ
    value = at_hand.0

    pub value_near : b.near a ≡ Some value
    value_near = at_hand.1

    pub not_read : f.reads c ≡ None
    not_read = s.reads c here ∙ unread_yet (b.writes a) (b.reads a) (s.deltas a) not_known

    pub is_held_then : is_some (held (with_read f c value) c) ≡ true
    is_held_then =
        ap (λ (t : Bool). is_some (known (cond t (settled value (f.writes c)) (f.writes c)) (cond t (Some value) (f.reads c)))) (same_cell_itself c) ∙
        ap (λ (w : Option Write). is_some (known (settled value w) (Some value))) (s.writes c here) ∙ held_then (b.writes a) value

    read_here : read_after (b.writes a) (b.near a) (b.reads a) ≡ Some value
    read_here = ap (λ o. read_after (b.writes a) o (b.reads a)) value_near ∙ read_new (b.writes a) (b.reads a) value not_known

    settled_here : settled_change (b.writes a) (b.near a) ≡ settled_change (b.writes a) (Some value)
    settled_here = ap (settled_change (b.writes a)) value_near

    abbrev reads_now : ℤ → Option ℤ
    reads_now = at_address a (read_after (b.writes a) (b.near a) (b.reads a)) b.reads

    abbrev writes_now : ℤ → Option Change
    writes_now = at_address a (settled_change (b.writes a) (b.near a)) b.writes

    off_here : (d : Cell) → IsIn l d → same_cell c d ≡ false → address l d ≢ a
    off_here d in_l off e = let same : same_cell c d ≡ true = ap (same_cell c) (apart d c in_l here e) ∙ same_cell_itself c in cc

    pub loaded_logged : ShowsLog l (with_read f c value) (loaded_log b a)
    loaded_logged = record {
      reads = λ d in_l. elim (same_cell_tells c d) [
        | inl q ↦ ap (λ (t : Bool). cond t (Some value) (f.reads d)) q.0 ∙ sym (ap reads_now (ap (address l) (sym q.1)) ∙ at_here a (read_after (b.writes a) (b.near a) (b.reads a)) b.reads ∙ read_here)
        | inr q ↦ ap (λ (t : Bool). cond t (Some value) (f.reads d)) q ∙ s.reads d in_l ∙ sym (at_off a (read_after (b.writes a) (b.near a) (b.reads a)) b.reads (address l d) (off_here d in_l q))
      ];
      writes = λ d in_l. elim (same_cell_tells c d) [
        | inl q ↦
            ap (λ (t : Bool). cond t (settled value (f.writes d)) (f.writes d)) q.0 ∙
            subst (λ (x : Cell). settled value (f.writes x) ≡ option_map write_of (writes_now (address l x))) q.1
            (ap (settled value) (s.writes c here) ∙ settled_new (b.writes a) value ∙ sym (ap (option_map write_of) (at_here a (settled_change (b.writes a) (b.near a)) b.writes ∙ settled_here)))
        | inr q ↦
            ap (λ (t : Bool). cond t (settled value (f.writes d)) (f.writes d)) q ∙ s.writes d in_l ∙
            sym (ap (option_map write_of) (at_off a (settled_change (b.writes a) (b.near a)) b.writes (address l d) (off_here d in_l q)))
      ];
      read_there = λ x w e. elim (address_tells x a) [
        | inl q ↦ (c, here, q.1)
        | inr q ↦ s.read_there x w (sym (at_off a (read_after (b.writes a) (b.near a) (b.reads a)) b.reads x q.1) ∙ e)
      ];
      written_there = λ x u e. elim (address_tells x a) [
        | inl q ↦ (c, here, q.1)
        | inr q ↦ s.written_there x u (sym (at_off a (settled_change (b.writes a) (b.near a)) b.writes x q.1) ∙ e)
      ];
      near = λ x w e. elim (address_tells x a) [
        | inl q ↦ ap b.near q.1 ∙ value_near ∙ sym read_here ∙ sym (at_here a (read_after (b.writes a) (b.near a) (b.reads a)) b.reads) ∙ ap reads_now (sym q.1) ∙ e
        | inr q ↦ s.near x w (sym (at_off a (read_after (b.writes a) (b.near a) (b.reads a)) b.reads x q.1) ∙ e)
      ];
      deltas = λ x z e. elim (address_tells x a) [
        | inl q ↦ absurd (settled_no_delta (b.writes a) value z (sym settled_here ∙ sym (at_here a (settled_change (b.writes a) (b.near a)) b.writes) ∙ ap writes_now (sym q.1) ∙ e))
        | inr q ↦
            at_off a (read_after (b.writes a) (b.near a) (b.reads a)) b.reads x q.1 ∙ s.deltas x z (sym (at_off a (settled_change (b.writes a) (b.near a)) b.writes x q.1) ∙ e)
      ];
    }
