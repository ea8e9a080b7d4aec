-- Cells of an object take the number 0, one after the other.
use Rattle.std.proofs.Common.{◌≡◌, ℕ, zero, suc, ◌≤◌, ◌<◌, refl, ap, sym, ◌∙◌, subst, arith, cond, eqb, eqb-true, ◌&&◌, ℤ, pos, Bool, true, false, Option, Some, None, inl, inr}
use Rattle.std.specs.Prelude.{IsSome, nat_lt}
use Rattle.std.proofs.lemmas.Bool.Decides.{eqb_tells, leb_tells}
use Rattle.std.proofs.lemmas.Bool.{false_from_ne_true, ltb-true, lt-ltb}
use Rattle.semantics.specs.Cells.{Cell, Memory, Object, same_object}
use Rattle.semantics.specs.Effect.{stores, stores_zeros}
use Rattle.semantics.specs.Frames.{Frame, first_cell}
use Rattle.laws_strands.specs.stacks.Footprint.{Footprint, Write, stored, with_writes}
use Rattle.laws_strands.proofs.stacks.Keeping.{Agrees}
use Rattle.frame_engine.specs.Access.{Stores}
use Rattle.frame_engine.specs.Accesses.{Zeroed}
use Rattle.frame_engine.specs.Shows.{Layout, IsIn, address}
use Rattle.frame_engine.proofs.Values.{cells_on}
use Rattle.strand_pages.specs.Accessing.{TableDoes}
use Rattle.strand_pages.specs.Logs.{Log}
use Rattle.strand_pages.specs.Tables.{Table, log_of}
use Rattle.strand.specs.CellsKept.{ShowsKept}
use Rattle.strand.specs.Layouts.{IsOutside, Segment}
use Rattle.strand.specs.OwnCells.{CellsDo, DoBy, own_cell, segment_of}
use Rattle.strand.specs.declared.cells.StrandCells.{StrandCells}
use Rattle.strand.proofs.Over.{LiesOver, in_or_not}
use Rattle.strand.proofs.Owned.{same_kept, stores_kept, stores_own}
use Rattle.strand.proofs.Segments.{outside_none}

-- ---- what is kept once so many cells were zeroed

abbrev pub zeros : Footprint → Frame → Object → ℕ → Footprint
zeros f g o n = with_writes f (stores_zeros g n o).writes (stores_zeros g n o).adds

abbrev kept_zero : Bool → Option Write → Option Write
kept_zero b w = stored (cond {A = Option (Option ℤ)} b (Some (Some (pos 0))) None) w

none_below : (a : Bool) (i : ℕ) → (a && nat_lt i 0) ≡ false
none_below true i = false_from_ne_true (nat_lt i 0) (λ e. let low = ltb-true i 0 e in omega (arith, low))
none_below false i = refl

one_kept : (a e t u : Bool) (w : Option Write) → (e ≡ true → u ≡ true) → (t ≡ true → u ≡ true) → (e ≡ false → t ≡ false → u ≡ false) → kept_zero (a && e) (kept_zero (a && t) w) ≡ kept_zero (a && u) w
one_kept false e t u w here below other = refl
one_kept true true t u w here below other = rw (here refl) refl
one_kept true false true u w here below other = rw (below refl) refl
one_kept true false false u w here below other = rw (other refl refl) refl

last_or : (j k : ℕ) → j < suc k → (k ≡ j → ⊥) → j < k
last_or j k low other = elim (leb_tells (suc j) k) [
  | inl h ↦ (let r = h.1 in omega (arith, r))
  | inr h ↦ absurd (let r = h.1 in other (omega (arith, r, low)))
]

-- with one more of them
next_zeros : (f : Footprint) (g : Frame) (o : Object) (n : ℕ) → with_writes (zeros f g o n) (stores g (record { object = o; index = n }) (pos 0)).writes (stores g (record { object = o; index = n }) (pos 0)).adds ≡ zeros f g o (suc n)
next_zeros f g o n = λ i. record f { writes = λ y. at y i }
  where
    at : (y : Cell) → kept_zero (same_object o y.object && eqb n y.index) (kept_zero (same_object o y.object && nat_lt y.index n) (f.writes y)) ≡ kept_zero (same_object o y.object && nat_lt y.index (suc n)) (f.writes y)
    at y =
        one_kept (same_object o y.object) (eqb n y.index) (nat_lt y.index n) (nat_lt y.index (suc n)) (f.writes y)
        (λ e. lt-ltb y.index (suc n) (let same = eqb-true n y.index e in omega (arith, same)))
        (λ e. lt-ltb y.index (suc n) (let low = ltb-true y.index n e in omega (arith, low)))
        (λ e low. false_from_ne_true (nat_lt y.index (suc n)) (λ u.
        let below = ltb-true y.index (suc n) u in
        elim (eqb_tells n y.index) [
          | inl h ↦ let both : true ≡ false = sym h.0 ∙ e in cc
          | inr h ↦ let both : true ≡ false = sym (lt-ltb y.index n (last_or y.index n below h.1)) ∙ low in cc
        ]))

module _ (l k : Layout) (first : Cell → ℤ) (s : Segment) (end : ℕ) (over : LiesOver l k s.start end) (outside : (c : Cell) → IsIn l c → IsOutside s (address l c)) (m : Memory) (begins : (c : Cell) → (IsIn l c → ⊥) → IsIn k c → m c ≡ Some (first c)) where
  -- ---- one store

  pub record IsStored (f : Footprint) (x after : StrandCells) (c : Cell) (g : Frame) (z : ℤ) : Type 0 where
    pub shown : ShowsKept l k first (with_writes f (stores g c z).writes (stores g c z).adds) after
    pub segment : segment_of after ≡ s
    pub near : (log_of after.log).near ≡ (log_of x.log).near

  module _ (f : Footprint) (agrees : Agrees m f) (x after : StrandCells) (segment : segment_of x ≡ s) (kept : ShowsKept l k first f x) (c : Cell) (here : IsIn k c) (g : Frame) (z : ℤ) (done : CellsDo x (Stores (address k c) z) after) where
    log_access : (q : IsIn l c) → own_cell x (address k c) ≡ None
    log_access q = ap (own_cell x) (over.same c q) ∙ outside_none x (address l c) (subst (λ (t : Segment). IsOutside t (address l c)) (sym segment) (outside c q))

    own_store : (o : Option ℤ) → IsSome o → DoBy o x (Stores (address k c) z) after → (IsIn l c → ⊥) → IsStored f x after c g z
    own_store None some d q = absurd cc
    own_store (Some v) some d q = record {
      shown = stores_own l k first s.start end over m f agrees x after kept c q here (begins c q here) g z d;
      segment = d.segment ∙ segment;
      near = ap (λ (t : Table). (log_of t).near) d.log;
    }

    pub is_stored : IsStored f x after c g z
    is_stored = elim (in_or_not l c) [
      | inl q ↦
          let d : DoBy None x (Stores (address k c) z) after = subst (λ o. DoBy o x (Stores (address k c) z) after) (log_access q) done in
          let put : TableDoes x.log (Stores (address l c) z) after.log = subst (λ a. TableDoes x.log (Stores a z) after.log) (over.same c q) d.0 in
          record { shown = stores_kept l k first s.start end over f x after kept c q d.1 g z put; segment = ap segment_of d.1 ∙ segment; near = ap (λ (y : Log). y.near) put.is }
      | inr q ↦ own_store (own_cell x (address k c)) (kept.own c q here).there done q
    ]

  -- ---- so many

  pub record AreZeroed (f : Footprint) (x after : StrandCells) (g : Frame) (o : Object) (n : ℕ) : Type 0 where
    pub shown : ShowsKept l k first (zeros f g o n) after
    pub segment : segment_of after ≡ s
    pub near : (log_of after.log).near ≡ (log_of x.log).near

  module _ (f : Footprint) (agrees : Agrees m f) (x : StrandCells) (segment : segment_of x ≡ s) (kept : ShowsKept l k first f x) (g : Frame) (o : Object) (count : ℕ) (within : (i : ℕ) → i < count → IsIn k (record { object = o; index = i })) where
    pub are_zeroed : (n : ℕ) → n ≤ count → (c : StrandCells) → Zeroed CellsDo (address k (first_cell o)) x n c → AreZeroed f x c g o n
    are_zeroed zero low c same = record {
      shown = subst (ShowsKept l k first (zeros f g o 0)) (sym same) (same_kept l k first f x (stores_zeros g 0 o).writes (stores_zeros g 0 o).adds kept
          (λ y. ap (λ (b : Bool). cond {A = Option (Option ℤ)} b (Some (Some (pos 0))) None) (none_below (same_object o y.object) y.index)) (λ y. refl));
      segment = ap segment_of same ∙ segment;
      near = ap (λ (y : StrandCells). (log_of y.log).near) same;
    }
    are_zeroed (suc n) low c (mid, before, done) =
        let w = are_zeroed n (omega (arith, low)) mid before in
        let here : Cell = record { object = o; index = n } in
        let at = cells_on (k.at o) (address k (first_cell o)) (pos n) n refl refl in
        let t = is_stored (zeros f g o n) agrees mid c w.segment w.shown here (within n (omega (arith, low))) g (pos 0) (subst (λ (a : ℤ). CellsDo mid (Stores a (pos 0)) c) at done) in
        record {
          shown = subst (λ (h : Footprint). ShowsKept l k first h c) (next_zeros f g o n) t.shown;
          segment = t.segment;
          near = t.near ∙ w.near;
        }
