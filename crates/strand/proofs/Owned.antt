-- What is kept of a strand's cells after one access, in the machine's objects and in the frames' own.
use Rattle.std.proofs.Common.{◌≡◌, ℕ, refl, ap, sym, ◌∙◌, subst, cond, ℤ, Bool, true, false, Option, Some, None, inl, inr, ◌≢◌}
use Rattle.std.specs.Prelude.{IsSome}
use Rattle.semantics.specs.Arithmetic.{cell_sum}
use Rattle.semantics.specs.Cells.{Cell, Memory, same_cell}
use Rattle.semantics.specs.Effect.{stores}
use Rattle.semantics.specs.Frames.{Frame}
use Rattle.semantics.specs.State.{added, override}
use Rattle.semantics.proofs.Actions.{same_cell_itself}
use Rattle.semantics.proofs.SameCells.{same_cell_tells}
use Rattle.laws_strands.specs.stacks.Footprint.{Footprint, Write, added_to, held, known, put, raised, settled, stored, with_read, with_writes}
use Rattle.laws_strands.specs.stacks.Footprint as footprint
use Rattle.laws_strands.proofs.stacks.Keeping.{Agrees, put_after, put_read}
use Rattle.frame_engine.specs.Shows.{Layout, IsIn, address}
use Rattle.strand.specs.frame_strand.Buffers.{raised_change}
use Rattle.strand.specs.frame_strand.Showing.{AreApart}
use Rattle.strand.specs.frame_strand.declared.cells.Change.TheVariants.{Stored}
use Rattle.strand_pages.specs.Doing.{IsChanged, IsKept}
use Rattle.strand_pages.specs.Tables.{Table, log_of}
use Rattle.strand.specs.CellsKept.{HoldsOwn, ShowsKept, ShowsLog}
use Rattle.strand.specs.OwnCells.{IsOwnPut, own_cell}
use Rattle.strand.specs.declared.cells.StrandCells.{StrandCells}
use Rattle.strand.proofs.Logged.{adds_logged, off_logged, same_logged, stores_logged}
use Rattle.strand.proofs.Over.{LiesOver}

-- a cell of the one layout is none that the other lacks
apart_by : (l : Layout) (c d : Cell) → IsIn l c → (IsIn l d → ⊥) → same_cell c d ≡ false
apart_by l c d here out = elim (same_cell_tells c d) [ inl q ↦ absurd (out (subst (IsIn l) q.1 here)) | inr q ↦ q ]

-- the same of what is known of it before and after
pub same_own : (f g : Footprint) (c : Cell) (first : ℤ) (now after : Option ℤ) → g.reads c ≡ f.reads c → g.writes c ≡ f.writes c → after ≡ now → HoldsOwn f c first now → HoldsOwn g c first after
same_own f g c first now after reads writes same h = record {
  read = λ v e. h.read v (sym reads ∙ e);
  is = same ∙ h.is ∙ ap (λ u. put u (Some first)) (sym writes);
  there = subst IsSome (sym same) h.there;
  delta = λ z e. reads ∙ h.delta z (sym writes ∙ e);
}

-- ---- a cell of the machine is read or written

-- the log shows what is known of one cell otherwise, and of no other
module _ (l k : Layout) (first : Cell → ℤ) (start end : ℕ) (over : LiesOver l k start end) (f : Footprint) (x after : StrandCells) (s : ShowsKept l k first f x) (c : Cell) (here : IsIn l c) (only : after ≡ record x { log = after.log }) where
  pub apart_below : AreApart l
  apart_below d e i j same = over.apart d e (over.kept d i) (over.kept e j) (over.same d i ∙ same ∙ sym (over.same e j))

  pub logged_kept : (g : Footprint) → ((d : Cell) → same_cell c d ≡ false → (g.reads d ≡ f.reads d) × (g.writes d ≡ f.writes d)) → ShowsLog l g (log_of after.log) → ShowsKept l k first g after
  logged_kept g others shown = record {
    log = shown;
    own = λ d out in_k.
        let (reads, writes) = others d (apart_by l c d here out) in
        same_own f g d (first d) (own_cell x (address k d)) (own_cell after (address k d)) reads writes (ap (λ (y : StrandCells). own_cell y (address k d)) only) (s.own d out in_k);
    gone = λ d out.
        let (reads, writes) = others d (apart_by k c d (over.kept c here) out) in
        (λ i. put (writes i) (reads i)) ∙ s.gone d out;
  }

  pub stores_kept : (h : Frame) (z : ℤ) → IsChanged (log_of x.log) (address l c) (Stored z) (log_of after.log) → ShowsKept l k first (with_writes f (stores h c z).writes (stores h c z).adds) after
  stores_kept h z done =
      logged_kept (with_writes f (stores h c z).writes (stores h c z).adds) (λ d off. (refl, ap (λ (t : Bool). stored (cond {A = Option (Option ℤ)} t (Some (Some z)) None) (f.writes d)) off))
      (stores_logged l apart_below f (log_of x.log) (log_of after.log) s.log c here h z done)

  pub adds_kept : (writes : Cell → Option (Option ℤ)) (adds : Cell → Option ℤ) (z : ℤ) → ((y : Cell) → writes y ≡ None) → ((y : Cell) → adds y ≡ cond (same_cell c y) (Some z) None) →
      IsKept (log_of x.log) (address l c) (raised_change z ((log_of x.log).writes (address l c)) ((log_of x.log).reads (address l c))) (log_of after.log) → ShowsKept l k first (with_writes f writes adds) after
  adds_kept writes adds z none is done =
      logged_kept (with_writes f writes adds)
      (λ d off. (refl, (λ i. added_to (is d i) (stored (none d i) (f.writes d)) (f.reads d)) ∙ ap (λ (t : Bool). added_to (cond {A = Option ℤ} t (Some z) None) (f.writes d) (f.reads d)) off))
      (adds_logged l apart_below f (log_of x.log) (log_of after.log) s.log c here writes adds z none is done)

-- ---- a cell of the frames' own is written

-- what is a delta after an add was none that was read
raised_delta : (z : ℤ) (w : Option Write) (r : Option ℤ) → ((y : ℤ) → w ≡ Some (footprint.Delta y) → r ≡ None) → (y : ℤ) → raised z w r ≡ footprint.Delta y → r ≡ None
raised_delta z None None h y e = refl
raised_delta z None (Some v) h y e = absurd cc
raised_delta z (Some (footprint.Stored v)) r h y e = absurd cc
raised_delta z (Some (footprint.Delta v)) r h y e = h v refl

module _ (l k : Layout) (first : Cell → ℤ) (start end : ℕ) (over : LiesOver l k start end) (m : Memory) (f : Footprint) (agrees : Agrees m f) (x after : StrandCells) (s : ShowsKept l k first f x) (c : Cell) (out : IsIn l c → ⊥) (here : IsIn k c) (begins : m c ≡ Some (first c)) where
  other_address : (d : Cell) → IsIn k d → same_cell c d ≡ false → address k d ≢ address k c
  other_address d in_k off e = let same : same_cell c d ≡ true = ap (same_cell c) (over.apart d c in_k here e) ∙ same_cell_itself c in cc

  own_put : (writes : Cell → Option (Option ℤ)) (adds : Cell → Option ℤ) (n : ℤ) → IsOwnPut x (address k c) n after → added (adds c) (override (writes c) (put (f.writes c) (m c))) ≡ Some n →
      ((z : ℤ) → (with_writes f writes adds).writes c ≡ Some (footprint.Delta z) → f.reads c ≡ None) → ((d : Cell) → same_cell c d ≡ false → (with_writes f writes adds).writes d ≡ f.writes d) →
      ShowsKept l k first (with_writes f writes adds) after
  own_put writes adds n done now delta others = record {
    log = subst (λ (t : Table). ShowsLog l (with_writes f writes adds) (log_of t)) (sym done.log) (off_logged l f (with_writes f writes adds) (log_of x.log) (λ d in_l. (refl, others d (off_log d in_l))) s.log);
    own = λ d off in_k. elim (same_cell_tells c d) [
      | inl q ↦ subst (λ (y : Cell). HoldsOwn (with_writes f writes adds) y (first y) (own_cell after (address k y))) q.1 mine
      | inr q ↦ same_own f (with_writes f writes adds) d (first d) (own_cell x (address k d)) (own_cell after (address k d)) refl (others d q) (done.others (address k d) (other_address d in_k q)) (s.own d off in_k)
    ];
    gone = λ d away. ap (λ u. put u (f.reads d)) (others d (apart_by k c d here away)) ∙ s.gone d away;
  }
    where
      off_log : (d : Cell) → IsIn l d → same_cell c d ≡ false
      off_log d in_l = elim (same_cell_tells c d) [ inl q ↦ absurd (out (subst (IsIn l) (sym q.1) in_l)) | inr q ↦ q ]

      mine : HoldsOwn (with_writes f writes adds) c (first c) (own_cell after (address k c))
      mine = record {
        read = (s.own c out here).read;
        is = done.here ∙ sym now ∙ put_after m f writes adds agrees c ∙ ap (put ((with_writes f writes adds).writes c)) begins;
        there = subst IsSome (sym done.here) refl;
        delta = delta;
      }

  pub stores_own : (h : Frame) (z : ℤ) → IsOwnPut x (address k c) z after → ShowsKept l k first (with_writes f (stores h c z).writes (stores h c z).adds) after
  stores_own h z done =
      own_put (stores h c z).writes (stores h c z).adds z done
      (ap (λ (t : Bool). override (cond {A = Option (Option ℤ)} t (Some (Some z)) None) (put (f.writes c) (m c))) (same_cell_itself c))
      (λ y e.
      let is : stored (cond {A = Option (Option ℤ)} (same_cell c c) (Some (Some z)) None) (f.writes c) ≡ Some (footprint.Stored (Some z)) = ap (λ (t : Bool). stored (cond {A = Option (Option ℤ)} t (Some (Some z)) None) (f.writes c)) (same_cell_itself c) in
      absurd (let bad : Some (footprint.Stored (Some z)) ≡ Some (footprint.Delta y) = sym is ∙ e in cc))
      (λ d off. ap (λ (t : Bool). stored (cond {A = Option (Option ℤ)} t (Some (Some z)) None) (f.writes d)) off)

  pub adds_own : (writes : Cell → Option (Option ℤ)) (adds : Cell → Option ℤ) (z v : ℤ) → ((y : Cell) → writes y ≡ None) → ((y : Cell) → adds y ≡ cond (same_cell c y) (Some z) None) → own_cell x (address k c) ≡ Some v →
      IsOwnPut x (address k c) (cell_sum v z) after → ShowsKept l k first (with_writes f writes adds) after
  adds_own writes adds z v none is at done =
      let mine : adds c ≡ Some z = is c ∙ ap (λ (t : Bool). cond {A = Option ℤ} t (Some z) None) (same_cell_itself c) in
      let held_now : put (f.writes c) (m c) ≡ Some v = ap (put (f.writes c)) begins ∙ sym (s.own c out here).is ∙ at in
      own_put writes adds (cell_sum v z) done
      ((λ i. added (mine i) (override (none c i) (held_now i))))
      (λ y e.
      let kept_now : added_to (adds c) (stored (writes c) (f.writes c)) (f.reads c) ≡ Some (raised z (f.writes c) (f.reads c)) = (λ i. added_to (mine i) (stored (none c i) (f.writes c)) (f.reads c)) in
      let same : raised z (f.writes c) (f.reads c) ≡ footprint.Delta y = let both : Some (raised z (f.writes c) (f.reads c)) ≡ Some (footprint.Delta y) = sym kept_now ∙ e in cc in
      raised_delta z (f.writes c) (f.reads c) (s.own c out here).delta y same)
      (λ d off. (λ i. added_to (is d i) (stored (none d i) (f.writes d)) (f.reads d)) ∙ ap (λ (t : Bool). added_to (cond {A = Option ℤ} t (Some z) None) (f.writes d) (f.reads d)) off)

  -- ---- it is read as what it held first

  settled_delta : (v : ℤ) (w : Option Write) (z : ℤ) → settled v w ≡ Some (footprint.Delta z) → ⊥
  settled_delta v None z e = cc
  settled_delta v (Some (footprint.Stored u)) z e = cc
  settled_delta v (Some (footprint.Delta u)) z e = cc

  pub read_own : ShowsKept l k first (with_read f c (first c)) x
  read_own = record {
    log = off_logged l f (with_read f c (first c)) (log_of x.log)
        (λ d in_l. (ap (λ (t : Bool). cond t (Some (first c)) (f.reads d)) (off_log d in_l), ap (λ (t : Bool). cond t (settled (first c) (f.writes d)) (f.writes d)) (off_log d in_l))) s.log;
    own = λ d off in_k. elim (same_cell_tells c d) [
      | inl q ↦ subst (λ (y : Cell). HoldsOwn (with_read f c (first c)) y (first y) (own_cell x (address k y))) q.1 mine
      | inr q ↦ same_own f (with_read f c (first c)) d (first d) (own_cell x (address k d)) (own_cell x (address k d)) (ap (λ (t : Bool). cond t (Some (first c)) (f.reads d)) q) (ap (λ (t : Bool). cond t (settled (first c) (f.writes d)) (f.writes d)) q) refl (s.own d off in_k)
    ];
    gone = λ d away.
        let off = apart_by k c d here away in
        (λ i. put (cond (off i) (settled (first c) (f.writes d)) (f.writes d)) (cond (off i) (Some (first c)) (f.reads d))) ∙ s.gone d away;
  }
    where
      off_log : (d : Cell) → IsIn l d → same_cell c d ≡ false
      off_log d in_l = elim (same_cell_tells c d) [ inl q ↦ absurd (out (subst (IsIn l) (sym q.1) in_l)) | inr q ↦ q ]

      reads_now : (with_read f c (first c)).reads c ≡ Some (first c)
      reads_now = ap (λ (t : Bool). cond t (Some (first c)) (f.reads c)) (same_cell_itself c)

      writes_now : (with_read f c (first c)).writes c ≡ settled (first c) (f.writes c)
      writes_now = ap (λ (t : Bool). cond t (settled (first c) (f.writes c)) (f.writes c)) (same_cell_itself c)

      mine : HoldsOwn (with_read f c (first c)) c (first c) (own_cell x (address k c))
      mine = record {
        read = λ v e. sym reads_now ∙ e;
        is =
            let same : put ((with_read f c (first c)).writes c) (m c) ≡ put (f.writes c) (m c) = put_read m f c (first c) c begins in
            (s.own c out here).is ∙ ap (put (f.writes c)) (sym begins) ∙ sym same ∙ ap (put ((with_read f c (first c)).writes c)) begins;
        there = (s.own c out here).there;
        delta = λ z e. absurd (settled_delta (first c) (f.writes c) z (sym writes_now ∙ e));
      }

  -- what is not held was not read
  not_read : (w : Option Write) (r : Option ℤ) (now : Option ℤ) → known w r ≡ None → now ≡ put w (Some (first c)) → IsSome now → ((z : ℤ) → w ≡ Some (footprint.Delta z) → r ≡ None) → r ≡ None
  not_read None r now e is there delta = e
  not_read (Some (footprint.Stored None)) r now e is there delta = absurd (let bad = subst IsSome is there in cc)
  not_read (Some (footprint.Stored (Some v))) r now e is there delta = absurd cc
  not_read (Some (footprint.Delta z)) r now e is there delta = delta z refl

  pub unread : held f c ≡ None → f.reads c ≡ None
  unread e = let h = s.own c out here in not_read (f.writes c) (f.reads c) (own_cell x (address k c)) e h.is h.there h.delta

  settled_known : (w : Option Write) (v : ℤ) (now : Option ℤ) → now ≡ put w (Some v) → IsSome now → IsSome (known (settled v w) (Some v))
  settled_known None v now is there = refl
  settled_known (Some (footprint.Stored None)) v now is there = absurd (let bad = subst IsSome is there in cc)
  settled_known (Some (footprint.Stored (Some y))) v now is there = refl
  settled_known (Some (footprint.Delta z)) v now is there = refl

  -- and once it is read it is held
  pub held_then : IsSome (held (with_read f c (first c)) c)
  held_then =
      let h = s.own c out here in
      subst IsSome (sym (ap (λ (t : Bool). known (cond t (settled (first c) (f.writes c)) (f.writes c)) (cond t (Some (first c)) (f.reads c))) (same_cell_itself c))) (settled_known (f.writes c) (first c) (own_cell x (address k c)) h.is h.there)

-- ---- nothing is written

pub same_kept : (l k : Layout) (first : Cell → ℤ) (f : Footprint) (x : StrandCells) (writes : Cell → Option (Option ℤ)) (adds : Cell → Option ℤ) → ShowsKept l k first f x → ((y : Cell) → writes y ≡ None) → ((y : Cell) → adds y ≡ None) → ShowsKept l k first (with_writes f writes adds) x
same_kept l k first f x writes adds s none no_add = record {
  log = same_logged l f (log_of x.log) writes adds s.log none no_add;
  own = λ c out here. same_own f (with_writes f writes adds) c (first c) (own_cell x (address k c)) (own_cell x (address k c)) refl (kept c) refl (s.own c out here);
  gone = λ c out. ap (λ u. put u (f.reads c)) (kept c) ∙ s.gone c out;
}
  where
    kept : (c : Cell) → added_to (adds c) (stored (writes c) (f.writes c)) (f.reads c) ≡ f.writes c
    kept c = λ i. added_to (no_add c i) (stored (none c i) (f.writes c)) (f.reads c)
