-- A strand that needs a cell goes on once it has it.
use Rattle.std.proofs.Common.{◌≡◌, ℕ, ◌<◌, List, [], ◌∷◌, ◌++◌, length, refl, ap, sym, ◌∙◌, subst, arith, cond, ◌&&◌, ℤ, Bool, true, false, nat_le, is_some, is_none, Option, Some, None, inl, inr}
use Rattle.std.specs.Option.{option_map}
use Rattle.std.proofs.lemmas.Bool.Decides.{leb_tells}
use Rattle.std.proofs.lemmas.List.{length-map}
use Rattle.semantics.specs.Cells.{Cell, same_cell}
use Rattle.semantics.specs.Frames.{Frame, Item}
use Rattle.program.specs.declared.function.Program.{Program}
use Rattle.std.specs.Map.{lookup}
use Rattle.std.specs.Prelude.{reverse}
use Rattle.semantics.specs.Arithmetic.{cell_sum}
use Rattle.semantics.proofs.Actions.{same_cell_itself}
use Rattle.laws_strands.specs.Footprint.{Delta, Footprint, Stored, Write, held, known, read_at, settled, with_read, write_at}
use Rattle.laws_strands.proofs.Footprints.{lookup_new, lookup_with_write}
use Rattle.laws_strands.specs.FrameStrands as frame_strands
use Rattle.laws_strands.specs.FrameStrands.{Access, IsFrameStrand, is_filled, access_of, is_border, is_full, need, next_of, pause_at, pause_of}
use Rattle.frame_engine.specs.declared.activation.Places.{Places}
use Rattle.frame_strand.specs.Alone.{GoesAlone}
use Rattle.frame_strand.specs.Along.{IsAlong, IsGoing, IsFrameStrandKept, NeedsLiving, PausesAt, pause_in}
use Rattle.frame_strand.specs.Buffers.{Buffers, held_in}
use Rattle.frame_strand.specs.Showing.{AreApart}
use Rattle.frame_strand.specs.Standing.{ShowsFrameStrand}
use Rattle.frame_strand.specs.declared.standing.Course.{Course}
use Rattle.frame_engine.specs.Shows.{Layout, IsIn, address}
use Rattle.frame_strand.specs.declared.standing.FrameStrandPause.{FrameStrandPause}
use Rattle.frame_strand.specs.declared.standing.FrameStrandPause.TheVariants.{Need}
use Rattle.frame_strand.proofs.Pausing.{stands_free}
use Rattle.frame_strand.proofs.Showing.{held_is}

-- what a strand that needs a cell has come to
pub record NeedsCell (prog : Program) (l : Layout) (s : frame_strands.FrameStrand) (at : ℤ) : Type 0 where
  pub cell : Cell
  pub pauses : pause_of prog s ≡ Some (frame_strands.Need cell)
  pub is : at ≡ address l cell
  pub living : IsIn l cell

pub needs_cell : (prog : Program) (l : Layout) (s : frame_strands.FrameStrand) (at : ℤ) → PausesAt prog l s (Some (Need at)) → NeedsCell prog l s at
needs_cell prog l s at p = from (pause_of prog s) refl p.is p.living
  where
    from : (o : Option frame_strands.Pause) → pause_of prog s ≡ o → option_map (pause_in l) o ≡ Some (Need at) → NeedsLiving l o → NeedsCell prog l s at
    from None is e living = absurd cc
    from (Some frame_strands.Blank) is e living = absurd cc
    from (Some frame_strands.Border) is e living = absurd cc
    from (Some frame_strands.Limit) is e living = absurd cc
    from (Some frame_strands.Full) is e living = absurd cc
    from (Some (frame_strands.Need c)) is e living = record { cell = c; pauses = is; is = cc; living = living }

-- ---- what it waits for

pause_parts : (b1 b2 b3 : Bool) (o : Option frame_strands.Pause) (c : Cell) → cond b1 (Some frame_strands.Border) (cond b2 (Some frame_strands.Limit) (cond b3 (Some frame_strands.Full) o)) ≡ Some (frame_strands.Need c) →
    (b1 ≡ false) × (b2 ≡ false) × (b3 ≡ false) × (o ≡ Some (frame_strands.Need c))
pause_parts true b2 b3 o c e = absurd cc
pause_parts false true b3 o c e = absurd cc
pause_parts false false true o c e = absurd cc
pause_parts false false false o c e = (refl, refl, refl, e)

need_loads : (f : Footprint) (a : Access) (c : Cell) → need f a ≡ Some (frame_strands.Need c) → (a ≡ frame_strands.Loads c) × (held f c ≡ None)
need_loads f frame_strands.Nowhere c e = absurd cc
need_loads f (frame_strands.Stores d) c e = absurd cc
need_loads f (frame_strands.Adds d) c e = absurd cc
need_loads f (frame_strands.Loads d) c e = from (held f d) refl e
  where
    from : (o : Option ℤ) → held f d ≡ o → cond (is_some o) None (Some (frame_strands.Need d)) ≡ Some (frame_strands.Need c) → (frame_strands.Loads d ≡ frame_strands.Loads c) × (held f c ≡ None)
    from None is h = let same : d ≡ c = cc in (ap frame_strands.Loads same, ap (held f) (sym same) ∙ is)
    from (Some z) is h = absurd cc

held_filled : (f : Footprint) (c : Cell) (v : ℤ) → held f c ≡ None → is_some (held (with_read f c v) c) ≡ true
held_filled f c v unheld = from (write_at f c) refl unheld
  where
    from : (o : Option Write) → write_at f c ≡ o → known o (read_at f c) ≡ None → is_some (known (lookup (same_cell c) (settled f.writes c v o)) (lookup (same_cell c) (f.reads ++ (c, v) ∷ []))) ≡ true
    from None is e = let unread = lookup_new f.reads c v e in rw (is, unread) refl
    from (Some (Stored z)) is e = absurd cc
    from (Some (Delta z)) is e = let put = lookup_with_write f.writes c (Stored (cell_sum v z)) c in let itself = same_cell_itself c in rw (put, itself) refl

module _ (prog : Program) (s : frame_strands.FrameStrand) (c : Cell) (paused : pause_of prog s ≡ Some (frame_strands.Need c)) where
  parts : (is_border (next_of prog s.present) ≡ false) × (nat_le 65536 s.done ≡ false) × (is_full s.footprint (access_of prog s.present) ≡ false) × (need s.footprint (access_of prog s.present) ≡ Some (frame_strands.Need c))
  parts = pause_parts _ _ _ _ c paused

  loads : (access_of prog s.present ≡ frame_strands.Loads c) × (held s.footprint c ≡ None)
  loads = need_loads s.footprint (access_of prog s.present) c parts.3

  pub not_held : held s.footprint c ≡ None
  not_held = loads.1

  pub has_place : length s.footprint.reads < 256
  has_place =
      let free : is_none (held s.footprint c) && nat_le 256 (length s.footprint.reads) ≡ false = ap (is_full s.footprint) (sym loads.0) ∙ parts.2 in
      let few : nat_le 256 (length s.footprint.reads) ≡ false = ap (λ (o : Option ℤ). is_none o && nat_le 256 (length s.footprint.reads)) (sym not_held) ∙ free in
      elim (leb_tells 256 (length s.footprint.reads)) [ inl q ↦ absurd (let r = sym q.0 ∙ few in cc) | inr q ↦ q.1 ]

  pub free_after : (v : ℤ) → pause_of prog (frame_strands.filled s c v) ≡ None
  free_after v =
      let there = held_filled s.footprint c v not_held in
      let border = parts.0 in
      let early = parts.1 in
      let roomy : is_full (with_read s.footprint c v) (access_of prog s.present) ≡ false = ap (is_full (with_read s.footprint c v)) loads.0 ∙ not_none (held (with_read s.footprint c v) c) there in
      let known : need (with_read s.footprint c v) (access_of prog s.present) ≡ None = ap (need (with_read s.footprint c v)) loads.0 ∙ ap (λ (t : Bool). cond t None (Some (frame_strands.Need c))) there in
      rw (border, early, roomy) known
    where
      not_none : (o : Option ℤ) → is_some o ≡ true → is_none o && nat_le 256 (length (s.footprint.reads ++ (c, v) ∷ [])) ≡ false
      not_none None e = absurd cc
      not_none (Some z) e = refl

-- ---- of the machine's strand

module _ (prog : Program) (places : Places) (x : Course) (at : ℤ) (going : IsGoing prog places x (Some (Need at))) where
  pub unheld : held_in x.cells at ≡ None
  unheld =
      let a = going.way.along going.way.started.layout going.way.started.frame going.way.started.goes in
      let n = needs_cell prog going.way.started.layout a.strand at (going.pauses going.way.started.layout going.way.started.frame going.way.started.goes) in
      ap (held_in x.cells) n.is ∙ held_is going.way.started.layout going.way.started.goes.apart n.cell n.living a.strand.footprint x.cells a.shown.footprint ∙ not_held prog a.strand n.cell n.pauses

  pub few_reads : length x.cells.reads < 256
  few_reads =
      let a = going.way.along going.way.started.layout going.way.started.frame going.way.started.goes in
      let n = needs_cell prog going.way.started.layout a.strand at (going.pauses going.way.started.layout going.way.started.frame going.way.started.goes) in
      subst (λ (k : ℕ). k < 256) (sym (ap (λ xs. length xs) a.shown.footprint.reads ∙ length-map a.strand.footprint.reads _)) (has_place prog a.strand n.cell n.pauses)

  module _ (b : Buffers) (value : ℤ)
      (fills : (l : Layout) (ps : Places) (s : frame_strands.FrameStrand) (c : Cell) → ShowsFrameStrand l ps s x → AreApart l → IsIn l c → at ≡ address l c → ShowsFrameStrand l ps (frame_strands.filled s c value) (record x { cells = b })) where
    abbrev along_filled : (l : Layout) (g : Frame) → GoesAlone prog places l (reverse x.path.items) g x.loaded → IsAlong prog places l (reverse x.path.items) g (record x { cells = b })
    along_filled l g goes =
        let a = going.way.along l g goes in
        let n = needs_cell prog l a.strand at (going.pauses l g goes) in
        record {
          strand = frame_strands.filled a.strand n.cell value;
          is = is_filled a.strand n.cell value a.is n.pauses;
          path = a.path;
          loaded = a.loaded;
          shown = fills l places a.strand n.cell a.shown goes.apart n.living n.is;
        }

    pub filled_going : IsGoing prog places (record x { cells = b }) None
    filled_going = record {
      way = record {
        stands = going.way.stands;
        room = going.way.room;
        started = record { layout = going.way.started.layout; frame = going.way.started.frame; goes = going.way.started.goes };
        along = along_filled;
      };
      pauses = λ l g goes.
          let a = going.way.along l g goes in
          let n = needs_cell prog l a.strand at (going.pauses l g goes) in
          stands_free prog l (frame_strands.filled a.strand n.cell value) (free_after prog a.strand n.cell n.pauses value);
    }

pub needed_going : (prog : Program) (places : Places) (x : Course) (pause : Option FrameStrandPause) (at : ℤ) → pause ≡ Some (Need at) → IsFrameStrandKept prog places x pause → IsGoing prog places x (Some (Need at))
needed_going prog places x pause at is kept = subst (IsGoing prog places x) is (kept.going (λ e. let bad = sym is ∙ e in cc))

pub same_need : (at other : ℤ) → Some (Need at) ≡ Some (Need other) → at ≡ other
same_need at other e = cc

-- and what came of it is kept
pub filled_at : (prog : Program) (places : Places) (x y : Course) (at value : ℤ) → y ≡ record x { cells = y.cells } →
    ((l : Layout) (ps : Places) (s : frame_strands.FrameStrand) (c : Cell) → ShowsFrameStrand l ps s x → AreApart l → IsIn l c → at ≡ address l c → ShowsFrameStrand l ps (frame_strands.filled s c value) y) →
    IsGoing prog places x (Some (Need at)) → IsGoing prog places y None
filled_at prog places x y at value only fills going =
    subst (λ (z : Course). IsGoing prog places z None) (sym only)
    (filled_going prog places x at going y.cells value (λ l ps s c shown apart here is. subst (ShowsFrameStrand l ps (frame_strands.filled s c value)) only (fills l ps s c shown apart here is)))
