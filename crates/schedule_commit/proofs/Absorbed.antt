-- A run in which a strand's frame and writes were put shows the machine that absorbed the strand.
use Rattle.std.proofs.Common.{◌≡◌, ◌≢◌, ℕ, zero, suc, ◌∷◌, List, cond, Option, Some, None, inl, inr, refl, sym, ap, ◌∙◌, subst, ℤ}
use Rattle.std.specs.Prelude.{IsTrue, nat_lt, negsuc, pos}
use Rattle.std.specs.Option.{option_map}
use Rattle.semantics.specs.Paths.{Path}
use Rattle.semantics.specs.Cells.{Cell, Memory, Object, Shared, Local}
use Rattle.semantics.specs.Counts.{count_of}
use Rattle.semantics.specs.Frames as frames
use Rattle.semantics.specs.Frames.{Free}
use Rattle.semantics.specs.State.{State, outside, override, sum_in, wait_after}
use Rattle.semantics.specs.CoreSteps.{children_within}
use Rattle.semantics.specs.Events.{Machine}
use Rattle.semantics.proofs.ChildCounts.{count_at}
use Rattle.semantics.proofs.Places.{only_here, only_off, same_path_tells}
use Rattle.program.specs.declared.function.Program.{Program}
use Rattle.laws_strands.specs.Footprint as frame_strands
use Rattle.laws_strands.specs.Footprint.{Footprint, Write, put, write_at}
use Rattle.laws_strands.specs.Law.{absorbed}
use Rattle.laws_strands.specs.FrameStrands.{FrameStrand, IsFrameStrand, is_advanced, is_filled, is_loaded}
use Rattle.frame_engine.specs.Activation.{ShowsFrame, allocas_of}
use Rattle.frame_engine.specs.Flat.{cell_in, is_cell}
use Rattle.frame_engine.specs.Shows.{Layout, IsIn, ShowsBases, ShowsCells, ShowsRegisters, address}
use Rattle.frame_engine.specs.Words.{bases}
use Rattle.frame_engine.specs.declared.activation.Frame.{Frame}
use Rattle.frame_engine.specs.declared.activation.Places.{Places}
use Rattle.frame.specs.Reading.{role_of}
use Rattle.frame_strand.specs.Buffers.{Buffers}
use Rattle.frame_strand.specs.Showing.{ShowsFootprint, change_of}
use Rattle.frame_strand.proofs.Seen.{written_in}
use Rattle.frame_strand.proofs.Showing.{change_is}
use Rattle.schedule_workers.specs.Layouts.{alloca_cells, living}
use Rattle.schedule_commit.specs.Putting.{IsPutInto, put_change}

-- ---- what a strand leaves of its frame

pub record IsSameFrame (f g : frames.Frame) : Type 0 where
  pub function : g.function ≡ f.function
  pub made : g.made ≡ f.made
  pub role : g.role ≡ f.role
  pub home : g.home ≡ f.home

pub same_frame : (prog : Program) (s : FrameStrand) → IsFrameStrand prog s → IsSameFrame s.loaded s.present
same_frame prog _ (is_loaded p f) = record { function = refl; made = refl; role = refl; home = refl }
same_frame prog _ (is_filled s c v is paused) = same_frame prog s is
same_frame prog _ (is_advanced s e is free act fine) =
    let same = same_frame prog s is in
    record { function = same.function; made = same.made; role = same.role; home = same.home }

-- one that did an instruction waits for nothing
pub waits_free : (prog : Program) (s : FrameStrand) → IsFrameStrand prog s → s.done ≢ 0 → s.present.waits ≡ Free
waits_free prog _ (is_loaded p f) more = absurd (more refl)
waits_free prog _ (is_filled s c v is paused) more = waits_free prog s is more
waits_free prog _ (is_advanced s e is free act fine) more = ap wait_after fine

-- one that did none stands where it was loaded
pub unmoved : (prog : Program) (s : FrameStrand) → IsFrameStrand prog s → s.done ≡ 0 → s.present ≡ s.loaded
unmoved prog _ (is_loaded p f) none = refl
unmoved prog _ (is_filled s c v is paused) none = unmoved prog s is none
unmoved prog _ (is_advanced s e is free act fine) none = absurd cc

-- ---- children are counted as before

module _ (s t : State) (r : ℕ) (told : (x : Path) → outside r (t.frames x) ≡ outside r (s.frames x)) where
  pub alike : (q : Path) (n : ℕ) → children_within t q n r ≡ children_within s q n r
  alike q zero = refl
  alike q (suc n) = let rest = alike q n in λ i. cond (told (n ∷ q) i) (rest i) (suc (rest i))

  count_alike : (q : Path) → t.frames q ≡ s.frames q → count_of t q r ≡ count_of s q r
  count_alike q here = from (s.frames q) here refl
    where
      from : (o : Option frames.Frame) → t.frames q ≡ o → s.frames q ≡ o → count_of t q r ≡ count_of s q r
      from None now was = rw (now, was) refl
      from (Some f) now was = count_at t q f r now ∙ alike q f.made ∙ sym (count_at s q f r was)

  count_moved : (q : Path) (f g : frames.Frame) → s.frames q ≡ Some f → t.frames q ≡ Some g → g.made ≡ f.made → count_of t q r ≡ count_of s q r
  count_moved q f g was now made = count_at t q g r now ∙ ap (λ n. children_within t q n r) made ∙ alike q f.made ∙ sym (count_at s q f r was)

-- ---- the machine

module _ (prog : Program) (m : Machine) (s : FrameStrand) (is : IsFrameStrand prog s) (stands : m.core.frames s.path ≡ Some s.loaded) where
  abbrev next : Machine
  next = absorbed m s

  pub now : next.core.frames s.path ≡ Some s.present
  now = ap (λ o. override o (m.core.frames s.path)) (only_here s.path (Some s.present))

  pub off : (q : Path) → s.path ≢ q → next.core.frames q ≡ m.core.frames q
  off q away = ap (λ o. override o (m.core.frames q)) (only_off s.path q (Some s.present) away)

  cells_same : (a : ℕ) → alloca_cells prog (Some s.present) a ≡ alloca_cells prog (Some s.loaded) a
  cells_same a = let same = same_frame prog s is in λ i. alloca_cells prog (Some (record s.present { function = same.function i; role = same.role i })) a

  pub lives : (o : Object) → living prog next.core o ≡ living prog m.core o
  lives (Shared g) = refl
  lives (Local owner a) =
      elim (same_path_tells s.path owner) [
        | inl h ↦
            subst (λ q. alloca_cells prog (next.core.frames q) a ≡ alloca_cells prog (m.core.frames q) a) h.1
            (ap (λ o. alloca_cells prog o a) now ∙ cells_same a ∙ sym (ap (λ o. alloca_cells prog o a) stands))
        | inr h ↦ ap (λ o. alloca_cells prog o a) (off owner h.1)
      ]

  told : (r : ℕ) (x : Path) → outside r (next.core.frames x) ≡ outside r (m.core.frames x)
  told r x =
      elim (same_path_tells s.path x) [
        | inl h ↦
            subst (λ q. outside r (next.core.frames q) ≡ outside r (m.core.frames q)) h.1
            (ap (outside r) now ∙ (let same = same_frame prog s is in λ i. outside r (Some (record s.present { role = same.role i }))) ∙ sym (ap (outside r) stands))
        | inr h ↦ ap (outside r) (off x h.1)
      ]

  pub counts : (q : Path) (r : ℕ) → count_of next.core q r ≡ count_of m.core q r
  counts q r =
      elim (same_path_tells s.path q) [
        | inl h ↦
            count_moved m.core next.core r (told r) q s.loaded s.present (subst (λ x. m.core.frames x ≡ Some s.loaded) h.1 stands) (subst (λ x. next.core.frames x ≡ Some s.present) h.1 now)
            (same_frame prog s is).made
        | inr h ↦ count_alike m.core next.core r (told r) q (off q h.1)
      ]

-- ---- its cells

module _ (l : Layout) (f : Footprint) (b : Buffers) (shown : ShowsFootprint l f b) (m : Memory) (old new : List ℤ) (were : ShowsCells l (is_cell old) (λ a z. cell_in old a ≡ Some z) m) (puts : IsPutInto b.writes old new) where
  abbrev later : Memory
  later x = put (write_at f x) (m x)

  inside_later : (c : Cell) (z : ℤ) → later c ≡ Some z → IsIn l c
  inside_later c z e = from (write_at f c) refl e
    where
      from : (u : Option Write) → write_at f c ≡ u → put u (m c) ≡ Some z → IsIn l c
      from None is h = were.inside c z h
      from (Some u) is h = written_in l c u f.writes shown.writes_in is

  value_put : (c : Cell) (z : ℤ) (u : Option Write) → put u (m c) ≡ Some z → put_change (option_map change_of u) (cell_in old (address l c)) ≡ Some z
  value_put c z None e = were.values c z e
  value_put c z (Some (frame_strands.Stored y)) e = e
  value_put c z (Some (frame_strands.Delta y)) e = from (m c) refl e
    where
      from : (o : Option ℤ) → m c ≡ o → sum_in y o ≡ Some z → sum_in y (cell_in old (address l c)) ≡ Some z
      from None is h = absurd cc
      from (Some x) is h = ap (sum_in y) (were.values c x is) ∙ h

  kept_cell : (a : ℤ) → IsTrue (is_cell old a) → IsTrue (is_cell new a)
  kept_cell (pos n) h = subst (λ (k : ℕ). IsTrue (nat_lt n k)) (sym puts.long) h
  kept_cell (negsuc n) h = h

  pub cells_later : ShowsCells l (is_cell new) (λ a z. cell_in new a ≡ Some z) later
  cells_later = record {
    values = λ c z e.
        puts.cells (address l c) ∙ ap (λ o. put_change o (cell_in old (address l c))) (change_is l were.apart c (inside_later c z e) f b shown) ∙ value_put c z (write_at f c) e;
    inside = inside_later;
    reached = λ c here. kept_cell (address l c) (were.reached c here);
    apart = were.apart;
  }

-- ---- its frame

-- the frame in the slot afterwards: all but the place and the registers is as it was loaded
pub record IsWritten (loaded present f : Frame) : Type 0 where
  pub function : f.function ≡ loaded.function
  pub home : f.home ≡ loaded.home
  pub made : f.made ≡ loaded.made
  pub role : f.role ≡ loaded.role
  pub depth : f.depth ≡ loaded.depth
  pub place : f.place ≡ present.place
  pub registers : f.registers.items ≡ present.registers.items

pub written_shows : (l : Layout) (places : Places) (p : Path) (g h : frames.Frame) (loaded present f : Frame) → IsSameFrame g h → ShowsFrame l places p g loaded → ShowsFrame l places p h present → IsWritten loaded present f → ShowsFrame l places p h f
written_shows l places p g h loaded present f same was is w = record {
  function = same.function ∙ was.function ∙ ap (λ x. x.0) (sym w.function);
  block = is.block ∙ ap (λ x. x.block.0) (sym w.place);
  index = is.index ∙ ap (λ x. x.index) (sym w.place);
  made = same.made ∙ was.made ∙ sym w.made;
  role = same.role ∙ was.role ∙ ap role_of (sym w.role);
  depth = was.depth ∙ sym w.depth;
  bases = subst (λ q. ShowsBases l (bases places.globals (allocas_of places f.function.0) f.home) q) (sym same.home)
      (subst (λ b. ShowsBases l b g.home) (λ i. bases places.globals (allocas_of places (sym w.function i).0) (sym w.home i)) was.bases);
  registers = subst (ShowsRegisters l h.registers) (sym w.registers) is.registers;
}
