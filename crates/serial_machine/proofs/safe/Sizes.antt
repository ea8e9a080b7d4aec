-- The cells that a frame may use are cells of the layout of its stack.
use Rattle.std.proofs.Common.{◌≡◌, ℕ, zero, suc, ◌≤◌, List, [], ◌∷◌, length, map, Option, Some, None, Bool, true, false, cond, refl, ap, sym, ◌∙◌, subst, arith, slice_get}
use Rattle.semantics.specs.Paths.{Path, same_path}
use Rattle.semantics.specs.Cells.{Object, Shared, Local, Cell}
use Rattle.semantics.specs.Frames.{Role, Child, Body, Frame, alloca_cells, cells_in, cells_of}
use Rattle.semantics.proofs.Places.{same_path_is}
use Rattle.program.specs.declared.function.Alloca.{Alloca}
use Rattle.program.specs.declared.function.Function.{Function}
use Rattle.program.specs.declared.function.Program.{Program}
use Rattle.program.specs.declared.identifier.ObjectName.TheVariants as object
use Rattle.frame_engine.specs.Shows.{Layout, IsIn}
use Rattle.laws_schedule.specs.laws_phases.defined.Names.{IsNamed}
use Rattle.laws_schedule.specs.laws_phases.defined.Values.{NamesObjects}
use Rattle.laws_schedule.specs.safe.Objects.{HasCells, HasCell}
use Rattle.laws_strands.specs.stacks.Strands.{Placed}
use Rattle.serial_stack.specs.Steps.{Run}
use Rattle.serial_stack.specs.Layouts.{size_in, alloca_sizes, allocas_in, with_allocas, for_body, end_of, layout_of, frames_of}
use Rattle.serial_machine.specs.Safe.{HasCellsOf}
use Rattle.serial_machine.proofs.safe.Stacks.{at_path, IsOwner, AreOwners}
use Rattle.serial_machine.proofs.safe.Mirrors.{Mirrors}

sized_at : (xs : List Alloca) (a : ℕ) → size_in (map (λ (x : Alloca). x.cells) xs) a ≡ alloca_cells (slice_get xs a)
sized_at [] a = refl
sized_at (x ∷ xs) zero = refl
sized_at (x ∷ xs) (suc a) = sized_at xs a

alloca_size : (prog : Program) (function a : ℕ) → size_in (alloca_sizes prog function) a ≡ cells_of prog function (object.Alloca (record { 0 = a }))
alloca_size prog function a = by (slice_get prog.functions function)
  where
    by : (o : Option Function) → size_in (allocas_in o) a ≡ cells_in prog o (object.Alloca (record { 0 = a }))
    by None = refl
    by (Some f) = sized_at f.allocas a

module _ (p : Path) (sizes : List ℕ) (home : ℕ) (l : Layout) where
  abbrev on : Role → Layout
  on role = for_body role (with_allocas p sizes home l) l

  own_cells : (role : Role) (h owner : Path) (a n : ℕ) → IsOwner role h p → h ≡ p → same_path p owner ≡ true → n ≤ size_in sizes a → n ≤ (on role).cells (Local owner a)
  own_cells Body h owner a n low same is le = subst (λ (b : Bool). n ≤ cond b (size_in sizes a) (l.cells (Local owner a))) (sym is) le
  own_cells (Child r c) h owner a n low same is le = let e : length h ≡ length p = ap (λ (q : Path). length q) same in absurd (omega (arith, low, e))

  older_cells : (role : Role) (owner : Path) (a n : ℕ) → same_path p owner ≡ false → n ≤ l.cells (Local owner a) → n ≤ (on role).cells (Local owner a)
  older_cells Body owner a n is le = subst (λ (b : Bool). n ≤ cond b (size_in sizes a) (l.cells (Local owner a))) (sym is) le
  older_cells (Child r c) owner a n is le = le

  shared_cells : (role : Role) (g n : ℕ) → n ≤ l.cells (Shared g) → n ≤ (on role).cells (Shared g)
  shared_cells Body g n le = le
  shared_cells (Child r c) g n le = le

module _ (globals : List ℕ) (prog : Program) where
  global_laid : (below : List Placed) (g n : ℕ) → n ≤ size_in globals g → n ≤ (layout_of globals prog below).cells (Shared g)
  global_laid [] g n le = le
  global_laid (x ∷ below) g n le =
      shared_cells x.path (alloca_sizes prog x.frame.function) (end_of globals prog below) (layout_of globals prog below) x.frame.role g n (global_laid below g n le)

  alloca_laid : (below : List Placed) → AreOwners below → (owner : Path) (a n : ℕ) (f : Frame) → at_path below owner ≡ Some f → f.home ≡ owner →
      n ≤ cells_of prog f.function (object.Alloca (record { 0 = a })) → n ≤ (layout_of globals prog below).cells (Local owner a)
  alloca_laid [] own owner a n f e home le = absurd (cc)
  alloca_laid (g ∷ below) own owner a n f e home le = by (same_path g.path owner) refl e (λ k. alloca_laid below own.1 owner a n f k home le)
    where
      by : (b : Bool) → same_path g.path owner ≡ b → cond b (Some g.frame) (at_path below owner) ≡ Some f →
          (at_path below owner ≡ Some f → n ≤ (layout_of globals prog below).cells (Local owner a)) → n ≤ (layout_of globals prog (g ∷ below)).cells (Local owner a)
      by true is k rest =
          let same : g.frame ≡ f = cc in
          let at_home : g.frame.home ≡ g.path = ap (λ (x : Frame). x.home) same ∙ home ∙ sym (same_path_is g.path owner is) in
          let function : f.function ≡ g.frame.function = sym (ap (λ (x : Frame). x.function) same) in
          let declared : n ≤ cells_of prog g.frame.function (object.Alloca (record { 0 = a })) =
          subst (λ k. n ≤ cells_of prog k (object.Alloca (record { 0 = a }))) function le in
          own_cells g.path (alloca_sizes prog g.frame.function) (end_of globals prog below) (layout_of globals prog below) g.frame.role g.frame.home owner a n own.0 at_home is
          (subst (λ (k : ℕ). n ≤ k) (sym (alloca_size prog g.frame.function a)) declared)
      by false is k rest =
          older_cells g.path (alloca_sizes prog g.frame.function) (end_of globals prog below) (layout_of globals prog below) g.frame.role owner a n is (rest k)

  module _ (covers : HasCellsOf prog globals) (named : IsNamed prog) (objects : NamesObjects prog) (s : Run) (m : Mirrors prog named objects s) where
    laid : (n : ℕ) (o : Object) → HasCells prog m.state s.path n o → n ≤ (layout_of globals prog (frames_of s)).cells o
    laid n (Shared g) h = global_laid (frames_of s) g n (let c = covers g in omega (arith, h, c))
    laid n (Local owner a) h = alloca_laid (frames_of s) m.owners owner a n h.frame (sym (m.frames owner) ∙ h.lives) h.owns h.cells

    pub cell_laid : (c : Cell) → HasCell prog m.state s.path c → IsIn (layout_of globals prog (frames_of s)) c
    cell_laid c h = let l : suc c.index ≤ (layout_of globals prog (frames_of s)).cells c.object = laid (suc c.index) c.object h in omega (arith, l)
