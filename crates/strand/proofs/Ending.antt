-- The cells of a frame that is over.
use Rattle.std.proofs.Common.{◌≡◌, ℕ, List, refl, ap, sym, ◌∙◌, cond, ℤ, Bool, true, false, Option, Some, None}
use Rattle.semantics.specs.Paths.{Path}
use Rattle.semantics.specs.Cells.{Cell, owns}
use Rattle.semantics.specs.Effect.{no_adds}
use Rattle.semantics.specs.State.{clears}
use Rattle.frame_engine.specs.Shows.{IsIn, Layout, address}
use Rattle.serial_stack.specs.Layouts.{with_allocas}
use Rattle.serial_stack.proofs.Owners.{address_apart, in_apart, out_apart}
use Rattle.laws_strands.specs.stacks.Footprint.{Footprint, put, stored, with_writes}
use Rattle.strand.specs.CellsKept.{ShowsKept}
use Rattle.strand.specs.Layouts.{OwnsNone}
use Rattle.strand.specs.OwnCells.{own_cell}
use Rattle.strand.specs.declared.cells.StrandCells.{StrandCells}
use Rattle.strand.proofs.Logged.{off_logged}
use Rattle.strand.proofs.Over.{apart_of}
use Rattle.strand.proofs.Owned.{same_own}
use Rattle.strand_pages.specs.Tables.{log_of}

module _ (l k : Layout) (first : Cell → ℤ) (f : Footprint) (x : StrandCells) (p : Path) (sizes : List ℕ) (home : ℕ) (kept_in : (c : Cell) → IsIn l c → IsIn k c) (none : OwnsNone k p) where
  abbrev gone_footprint : Footprint
  gone_footprint = with_writes f (clears p) no_adds

  pub same_writes : (c : Cell) → owns p c.object ≡ false → gone_footprint.writes c ≡ f.writes c
  same_writes c e = ap (λ (t : Bool). stored (cond {A = Option (Option ℤ)} t (Some None) None) (f.writes c)) e

  pub cleared_kept : ShowsKept l (with_allocas p sizes home k) first f x → ShowsKept l k first gone_footprint x
  cleared_kept s = record {
    log = off_logged l f gone_footprint (log_of x.log) (λ c here. (refl, same_writes c (none c (kept_in c here)))) s.log;
    own = λ c out here.
        let away = apart_of p c.object (none c here) in
        same_own f gone_footprint c (first c) (own_cell x (address (with_allocas p sizes home k) c)) (own_cell x (address k c)) refl (same_writes c (none c here)) (ap (own_cell x) (sym (address_apart p sizes home k c away)))
        (s.own c out (in_apart p sizes home k c away here));
    gone = λ c out. from (owns p c.object) c refl out;
  }
    where
      from : (t : Bool) (c : Cell) → owns p c.object ≡ t → (IsIn k c → ⊥) → put (gone_footprint.writes c) (f.reads c) ≡ None
      from true c e out = ap (λ (t : Bool). put (stored (cond {A = Option (Option ℤ)} t (Some None) None) (f.writes c)) (f.reads c)) e
      from false c e out = ap (λ u. put u (f.reads c)) (same_writes c e) ∙ s.gone c (λ here. out (out_apart p sizes home k c (apart_of p c.object e) here))
