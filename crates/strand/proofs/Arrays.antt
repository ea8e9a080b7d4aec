-- Cells for which there is a place: an array store to them is not refused.
use Rattle.std.proofs.Common.{◌≡◌, ◌≢◌, ◌∙◌, ℕ, ◌<◌, zero, suc, refl, ap, sym, subst, Bool, true, false, ℤ, pos, ◌+ℤ◌, Option, Some, None}
use Rattle.std.specs.Prelude.{IsSome}
use Rattle.std.specs.Ordering.{int_eq}
use Rattle.std.proofs.lemmas.Bool.Decides.{Decides-int_eq}
use Rattle.semantics.specs.Arithmetic.{wrapped}
use Rattle.syntax.specs.declared.operator.Width.TheVariants.{Bits64}
use Rattle.program.specs.declared.function.Program.{Program}
use Rattle.frame_engine.specs.Access.{Stores}
use Rattle.frame_engine.specs.Accesses.{Zeroed, ZeroingRefused}
use Rattle.frame_engine.specs.Shows.{Layout}
use Rattle.frame_engine.specs.declared.activation.Places.{Places}
use Rattle.strand.specs.frame_strand.declared.cells.Change.TheVariants.{Stored}
use Rattle.strand.specs.frame_strand.declared.cells.CellStop.{CellStop}
use Rattle.strand_pages.specs.Logs.{IsWider, Log, is_open}
use Rattle.strand_pages.specs.Tables.{Table, log_of}
use Rattle.strand_pages.proofs.Opening.{has_place_open, open_changed}
use Rattle.laws_strands.specs.stacks.Strands as strands
use Rattle.strand.specs.Layouts.{Segment}
use Rattle.strand.specs.OwnCells.{CanStore, CellsDo, CellsRefuse, DoBy, RefuseBy, own_cell}
use Rattle.strand.specs.Spans.{ShowsOwn, ShowsSpan}
use Rattle.strand.specs.Steps.{GoesOn}
use Rattle.strand.specs.declared.cells.StrandCells.{StrandCells}
use Rattle.strand.specs.declared.strand.Strand.{Strand}
use Rattle.strand.proofs.Logged.{wider_log}
use Rattle.strand.proofs.Shown.{with_cells}

-- ---- pages that were put in use

wider_own : (l : Layout) (prog : Program) (s : Segment) (d : strands.Strand) (b : StrandCells) (end : ℕ) (log : Table) → IsWider (log_of b.log) (log_of log) → ShowsOwn l prog s d b end → ShowsOwn l prog s d (record b { log = log }) end
wider_own l prog s d b end log wide h = record {
  segment = h.segment;
  first = h.first;
  kept = record { log = wider_log l d.footprint (log_of b.log) (log_of log) wide h.kept.log; own = h.kept.own; gone = h.kept.gone };
  met = h.met;
  end_is = h.end_is;
  room = h.room;
}

pub wider_shown : (l : Layout) (prog : Program) (places : Places) (s : Segment) (d : strands.Strand) (x : Strand)
    (log : Table) → IsWider (log_of x.cells.log) (log_of log) → ShowsSpan l prog places s d x →
    ShowsSpan l prog places s d (record x { cells = record x.cells { log = log } })
wider_shown l prog places s d x log wide h =
    with_cells l prog places s d x (record x.cells { log = log }) h
    (wider_own l prog s d x.cells x.end log wide h.own)

pub wider_goes : (prog : Program) (places : Places) (x : Strand) (log : Table) → IsWider (log_of x.cells.log) (log_of log) → GoesOn prog places x (record x { cells = record x.cells { log = log } })
wider_goes prog places x log wide l s d is h can =
    record { strand = d; is = is; base = refl; shown = with_cells l prog places s d x (record x.cells { log = log }) h (wider_own l prog s d x.cells x.end log wide h.own) }

-- ---- a store to a cell that can be stored to is not refused

either : (P : Type 0) (a b : ℤ) (t : Bool) → int_eq a b ≡ t → (a ≡ b → P) → (a ≢ b → P) → P
either P a b true e same other = same ((Decides-int_eq a b).0 e)
either P a b false e same other = other (λ q. let h : int_eq a b ≡ true = (Decides-int_eq a b).1 q in absurd cc)

record Keeps (x c : StrandCells) : Type 0 where
  own : (b : ℤ) → IsSome (own_cell x b) → IsSome (own_cell c b)
  in_use : (b : ℤ) → is_open (log_of x.log) b ≡ true → is_open (log_of c.log) b ≡ true

keeps_by : (o : Option ℤ) (x c : StrandCells) (a z : ℤ) → own_cell x a ≡ o → DoBy o x (Stores a z) c → Keeps x c
keeps_by (Some v) x c a z e done = record {
  own = λ b some. either (IsSome (own_cell c b)) b a (int_eq b a) refl (λ q. subst IsSome (sym (ap (own_cell c) q ∙ done.here)) refl) (λ q. subst IsSome (sym (done.others b q)) some);
  in_use = λ b h. subst (λ (t : Table). is_open (log_of t) b ≡ true) (sym done.log) h;
}
keeps_by None x c a z e done = record {
  own = λ b some. subst IsSome (sym (ap (λ (y : StrandCells). own_cell y b) done.1)) some;
  in_use = λ b h. subst (λ (y : Log). is_open y b ≡ true) (sym done.0.is) (open_changed (log_of x.log) a (Stored z) b h);
}

zeroed_keeps : (at : ℤ) (x : StrandCells) (n : ℕ) (c : StrandCells) → Zeroed CellsDo at x n c → Keeps x c
zeroed_keeps at x zero c same = record { own = λ b some. subst IsSome (sym (ap (λ (y : StrandCells). own_cell y b) same)) some; in_use = λ b h. subst (λ (y : StrandCells). is_open (log_of y.log) b ≡ true) (sym same) h }
zeroed_keeps at x (suc n) c (mid, before, done) =
    let w = zeroed_keeps at x n mid before in
    let a = wrapped Bits64 (at +ℤ pos n) in
    let t = keeps_by (own_cell mid a) mid c a (pos 0) refl done in
    record { own = λ b some. t.own b (w.own b some); in_use = λ b h. t.in_use b (w.in_use b h) }

refuses_open : (o : Option ℤ) (x c : StrandCells) (a : ℤ) (stop : CellStop) → own_cell c a ≡ o → Keeps x c → CanStore x a → RefuseBy o c (Stores a (pos 0)) stop → ⊥
refuses_open (Some v) x c a stop e keeps can why = why
refuses_open None x c a stop e keeps can why = from (own_cell x a) refl
  where
    from : (p : Option ℤ) → own_cell x a ≡ p → ⊥
    from (Some v) is = let some = subst IsSome e (keeps.own a (subst IsSome (sym is) refl)) in cc
    from None is = let place = has_place_open (log_of c.log) a (keeps.in_use a (can is)) in let both : true ≡ false = sym place ∙ why.none in cc

pub never_refused : (at : ℤ) (count : ℕ) (x c : StrandCells) (stop : CellStop) → ((i : ℕ) → i < count → CanStore x (wrapped Bits64 (at +ℤ pos i))) → ZeroingRefused CellsDo CellsRefuse at count x c stop → ⊥
never_refused at count x c stop can why =
    let a = wrapped Bits64 (at +ℤ pos why.number) in
    refuses_open (own_cell c a) x c a stop refl (zeroed_keeps at x why.number c why.before) (can why.number why.low) why.last
