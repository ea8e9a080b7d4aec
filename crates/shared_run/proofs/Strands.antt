-- What a strand keeps, and what a publication answers.
use Rattle.std.proofs.Common.{◌≡◌, ◌≢◌, ℕ, zero, suc, ℤ, refl, sym, ap, ◌∙◌, subst, length, Bool, true, false, List, [], ◌∷◌, Option, Some, None}
use Rattle.std.specs.Prelude.{◌↔◌, IsSome}
use Rattle.std.proofs.Math.Logic.{∥∥₁_map}
use Rattle.program.specs.declared.function.Program.{Program}
use Rattle.schedule_workers.specs.Starts.{ArePlaces}
use Rattle.schedule_core.specs.frame_engine.declared.activation.Places.{Places}
use Rattle.schedule_core.specs.frame_engine.Flat.{cell_in}
use Rattle.schedule_core.specs.strand.strand_pages.Logs.{filled_log, page_around}
use Rattle.schedule_core.specs.strand.strand_pages.Tables.{log_of}
use Rattle.schedule_core.specs.strand.Along.{IsUnderWay}
use Rattle.schedule_core.specs.strand.Boards.{NeedsBoard}
use Rattle.schedule_core.specs.strand.Going.{IsGoing}
use Rattle.schedule_core.specs.strand.Spans.{next_item}
use Rattle.schedule_core.specs.strand.declared.strand.Strand.{Strand}
use Rattle.schedule_core.specs.strand.declared.going.StrandPause.{StrandPause}
use Rattle.schedule_core.specs.strand.declared.going.StrandPause.TheVariants as pause
use Rattle.schedule_core.specs.Strands.{HasRoomFor}
use Rattle.shared_run.specs.declared.worker_strand.Standing.{Standing}
use Rattle.shared_run.specs.declared.worker_strand.Standing.TheVariants.{Blank, Going, Border, Full, Need, Spoilt}
use Rattle.shared_run.specs.Strands.{Apart, FillsAhead, Holds, IsUp, Onward, StandsSo}
use Rattle.shared_run.specs.Story.{Story}

module _ (prog : Program) (places : Places) (x : Strand) where
  pub under_way : (s : Standing) → Holds prog places x s → IsUp s → ∥ IsUnderWay prog places x ∥₁
  under_way Blank h up = absurd up
  under_way Going h up = h.1
  under_way Border h up = h.1
  under_way Full h up = ∥∥₁_map h.1 (λ g. g.way)
  under_way (Need at) h up = ∥∥₁_map h.1 (λ g. g.way)
  under_way Spoilt h up = absurd up

  pub has_room : (s : Standing) → Holds prog places x s → s ≢ Spoilt → HasRoomFor prog x
  has_room Blank h off = h
  has_room Going h off = h.0
  has_room Border h off = h.0
  has_room Full h off = h.0
  has_room (Need at) h off = h.0
  has_room Spoilt h off = absurd (off refl)

  -- at a pause
  pub holds_onward : (r : StrandPause) (s : Standing) → Onward r s → HasRoomFor prog x → (r ≡ pause.Border → NeedsBoard prog places x (next_item prog x)) → ∥ IsGoing prog places x r ∥₁ → Holds prog places x s
  holds_onward pause.Border s is room board going = subst (λ y. Holds prog places x y) (sym is) (room, ∥∥₁_map going (λ g. g.way), board refl)
  holds_onward pause.Limit s is room board going = subst (λ y. Holds prog places x y) (sym is) (room, ∥∥₁_map going (λ g. g.way))
  holds_onward pause.Full s is room board going = subst (λ y. Holds prog places x y) (sym is) (room, going)
  holds_onward (pause.Need at) s is room board going = subst (λ y. Holds prog places x y) (sym is) (room, going)

-- wherever the module's objects begin, a strand that holds stands so
pub stands_so : (prog code : Program) (places : Places) (y : Apart) → prog ≡ code → ArePlaces prog places → Holds prog places y.strand y.standing → StandsSo code y
stands_so prog code places y is are holds = subst (λ (q : Program). StandsSo q y) is (places, are, holds)

-- it can go on just where it did all that it was to do
pub goes_at : (r : StrandPause) (s : Standing) (n limit : ℕ) → Onward r s → (r ≡ pause.Limit) ↔ (n ≡ limit) → (s ≡ Going) ↔ (n ≡ limit)
goes_at pause.Border s n limit is at = (λ e. absurd (let h : Border ≡ Going = sym is ∙ e in cc), λ e. absurd (let h : pause.Border ≡ pause.Limit = at.1 e in cc))
goes_at pause.Limit s n limit is at = (λ e. at.0 refl, λ e. is)
goes_at pause.Full s n limit is at = (λ e. absurd (let h : Full ≡ Going = sym is ∙ e in cc), λ e. absurd (let h : pause.Full ≡ pause.Limit = at.1 e in cc))
goes_at (pause.Need a) s n limit is at = (λ e. absurd (let h : Need a ≡ Going = sym is ∙ e in cc), λ e. absurd (let h : pause.Need a ≡ pause.Limit = at.1 e in cc))

-- ---- a page that is given ahead

pub holds_going : (prog : Program) (places : Places) (x : Strand) (s : Standing) → s ≡ Going → HasRoomFor prog x → ∥ IsUnderWay prog places x ∥₁ → Holds prog places x s
holds_going prog places x s is room way = subst (λ y. Holds prog places x y) (sym is) (room, way)

pub filled_ahead : (s : Story) (at : ℤ) (x y : Apart) (page : List ℤ) (done : Bool) → page ≡ page_around s.stage.run.cells.cells.items at → IsSome (cell_in s.stage.run.cells.cells.items at) →
    (done ≡ true → (x.standing ≡ Going) × (y.standing ≡ Going)) → (done ≡ true → y.strand ≡ record x.strand { cells = y.strand.cells }) →
    (done ≡ true → log_of y.strand.cells.log ≡ filled_log (log_of x.strand.cells.log) at page) → (done ≡ false → y ≡ x) → FillsAhead s at x y done
filled_ahead s at x y page true is there goes only filled same = (
  (goes refl).0,
  record { there = there; goes_on = (goes refl).1; only = only refl; filled = filled refl ∙ ap (λ values. filled_log (log_of x.strand.cells.log) at values) is },
)
filled_ahead s at x y page false is there goes only filled same = same refl
