-- A strand whose frames' boxes were written stands as before; and what is seen of its frames.
use Rattle.std.proofs.Common.{◌≡◌, ℕ, refl, sym, ap, ◌∙◌, subst, Bool, true, false, List, Option, Some, None, replicate}
use Rattle.std.specs.List.{list_any}
use Rattle.program.specs.declared.function.Program.{Program}
use Rattle.program.specs.declared.instruction.Instruction.{Instruction}
use Rattle.program.specs.declared.instruction.Instruction.TheVariants as instruction
use Rattle.program.specs.declared.instruction.Terminator.{Terminator}
use Rattle.program.specs.declared.instruction.Terminator.TheVariants as terminator
use Rattle.semantics.specs.Frames.{Does, Ends, Item}
use Rattle.frame.specs.declared.event.Event.TheVariants.{Step}
use Rattle.schedule_core.specs.frame_engine.declared.activation.Places.{Places}
use Rattle.schedule_core.specs.declared.stage.Stage.{Stage}
use Rattle.schedule_core.specs.strand.Along.{IsUnderWay}
use Rattle.schedule_core.specs.strand.Boards.{NeedsBoard}
use Rattle.schedule_core.specs.strand.Going.{GoesStill}
use Rattle.schedule_core.specs.strand.Leaving.{is_detach, made_on_top}
use Rattle.schedule_core.specs.strand.Spans.{next_item, next_place, slot_item}
use Rattle.schedule_core.specs.strand.windows.declared.windows.Saved.{Saved}
use Rattle.schedule_core.specs.strand.declared.going.StrandPause.TheVariants as pause
use Rattle.schedule_core.specs.strand.declared.strand.Strand.{Strand}
use Rattle.schedule_core.specs.FrameStrands.{TakesSteps}
use Rattle.schedule_core.specs.Strands.{HasRoomFor, HasSettled, IsStrandOf, StrandFits}
use Rattle.shared_run.specs.declared.answers.Published.{Published}
use Rattle.shared_run.specs.declared.answers.Published.TheVariants as published
use Rattle.shared_run.specs.declared.frames.Top.{Top}
use Rattle.shared_run.specs.declared.worker_strand.Standing.{Standing}
use Rattle.shared_run.specs.declared.worker_strand.Standing.TheVariants.{Blank, Going, Border, Full, Need, Spoilt}
use Rattle.shared_run.specs.Calls.{Appends, Stays}
use Rattle.shared_run.specs.Story.{SeatView, Story}
use Rattle.shared_run.specs.Strands.{Apart, FitsBoard, Holds, IsBoxed, IsSettled, IsTop, IsUp, Publishes, is_reattach}
use Rattle.shared_run.proofs.Calls.{stays_same}

-- ---- it stands as before

-- with the boxes of another
abbrev boxed : Strand → Strand → Strand
boxed x y = record x { top = y.top; below = y.below; spare = y.spare }

board_boxed : (prog : Program) (places : Places) (x y : Strand) (o : Option Item) → NeedsBoard prog places x o → NeedsBoard prog places (boxed x y) o
board_boxed prog places x y None h = absurd h
board_boxed prog places x y (Some (Does (instruction.Call r f a))) h = h
board_boxed prog places x y (Some (Does (instruction.StoreZeros count name))) h = h
board_boxed prog places x y (Some (Does (instruction.Binary r o w a b))) h = absurd h
board_boxed prog places x y (Some (Does (instruction.Compare r o w a b))) h = absurd h
board_boxed prog places x y (Some (Does (instruction.Convert r c a))) h = absurd h
board_boxed prog places x y (Some (Does (instruction.Alloca r a))) h = absurd h
board_boxed prog places x y (Some (Does (instruction.ElementPointer r o i))) h = absurd h
board_boxed prog places x y (Some (Does (instruction.Load r a))) h = absurd h
board_boxed prog places x y (Some (Does (instruction.Store a b))) h = absurd h
board_boxed prog places x y (Some (Does (instruction.AtomicAdd a b))) h = absurd h
board_boxed prog places x y (Some (Does (instruction.StartRegion r))) h = absurd h
board_boxed prog places x y (Some (Ends (terminator.Jump target))) h = absurd h
board_boxed prog places x y (Some (Ends (terminator.Branch test one other))) h = absurd h
board_boxed prog places x y (Some (Ends (terminator.Switch w a default cases))) h = absurd h
board_boxed prog places x y (Some (Ends (terminator.Return v))) h = h
board_boxed prog places x y (Some (Ends (terminator.Detach region body continuation))) h = absurd h
board_boxed prog places x y (Some (Ends (terminator.Reattach region continuation))) h = h
board_boxed prog places x y (Some (Ends (terminator.Sync region target))) h = h

module _ (prog : Program) (places : Places) (x y : Strand) (only : HasSettled x y) where
  room_settled : HasRoomFor prog x → HasRoomFor prog y
  room_settled h = subst (λ (z : Strand). HasRoomFor prog z) (sym only) h

  pub holds_settled : (s : Standing) → ∥ IsUnderWay prog places y ∥₁ → GoesStill prog places x y → Holds prog places x s → Holds prog places y s
  holds_settled Blank way still h = room_settled h
  holds_settled Going way still h = (room_settled h.0, way)
  holds_settled Border way still (room, old, board) =
      (room_settled room, way, subst (λ (z : Strand). NeedsBoard prog places z (next_item prog z)) (sym only) (board_boxed prog places x y (next_item prog x) board))
  holds_settled Full way still h = (room_settled h.0, still pause.Full h.1)
  holds_settled (Need at) way still h = (room_settled h.0, still (pause.Need at) h.1)
  holds_settled Spoilt way still h = tt

pub has_room_up : (prog : Program) (places : Places) (x : Strand) (s : Standing) → Holds prog places x s → IsUp s → HasRoomFor prog x
has_room_up prog places x Blank h up = absurd up
has_room_up prog places x Going h up = h.0
has_room_up prog places x Border h up = h.0
has_room_up prog places x Full h up = h.0
has_room_up prog places x (Need at) h up = h.0
has_room_up prog places x Spoilt h up = absurd up

pub strand_of : (own code : Program) (x : Strand) → own ≡ code → IsStrandOf own x → IsStrandOf code x
strand_of own code x is h = subst (λ (q : Program). IsStrandOf q x) is h

-- where its frames were written
pub written_strand : (own code : Program) (x : Strand) (written : Bool) → own ≡ code → written ≡ true → IsBoxed own x written → IsStrandOf code x
written_strand own code x true is so h = strand_of own code x is h
written_strand own code x false is so h = absurd cc

-- ---- on the board

fits_boxed : (stage : Stage) (worker : ℕ) (x y : Strand) → StrandFits stage worker (boxed x y) → StrandFits stage worker x
fits_boxed stage worker x y (slot, f) = (
  slot,
  record { node = f.node; hand = f.hand; stands = f.stands; path = f.path; frame = f.frame; childless = f.childless; reads = f.reads; free = f.free },
)

boxed_fits : (stage : Stage) (worker : ℕ) (x y : Strand) → StrandFits stage worker x → StrandFits stage worker (boxed x y)
boxed_fits stage worker x y (slot, f) = (
  slot,
  record { node = f.node; hand = f.hand; stands = f.stands; path = f.path; frame = f.frame; childless = f.childless; reads = f.reads; free = f.free },
)

pub publishes_settled : (x y : Apart) (s t : Story) (p q : SeatView) (r : Published) → IsSettled x y → Publishes y s t p q r → Publishes x s t p q r
publishes_settled x y s t p q published.Done is (fits, appends, takes) =
    let done : y.strand.done ≡ x.strand.done = ap (λ (z : Strand). z.done) is.only in (
      (
        subst (λ (z : Standing). IsUp z) is.standing fits.0,
        fits_boxed s.stage p.worker x.strand y.strand (subst (λ (z : Strand). StrandFits s.stage p.worker z) is.only fits.1),
      ),
      subst (λ (n : ℕ). Appends (replicate n (Step p.worker)) s t p q) done appends,
      subst (λ (n : ℕ). TakesSteps s.stage t.stage p.worker n) done takes,
    )
publishes_settled x y s t p q published.Stranger is (same, off) = (
  same,
  λ (fits : FitsBoard s p x). off (
    subst (λ (z : Standing). IsUp z) (sym is.standing) fits.0,
    subst (λ (z : Strand). StrandFits s.stage p.worker z) (sym is.only) (boxed_fits s.stage p.worker x.strand y.strand fits.1),
  ),
)
publishes_settled x y s t p q published.OutOfMemory is h = h

pub stays_so : (s : Story) (p : SeatView) → Stays s s p p
stays_so s p = stays_same s s p p (refl, refl)

-- ---- what is seen

pub ready_at : (result : Bool) (own code : Program) (saved : List Saved) → own ≡ code → result ≡ list_any (λ s. is_detach (slot_item own s.at)) saved →
    result ≡ list_any (λ s. is_detach (slot_item code s.at)) saved
ready_at result own code saved is e = subst (λ (q : Program). result ≡ list_any (λ s. is_detach (slot_item q s.at)) saved) is e

-- by what comes next
pub none_by_step : (own code : Program) (x : Strand) (step : Instruction) → own ≡ code → next_item own x ≡ Some (Does step) → false ≡ is_reattach (next_item code x)
none_by_step own code x step is e = subst (λ (q : Program). false ≡ is_reattach (next_item q x)) is (sym (ap is_reattach e))

pub next_by_end : (result : Bool) (own code : Program) (x : Strand) (last : Terminator) → own ≡ code → next_item own x ≡ Some (Ends last) → result ≡ is_reattach (Some (Ends last)) → result ≡ is_reattach (next_item code x)
next_by_end result own code x last is e r = subst (λ (q : Program). result ≡ is_reattach (next_item q x)) is (r ∙ sym (ap is_reattach e))

pub is_top : (own code : Program) (x : Strand) (top : Top) → own ≡ code → next_place own x ≡ Some top.at → top.made ≡ made_on_top x → IsTop code x top
is_top own code x top is at made = record { at = subst (λ (q : Program). next_place q x ≡ Some top.at) is at; made = made }
