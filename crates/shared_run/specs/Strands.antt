-- A worker's strand, and what the calls of a board do with it.
use Rattle.std.specs.Prelude.{◌≡◌, ◌≤◌, ◌↔◌, ◌+◌, ⊤, ℕ, ℤ, min, replicate, IsSome, Option, Some, None, Bool}
use Rattle.std.specs.Prelude.{true, false, List, reverse}
use Rattle.program.specs.declared.function.Program.{Program}
use Rattle.program.specs.declared.instruction.Terminator.TheVariants as terminator
use Rattle.semantics.specs.Frames.{Item, Ends}
use Rattle.frame.specs.declared.event.Event.TheVariants.{Step}
use Rattle.schedule_core.specs.frame_engine.declared.activation.Places.{Places}
use Rattle.schedule_core.specs.frame_engine.Flat.{cell_in}
use Rattle.schedule_core.specs.strand.strand_pages.Logs.{filled_log, page_around}
use Rattle.schedule_core.specs.strand.strand_pages.Tables.{log_of}
use Rattle.schedule_core.specs.strand.Along.{IsUnderWay}
use Rattle.schedule_core.specs.strand.Boards.{NeedsBoard}
use Rattle.schedule_core.specs.strand.Going.{IsGoing}
use Rattle.schedule_core.specs.strand.Leaving.{made_on_top}
use Rattle.schedule_core.specs.strand.Spans.{next_item, next_place}
use Rattle.schedule_workers.specs.Starts.{ArePlaces}
use Rattle.schedule_core.specs.strand.declared.strand.Strand.{Strand}
use Rattle.schedule_core.specs.strand.declared.going.StrandPause.{StrandPause}
use Rattle.schedule_core.specs.strand.declared.going.StrandPause.TheVariants as pause
use Rattle.schedule_core.specs.declared.ready.Ticket.{Ticket}
use Rattle.schedule_core.specs.Strands.{HasRoomFor, HasSettled, IsBegun, IsStrandOf, StrandFits}
use Rattle.schedule_core.specs.ReadyBelow.{AreReadyBelow}
use Rattle.schedule_core.specs.FrameStrands.{TakesSteps}
use Rattle.shared_run.specs.declared.answers.Loaded.{Loaded}
use Rattle.shared_run.specs.declared.answers.Loaded.TheVariants as loaded
use Rattle.shared_run.specs.declared.answers.Published.{Published}
use Rattle.shared_run.specs.declared.answers.Published.TheVariants as published
use Rattle.shared_run.specs.declared.frames.Top.{Top}
use Rattle.shared_run.specs.declared.worker_strand.Standing.{Standing}
use Rattle.shared_run.specs.declared.worker_strand.Standing.TheVariants.{Blank, Going, Border, Full, Need, Spoilt}
use Rattle.shared_run.specs.Calls.{Appends, Same, Stays}
use Rattle.shared_run.specs.Story.{SeatView, Story, state_of}

-- the worker's frames outside of the board, and how they stand
pub record Apart : Type 0 where
  pub strand : Strand
  pub standing : Standing

-- it holds a frame
abbrev pub IsUp : Standing → Type 0
IsUp Blank = ⊥
IsUp Spoilt = ⊥
IsUp other = ⊤

-- What is kept of the strand where it stands so: a border is what only the board can do; where it is full, or needs a
-- cell, the next instruction is one of a cell for whose page there is no place, or of one that is not at hand
-- (`Stopped`).
abbrev pub Holds : Program → Places → Strand → Standing → Type 0
Holds prog places x Blank = HasRoomFor prog x
Holds prog places x Going = HasRoomFor prog x × ∥ IsUnderWay prog places x ∥₁
Holds prog places x Border = HasRoomFor prog x × ∥ IsUnderWay prog places x ∥₁ ×
    NeedsBoard prog places x (next_item prog x)
Holds prog places x Full = HasRoomFor prog x × ∥ IsGoing prog places x pause.Full ∥₁
Holds prog places x (Need at) = HasRoomFor prog x × ∥ IsGoing prog places x (pause.Need at) ∥₁
Holds prog places x Spoilt = ⊤

-- and of its frames, where they were written as a board takes them
abbrev pub IsBoxed : Program → Strand → Bool → Type 0
IsBoxed prog x false = ⊤
IsBoxed prog x true = IsStrandOf prog x

-- a reattach stands there
abbrev pub is_reattach : Option Item → Bool
is_reattach (Some (Ends (terminator.Reattach region continuation))) = true
is_reattach other = false

-- wherever the module's objects begin, the strand stands so
abbrev pub StandsSo : Program → Apart → Type 0
StandsSo prog y = (places : Places) × ArePlaces prog places × Holds prog places y.strand y.standing

-- It went on by so many instructions at most, and no further than a strand may. It did all of them where nothing stands
-- in its way, and else is told what does.
pub record GoesOnBy (count : ℕ) (x y : Apart) : Type 0 where
  pub within : y.strand.done ≤ x.strand.done + count
  pub short : y.strand.done ≤ 65536
  pub more : x.strand.done ≤ y.strand.done
  pub all : (y.standing ≡ Going) ↔ (y.strand.done ≡ min (x.strand.done + count) 65536)

-- how it stands at a pause
abbrev pub Onward : StrandPause → Standing → Type 0
Onward pause.Border s = s ≡ Border
Onward pause.Limit s = s ≡ Going
Onward pause.Full s = s ≡ Full
Onward (pause.Need at) s = s ≡ Need at

-- ---- what the board gives

-- the frame that the worker runs next, before its first instruction; or it holds none
abbrev pub Loads : Story → SeatView → Apart → Loaded → Type 0
Loads s p y loaded.Frame = (y.standing ≡ Going) × IsBegun s.stage p.worker y.strand
Loads s p y loaded.Idle = (¬ IsUp y.standing) × ((state_of s).hands p.worker ≡ None)
Loads s p y loaded.OutOfMemory = ¬ IsUp y.standing

-- it goes on with the page of the address, as the board has it
pub record IsFilled (s : Story) (at : ℤ) (x y : Apart) : Type 0 where
  pub there : IsSome (cell_in s.stage.run.cells.cells.items at)
  pub goes_on : y.standing ≡ Going
  pub only : y.strand ≡ record x.strand { cells = y.strand.cells }
  pub filled : log_of y.strand.cells.log ≡ filled_log (log_of x.strand.cells.log) at
      (page_around s.stage.run.cells.cells.items at)

-- the page of the cell that it needs; or there is none, or it needs none, and it is as it was
abbrev pub Fills : Story → Apart → Apart → Bool → Type 0
Fills s x y true = (at : ℤ) × (x.standing ≡ Need at) × IsFilled s at x y
Fills s x y false = (y ≡ x) × ((at : ℤ) → x.standing ≡ Need at → cell_in s.stage.run.cells.cells.items at ≡ None)

-- a page beside those that it needs, where it goes on; or it is as it was
abbrev pub FillsAhead : Story → ℤ → Apart → Apart → Bool → Type 0
FillsAhead s at x y true = (x.standing ≡ Going) × IsFilled s at x y
FillsAhead s at x y false = y ≡ x

-- no more than its frames' boxes were written
pub record IsSettled (x y : Apart) : Type 0 where
  pub standing : y.standing ≡ x.standing
  pub only : HasSettled x.strand y.strand

-- the frame that goes on stands there, and has made so many children
pub record IsTop (prog : Program) (x : Strand) (top : Top) : Type 0 where
  pub at : next_place prog x ≡ Some top.at
  pub made : top.made ≡ made_on_top x

-- ---- what is put on the board

-- it holds a frame, the seat's worker runs the base as it was loaded, and each cell that was read holds what was read
abbrev pub FitsBoard : Story → SeatView → Apart → Type 0
FitsBoard s p x = IsUp x.standing × StrandFits s.stage p.worker x.strand

-- its instructions as steps of the seat's worker, which are enabled one after the other, or nothing
abbrev pub Publishes : Apart → Story → Story → SeatView → SeatView → Published → Type 0
Publishes x s t p q published.Done =
    FitsBoard s p x × Appends (replicate x.strand.done (Step p.worker)) s t p q ×
    TakesSteps s.stage t.stage p.worker x.strand.done
Publishes x s t p q published.Stranger = Same s t p q × ¬ FitsBoard s p x
Publishes x s t p q published.OutOfMemory = Stays s t p q

-- the tickets name, outermost first, the ready tasks whose tops are among so many frames below the one that the seat's
-- worker runs next
abbrev pub AreReadyTickets : Story → SeatView → ℕ → List Ticket → Type 0
AreReadyTickets s p levels tickets = AreReadyBelow s.stage (state_of s) p.worker levels (reverse tickets)
