-- What taking a strand over asks for and keeps, from what its type and its caller say.
use Rattle.std.proofs.Common.{◌≡◌, ◌≢◌, ℕ, suc, ◌+◌, ◌<◌, length, Option, Some, None, true, refl, sym, ◌∙◌, subst}
use Rattle.std.specs.Prelude.{IsTrue, slice_get}
use Rattle.std.proofs.Math.Logic.{∥∥₁_elim, ∥∥₁_map, ∥∥₁_map₂}
use Rattle.std.proofs.Props.{props}
use Rattle.program.specs.declared.function.Program.{Program}
use Rattle.cactus.specs.declared.node.Node.{Node}
use Rattle.cactus.specs.Frames.{Lives, node_at}
use Rattle.frame_engine.specs.Border.{IsBorderItem}
use Rattle.frame_engine.specs.Flat.{is_cell}
use Rattle.frame_engine.specs.declared.activation.Places.{Places}
use Rattle.frame_strand.specs.Along.{IsGoing}
use Rattle.frame_strand.specs.declared.cells.Written.{Written}
use Rattle.frame_strand.specs.declared.outside.FrameStrand.{FrameStrand}
use Rattle.frame_strand.specs.declared.standing.FrameStrandPause.{FrameStrandPause}
use Rattle.frame_strand.specs.declared.standing.FrameStrandPause.TheVariants.{Blank, Border, Full, Limit, Need}
use Rattle.schedule_workers.specs.declared.activation.Activation.{Activation}
use Rattle.schedule_workers.specs.declared.run.Run.{Run}
use Rattle.semantics.specs.Events.{Step}
use Rattle.schedule_workers.specs.Events.{LeavesStalls}
use Rattle.schedule_workers.specs.Going.{DoesStep, StandsSafely}
use Rattle.schedule_workers.specs.RunShown.{item_here}
use Rattle.schedule_commit.specs.Absorbing.{DoesSteps, KeepsHand, LeavesStallsBy, StandsAlone, steps_in}
use Rattle.schedule_commit.specs.Fitting.{FitsRun}
use Rattle.schedule_commit.specs.Putting.{IsPut}
use Rattle.schedule_commit.proofs.Fitted.{as_many, fits_at, room, within}
use Rattle.schedule_commit.proofs.Bordering.{item_border}
use Rattle.schedule_commit.proofs.Goes.{border_stands, does_more, does_steps, hands_stay, keeps_hand, leaves_stalls, stalls_more, stands_then}

-- short of a border the strand's instructions are all
pub steps_before : (pause : Option FrameStrandPause) (done : ℕ) → pause ≢ Some Border → steps_in pause done ≡ done
steps_before None done off = refl
steps_before (Some Blank) done off = refl
steps_before (Some Border) done off = absurd (off refl)
steps_before (Some Limit) done off = refl
steps_before (Some Full) done off = refl
steps_before (Some (Need at)) done off = refl

-- ---- what the strand's type keeps

pub going_of : (x : FrameStrand) (prog : Program) (places : Places) → x.program.now ≡ prog → x.places.now ≡ places → x.pause ≢ Some Blank → ∥ IsGoing prog places x.course x.pause ∥₁
going_of x prog places same also off =
    ∥∥₁_map x.kept (λ h. subst (λ (p : Program). IsGoing p places x.course x.pause) same (subst (λ (q : Places). IsGoing x.program.now q x.course x.pause) also (h.going off)))

-- one that stands at a border is not blank
pub going_at : (x : FrameStrand) (prog : Program) (places : Places) → x.program.now ≡ prog → x.places.now ≡ places → x.pause ≡ Some Border → ∥ IsGoing prog places x.course x.pause ∥₁
going_at x prog places same also border = going_of x prog places same also (λ blank. (let e : Some Border ≡ Some Blank = sym border ∙ blank in cc))

-- ---- what putting it asks for

module _ (prog : Program) (places : Places) (k : Run) (worker slot : ℕ) (x : FrameStrand) (fits : FitsRun k worker x slot) (going : ∥ IsGoing prog places x.course x.pause ∥₁) (safe : ∥ StandsAlone prog places k ∥₁) where
  pub put_lives : Lives k.cactus slot
  put_lives = rw fits.stands refl

  pub put_registers : (n : Node Activation) → node_at k.cactus slot ≡ Some n → length x.course.present.registers.items ≡ length n.frame.frame.registers.items
  put_registers n stands =
      ∥∥₁_elim going (hlevel props) (λ goes. ∥∥₁_elim safe (hlevel props) (λ s. as_many prog places k worker slot x (fits_at k worker slot x fits n stands) goes s.machine s.shown s.safe s.alone))

  pub put_within : (i : ℕ) (w : Written) → slice_get x.course.cells.writes i ≡ Some w → IsTrue (is_cell k.cells.cells.items w.at)
  put_within i w at = ∥∥₁_elim going (hlevel props) (λ goes. ∥∥₁_elim safe (hlevel props) (λ s. within prog places k worker slot x fits goes s.machine s.shown s.safe s.alone i w at))

  pub put_room : k.instructions + x.course.done < 18446744073709551616
  put_room = ∥∥₁_elim going (hlevel props) (λ goes. ∥∥₁_elim safe (hlevel props) (λ s. room prog places k worker slot x fits goes s.machine s.shown s.safe s.alone))

-- ---- what is so whichever strand of the definitions it is

keeps_hand_prop : (prog : Program) (places : Places) (k : Run) (worker : ℕ) (x : FrameStrand) → IsProp (KeepsHand prog places k worker x)
keeps_hand_prop prog places k worker x = hlevel props

stalls_prop : (prog : Program) (places : Places) (k new : Run) (worker n : ℕ) → IsProp (LeavesStallsBy prog places k new worker n)
stalls_prop prog places k new worker n = hlevel props

module _ (prog : Program) (places : Places) (k : Run) (worker slot : ℕ) (x : FrameStrand) (fits : FitsRun k worker x slot) (going : ∥ IsGoing prog places x.course x.pause ∥₁) where
  pub hand_stays : KeepsHand prog places k worker x
  hand_stays = ∥∥₁_elim going (keeps_hand_prop prog places k worker x) (λ goes. keeps_hand prog places k worker slot x fits goes)

  module _ (new : Run) (left : x.course.done ≡ 0 → new ≡ k) (put : x.course.done ≢ 0 → IsPut k new slot x) where
    pub went_does : ∥ DoesSteps prog places k new worker x.course.done ∥₁
    went_does = ∥∥₁_map going (λ goes. does_steps prog places k new worker slot x left put fits goes)

    pub went_stalls : LeavesStallsBy prog places k new worker x.course.done
    went_stalls = ∥∥₁_elim going (stalls_prop prog places k new worker x.course.done) (λ goes. leaves_stalls prog places k new worker slot x left put fits goes)

    hands : new.hands ≡ k.hands
    hands = hands_stay prog places k new worker slot x left put

    pub went_stands : ∥ StandsAlone prog places k ∥₁ → StandsSafely prog places new
    went_stands safe = ∥∥₁_map₂ went_does safe (λ does s. stands_then prog places k new worker x.course.done does hands s)

    pub went_border : ∥ StandsAlone prog places k ∥₁ → x.pause ≡ Some Border → (n : Node Activation) → node_at new.cactus slot ≡ Some n → IsBorderItem (item_here prog n.frame.frame)
    went_border safe border n stands =
        item_border (item_here prog n.frame.frame)
        (∥∥₁_elim going (hlevel props) (λ goes. ∥∥₁_elim safe (hlevel props) (λ s.
        border_stands prog places k new worker slot x left put fits goes border s.machine s.shown s.safe s.alone n stands)))

    module _ (later : Run) (step : DoesStep prog places new later worker) where
      pub over_does : ∥ DoesSteps prog places k later worker (suc x.course.done) ∥₁
      over_does = ∥∥₁_map went_does (λ does. does_more prog places k new worker x.course.done does hands later step)

      pub over_stalls : LeavesStalls prog places new later (Step worker) true → LeavesStallsBy prog places k later worker (suc x.course.done)
      over_stalls stalls = ∥∥₁_elim went_does (stalls_prop prog places k later worker (suc x.course.done)) (λ does.
          stalls_more prog places k new worker x.course.done does hands later step went_stalls stalls)
