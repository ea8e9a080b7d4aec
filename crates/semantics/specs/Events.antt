-- Workers over the tree of frames: steps and steals (Blumofe and Leiserson, Journal of the ACM 46(5), 1999, section 3).
-- A task is a detached child's frame, or the root, with the frames called on top of it. It is named by its lowest
-- frame's path.
use Rattle.std.specs.Prelude.{ℕ, zero, suc, List, [], ◌∷◌, Option, Some, None, Bool, true, false, cond, ◌&&◌, eqb, ltb}
use Rattle.std.specs.Prelude.{is_none, ℤ}
use Rattle.semantics.specs.Paths.{Path, same_path}
use Rattle.semantics.specs.Cells.{Memory}
use Rattle.semantics.specs.Arithmetic.{Trap, Unmatched}
use Rattle.semantics.specs.Frames.{Wait, Free, OnRegion, OnCall, Role, Child, Body, Frame}
use Rattle.semantics.specs.Effect.{Action, Plain, Detach, Reattach, Sync, Call, Return, action_of}
use Rattle.semantics.specs.State.{State, Change, apply, none_within, change_of, trap_change, start_state}
use Rattle.program.specs.declared.function.Program.{Program}

pub record Machine : Type 0 where
  pub core : State
  pub hands : ℕ → Option Path  -- the top frame of the task that a worker runs; an idle worker has none
  pub trapped : Option Trap  -- once a step has trapped nothing is enabled any more

pub data Event : Type 0 where
  Step : (worker : ℕ) → Event
  Steal : (worker : ℕ) (task : Path) → Event

-- ---- tasks

abbrev pub is_place : Option Path → Path → Bool
is_place None x = false
is_place (Some y) x = same_path y x

-- the worker that runs the task of this top frame
abbrev pub holder : ℕ → (ℕ → Option Path) → Path → Option ℕ
holder zero hands x = None
holder (suc w) hands x = cond (is_place (hands w) x) (Some w) (holder w hands x)

abbrev pub is_child : Role → Bool
is_child (Child region continuation) = true
is_child Body = false

abbrev pub is_task : Path → Option Frame → Bool
is_task t None = false
is_task [] (Some f) = true
is_task (k ∷ above) (Some f) = is_child f.role

abbrev pub on_wait : (ℕ → Path) → Path → Wait → Path
on_wait next p (OnCall k d) = next k
on_wait next p other = p

abbrev pub on_frame : (ℕ → Path) → Path → Option Frame → Path
on_frame next p None = p
on_frame next p (Some f) = on_wait next p f.waits

-- what is reached from a frame by at most so many calls that go on
abbrev pub top_within : ℕ → State → Path → Path
top_within zero s p = p
top_within (suc n) s p = on_frame (λ k. top_within n s (k ∷ p)) p (s.frames p)

abbrev pub top_of : State → Path → Path
top_of s t = top_within s.peak s t

pub data Status : Type 0 where
  Running : (worker : ℕ) → Status
  -- no worker runs it, and its top frame waits for nothing: by `PartIntoTasks` that frame's newest child lives
  Ready : Status
  Stalled : (region : ℕ) → Status

abbrev pub waiting_status : Wait → Option Status
waiting_status Free = Some Ready
waiting_status (OnRegion r) = Some (Stalled r)
waiting_status other = None

abbrev pub unheld_status : Option Frame → Option Status
unheld_status None = None
unheld_status (Some f) = waiting_status f.waits

abbrev pub status_at : Option Frame → Option ℕ → Option Status
status_at f None = unheld_status f
status_at f (Some w) = Some (Running w)

abbrev pub top_status : ℕ → Machine → Path → Option Status
top_status workers m x = status_at (m.core.frames x) (holder workers m.hands x)

-- the status of the task of this name, if there is one
abbrev pub status_of : ℕ → Machine → Path → Option Status
status_of workers m t = cond (is_task t (m.core.frames t)) (top_status workers m (top_of m.core t)) None

-- ---- a step of a worker

abbrev pub unless_held : Option ℕ → Bool → Path → Option Path
unless_held None true p = Some p
unless_held one other p = None

-- its newest child was this one, or it is stalled on the region and none is left in it
abbrev pub may_be_taken : State → ℕ → Path → ℕ → Frame → Wait → Bool
may_be_taken new k above region g Free = eqb g.made (suc k)
may_be_taken new k above region g (OnRegion r) = eqb r region && none_within new above g.made r
may_be_taken new k above region g other = false

abbrev pub takes_parent : ℕ → Machine → State → ℕ → Path → ℕ → Option Frame → Option Path
takes_parent workers m new k above region None = None
takes_parent workers m new k above region (Some g) =
    unless_held (holder workers m.hands above) (may_be_taken new k above region g g.waits) above

abbrev pub after_reattach : ℕ → Machine → State → Path → ℕ → Option Path
after_reattach workers m new [] region = None
after_reattach workers m new (k ∷ above) region = takes_parent workers m new k above region (m.core.frames above)

abbrev pub caller_of : Path → Option Path
caller_of [] = None
caller_of (k ∷ above) = Some above

-- the frame that the worker runs next, after the step from m.core to new
abbrev pub next_hand : ℕ → Machine → State → Path → Frame → Action → Option Path
next_hand workers m new p f (Plain e) = Some p
next_hand workers m new p f (Detach region body continuation) = Some (f.made ∷ p)
next_hand workers m new p f (Reattach region) = after_reattach workers m new p region
next_hand workers m new p f (Sync region block r) = cond (none_within m.core p f.made region) (Some p) None
next_hand workers m new p f (Call d callee values) = Some (f.made ∷ p)
next_hand workers m new p f (Return result) = caller_of p

abbrev pub with_hand : (ℕ → Option Path) → ℕ → Option Path → ℕ → Option Path
with_hand hands w next v = cond (eqb w v) next (hands v)

abbrev pub stepped : Machine → ℕ → Change → Option Path → Machine
stepped m w c next = record { core = apply c m.core; hands = with_hand m.hands w next; trapped = c.trap }

-- an end with a child left traps
abbrev pub by_change : Program → ℕ → Machine → ℕ → Path → Frame → Option Change → Machine
by_change prog workers m w p f None = stepped m w (trap_change p f Unmatched) (Some p)
by_change prog workers m w p f (Some c) =
    stepped m w c (next_hand workers m (apply c m.core) p f (action_of prog p f m.core.memory))

abbrev pub by_frame : Program → ℕ → Machine → ℕ → Path → Option Frame → Option Machine
by_frame prog workers m w p None = None
by_frame prog workers m w p (Some f) = Some (by_change prog workers m w p f (change_of prog m.core p))

abbrev pub by_hand : Program → ℕ → Machine → ℕ → Option Path → Option Machine
by_hand prog workers m w None = None
by_hand prog workers m w (Some p) = by_frame prog workers m w p (m.core.frames p)

-- ---- a steal

abbrev pub if_ready : Machine → Option Status → Option Machine
if_ready m (Some Ready) = Some m
if_ready m other = None

abbrev pub stolen : Machine → ℕ → Path → Machine
stolen m w t = record m { hands = with_hand m.hands w (Some (top_of m.core t)) }

-- ---- events

-- one event of a machine that has not trapped; None where it is not enabled
abbrev pub sound_event : Program → ℕ → Event → Machine → Option Machine
sound_event prog workers (Step w) m = by_hand prog workers m w (m.hands w)
sound_event prog workers (Steal w t) m =
    cond (ltb w workers && is_none (m.hands w)) (if_ready (stolen m w t) (status_of workers m t)) None

abbrev pub unless_trapped : Option Trap → Option Machine → Option Machine
unless_trapped None next = next
unless_trapped (Some t) next = None

abbrev pub event : Program → ℕ → Event → Machine → Option Machine
event prog workers e m = unless_trapped m.trapped (sound_event prog workers e m)

-- worker 0 runs the root, the others are idle
abbrev pub start : Program → List ℤ → Memory → Machine
start prog arguments memory =
    record { core = start_state prog arguments memory; hands = λ w. cond (eqb 0 w) (Some []) None; trapped = None }
