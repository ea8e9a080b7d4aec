-- The tree of frames with its memory, and a step of one frame. Workers stand above it.
use Rattle.std.specs.Prelude.{ℕ, zero, suc, ◌+◌, max, List, [], ◌∷◌, length, Option, Some, None, Bool, true, false}
use Rattle.std.specs.Prelude.{cond, ◌&&◌, not, eqb, is_none, ℤ, slice_get}
use Rattle.std.specs.Prelude.{map}
use Rattle.semantics.specs.Paths.{Path, same_path}
use Rattle.semantics.specs.Cells.{Cell, Memory, globals_of, owns}
use Rattle.semantics.specs.Arithmetic.{Trap, cell_sum}
use Rattle.semantics.specs.Frames.{Value, Word, Registers, Wait, Free, OnRegion, OnCall, Halted, Role, Child, Body}
use Rattle.semantics.specs.Frames.{Frame, set_register}
use Rattle.semantics.specs.Effect.{Effect, Action, Plain, Detach, Reattach, Sync, Call, Return, no_cells, no_writes}
use Rattle.semantics.specs.Effect.{no_adds, action_of}
use Rattle.program.specs.linear.declared.form.RegisterId.{RegisterId}
use Rattle.program.specs.declared.function.Program.{Program}

pub record State : Type 0 where
  pub frames : Path → Option Frame  -- the living frames
  pub memory : Memory
  pub done : ℕ  -- instructions done
  pub peak : ℕ  -- the most frames from the root to one that ever lived
  pub result : Option ℤ  -- what the root returned

-- What one step changes: frames (Some None: removed), cells written, cells added to, the depth of a new frame, and the
-- root's result. reads says what it looked at.
pub record Change : Type 0 where
  pub frames : Path → Option (Option Frame)
  pub reads : Cell → Bool
  pub writes : Cell → Option (Option ℤ)
  pub adds : Cell → Option ℤ
  pub depth : ℕ
  pub result : Option ℤ
  pub trap : Option Trap

-- ---- doing a change

abbrev pub override : {A : Type 0} → Option A → A → A
override None a = a
override (Some b) a = b

abbrev pub override_result : Option ℤ → Option ℤ → Option ℤ
override_result None z = z
override_result (Some a) z = Some a

-- an undefined cell stays so
abbrev pub sum_in : ℤ → Option ℤ → Option ℤ
sum_in z None = None
sum_in z (Some old) = Some (cell_sum old z)

abbrev pub added : Option ℤ → Option ℤ → Option ℤ
added None value = value
added (Some z) value = sum_in z value

abbrev pub apply : Change → State → State
apply c s =
    record {
      frames = λ p. override (c.frames p) (s.frames p);
      memory = λ x. added (c.adds x) (override (c.writes x) (s.memory x));
      done = suc s.done;
      peak = max s.peak c.depth;
      result = override_result c.result s.result;
    }

-- ---- frames that steps make

abbrev pub wait_after : Option Trap → Wait
wait_after None = Free
wait_after (Some t) = Halted

abbrev pub went : Frame → Effect → Frame
went f e = record f { block = e.block; index = e.index; registers = e.registers; waits = wait_after e.trap }

-- at the start of a block, with no child made
abbrev pub begun : ℕ → ℕ → Registers → Role → Path → Frame
begun function block registers role home = record {
  function = function;
  block = block;
  index = 0;
  registers = registers;
  made = 0;
  waits = Free;
  role = role;
  home = home;
}

-- the child begins with its parent's registers
abbrev pub detached : Frame → ℕ → ℕ → ℕ → Frame
detached f region body continuation = begun f.function body f.registers (Child region continuation) f.home

abbrev pub continued : Frame → ℕ → Frame
continued f continuation = record f { block = continuation; index = 0; made = suc f.made; waits = Free }

abbrev pub synced : Frame → ℕ → ℕ → Registers → Frame
synced f region block r = record f { block = block; index = 0; registers = r; waits = OnRegion region }

-- the parameters are the registers from 0 on
abbrev pub called : Path → Frame → ℕ → List Value → Frame
called p f callee values = begun callee 0 (slice_get values) Body (f.made ∷ p)

abbrev pub waiting : Frame → Option RegisterId → Frame
waiting f d = record f { index = suc f.index; made = suc f.made; waits = OnCall f.made d }

abbrev pub with_result : Registers → Option RegisterId → Option ℤ → Registers
with_result r (Some d) (Some z) = set_register r d (Word z)
with_result r one other = r

abbrev pub resumed : Frame → Option RegisterId → Option ℤ → Frame
resumed g d result = record g { registers = with_result g.registers d result; waits = Free }

abbrev pub halted : Frame → Frame
halted f = record f { waits = Halted }

-- ---- changes

abbrev pub only : Path → Option Frame → Path → Option (Option Frame)
only p f x = cond (same_path p x) (Some f) None

abbrev pub both : Path → Option Frame → Path → Option Frame → Path → Option (Option Frame)
both p f q g x = cond (same_path p x) (Some f) (cond (same_path q x) (Some g) None)

abbrev pub frame_change : (Path → Option (Option Frame)) → ℕ → Change
frame_change frames depth = record
    { frames = frames; reads = no_cells; writes = no_writes; adds = no_adds; depth = depth; result = None; trap = None }

abbrev pub plain_change : Path → Frame → Effect → Change
plain_change p f e = let c : Change = frame_change (only p (Some (went f e))) 0 in
    record c { reads = e.reads; writes = e.writes; adds = e.adds; trap = e.trap }

abbrev pub detach_change : Path → Frame → ℕ → ℕ → ℕ → Change
detach_change p f region body continuation = frame_change (both p (Some (continued f continuation))
    (f.made ∷ p) (Some (detached f region body continuation))) (length p + 2)

abbrev pub reattach_change : Path → Change
reattach_change p = frame_change (only p None) 0

abbrev pub sync_change : Path → Frame → ℕ → ℕ → Registers → Change
sync_change p f region block r = frame_change (only p (Some (synced f region block r))) 0

abbrev pub call_change : Path → Frame → Option RegisterId → ℕ → List Value → Change
call_change p f d callee values =
    frame_change (both p (Some (waiting f d)) (f.made ∷ p) (Some (called p f callee values))) (length p + 2)

-- the allocas of a frame that goes are gone with it
abbrev pub clears : Path → Cell → Option (Option ℤ)
clears p x = cond (owns p x.object) (Some None) None

abbrev pub return_change : Path → Path → Frame → Option RegisterId → Option ℤ → Change
return_change p above g d result =
    record (frame_change (both p None above (Some (resumed g d result))) 0) { writes = clears p }

abbrev pub end_change : Path → Option ℤ → Change
end_change p result = record (frame_change (only p None) 0) { writes = clears p; result = result }

abbrev pub trap_change : Path → Frame → Trap → Change
trap_change p f t = record (frame_change (only p (Some (halted f))) 0) { trap = Some t }

-- ---- a step of the frame at a path

abbrev pub all_below : ℕ → (ℕ → Bool) → Bool
all_below zero test = true
all_below (suc n) test = test n && all_below n test

abbrev pub outside_role : ℕ → Role → Bool
outside_role region (Child r c) = not (eqb region r)
outside_role region Body = true

abbrev pub outside : ℕ → Option Frame → Bool
outside region None = true
outside region (Some f) = outside_role region f.role

-- no child that the frame at p detached within the region lives
abbrev pub none_within : State → Path → ℕ → ℕ → Bool
none_within s p made region = all_below made (λ k. outside region (s.frames (k ∷ p)))

abbrev pub may_go : State → Path → ℕ → Wait → Bool
may_go s p made Free = true
may_go s p made (OnRegion region) = none_within s p made region
may_go s p made other = false

abbrev pub childless : State → Path → ℕ → Bool
childless s p made = all_below made (λ k. is_none (s.frames (k ∷ p)))

abbrev pub hand_over : Path → Path → Frame → Wait → Option ℤ → Option Change
hand_over p above g (OnCall k d) result = Some (return_change p above g d result)
hand_over p above g other result = None

abbrev pub to_caller : Path → Path → Option Frame → Option ℤ → Option Change
to_caller p above None result = None
to_caller p above (Some g) result = hand_over p above g g.waits result

abbrev pub return_from : State → Path → Option ℤ → Option Change
return_from s [] result = Some (end_change [] result)
return_from s (k ∷ above) result = to_caller (k ∷ above) above (s.frames above) result

-- An end waits until no child is left: a step of this frame must not depend on how far its children are.
abbrev pub act : State → Path → Frame → Action → Option Change
act s p f (Plain e) = Some (plain_change p f e)
act s p f (Detach region body continuation) = Some (detach_change p f region body continuation)
act s p f (Reattach region) = cond (childless s p f.made) (Some (reattach_change p)) None
act s p f (Sync region block r) = Some (sync_change p f region block r)
act s p f (Call d callee values) = Some (call_change p f d callee values)
act s p f (Return result) = cond (childless s p f.made) (return_from s p result) None

abbrev pub change_of_frame : Program → State → Path → Option Frame → Option Change
change_of_frame prog s p None = None
change_of_frame prog s p (Some f) = cond (may_go s p f.made f.waits) (act s p f (action_of prog p f s.memory)) None

abbrev pub change_of : Program → State → Path → Option Change
change_of prog s p = change_of_frame prog s p (s.frames p)

-- ---- the start

abbrev pub root_frame : Program → List ℤ → Frame
root_frame prog arguments = begun prog.main.0 0 (slice_get (map (λ z. Word z) arguments)) Body []

-- the root frame alone, with the globals as they are given; no alloca is defined
abbrev pub start_state : Program → List ℤ → Memory → State
start_state prog arguments memory =
    record {
      frames = λ p. cond (same_path [] p) (Some (root_frame prog arguments)) None;
      memory = globals_of memory;
      done = 0;
      peak = 1;
      result = None;
    }
