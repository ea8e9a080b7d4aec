-- Strands: what one worker does outside of the machine, from one frame on, across calls, detaches and what ends them.
use Rattle.std.specs.Prelude.{◌≡◌, ⊤, Some, ℕ, suc, ◌+◌, max, List, [], ◌∷◌, length, Option, None, true, is_some, ℤ}
use Rattle.semantics.specs.Paths.{Path}
use Rattle.semantics.specs.Cells.{Cell, Memory}
use Rattle.semantics.specs.Frames.{Value, Registers, Free, OnCall, Frame}
use Rattle.semantics.specs.Effect.{Effect, Action, Plain, Detach, Reattach, Sync, Call, Return, no_adds, action_of}
use Rattle.semantics.specs.State.{clears, went, detached, continued, synced, called, waiting, resumed}
use Rattle.semantics.specs.SerialMeaning.{written}
use Rattle.laws_strands.specs.stacks.Footprint.{Footprint, untouched, held, memory_of, with_read, with_writes, seen}
use Rattle.linear.specs.declared.form.RegisterId.{RegisterId}
use Rattle.program.specs.declared.function.Program.{Program}

pub record Placed : Type 0 where
  pub path : Path
  pub frame : Frame

pub record Strand : Type 0 where
  -- the base, as it was loaded
  pub base : Placed
  -- the frame that goes on next
  pub top : Placed
  -- the frames that wait for it, the nearest first; the last is the base
  pub below : List Placed
  -- instructions
  pub done : ℕ
  -- the most frames from the root to a new one
  pub deepest : ℕ
  pub footprint : Footprint
  -- the regions that the base synced: none of its older children is to live in one of them
  pub synced : List ℕ

-- ---- what it does next

abbrev pub at : Path → Frame → Placed
at p f = record { path = p; frame = f }

-- what the definitions of running have it do, with what it holds
abbrev pub next_action : Program → Strand → Action
next_action prog d = action_of prog d.top.path d.top.frame (memory_of d.footprint)

-- it holds what the effect reads
abbrev pub Holds : Footprint → Effect → Type 0
Holds f e = (x : Cell) → e.reads x ≡ true → is_some (held f x) ≡ true

abbrev pub if_base : List Placed → ℕ → List ℕ → List ℕ
if_base [] region synced = region ∷ synced
if_base (g ∷ below) region synced = synced

-- ---- how it comes about

abbrev pub loaded : Path → Frame → Strand
loaded p f = record {
  base = at p f;
  top = at p f;
  below = [];
  done = 0;
  deepest = 0;
  footprint = untouched;
  synced =
      [];
}

abbrev pub filled : Strand → Cell → ℤ → Strand
filled d c v = record d { footprint = with_read d.footprint c v }

abbrev pub advanced : Strand → Effect → Strand
advanced d e = record d {
  top = at d.top.path (went d.top.frame e);
  done = suc d.done;
  footprint =
      with_writes d.footprint e.writes e.adds;
}

abbrev pub past_sync : Strand → ℕ → ℕ → Registers → Strand
past_sync d region block registers =
    record d {
      top = at d.top.path (synced d.top.frame region block registers);
      done = suc d.done;
      synced =
          if_base d.below region d.synced;
    }

-- the top frame waits for a new one
abbrev pub entered : Strand → Frame → Frame → Strand
entered d parent child =
    record d {
      top = at (d.top.frame.made ∷ d.top.path) child;
      below = at d.top.path parent ∷ d.below;
      done = suc d.done;
      deepest = max d.deepest (length d.top.path + 2);
    }

abbrev pub reattached : Strand → Placed → List Placed → Strand
reattached d g rest = record d { top = g; below = rest; done = suc d.done }

abbrev pub returned : Strand → Placed → List Placed → Option RegisterId → Option ℤ → Strand
returned d g rest register result =
    record d {
      top = at g.path (resumed g.frame register result);
      below = rest;
      done = suc d.done;
      footprint = with_writes d.footprint (clears d.top.path) no_adds;
    }

-- It begins with a loaded frame, is filled with cells that it is to load and does not hold, and goes on by the
-- definitions' actions: a child or callee runs to its end before the frame that made it goes on. It stops anywhere, and
-- before an action that has no case here: where the base ends, where an instruction traps, or where it reads a cell
-- that it does not hold.
pub data IsStrand (prog : Program) : Strand → Type 0 where
  is_loaded : (p : Path) (f : Frame) → IsStrand prog (loaded p f)
  is_filled : (d : Strand) (c : Cell) (v : ℤ) (e : Effect) → IsStrand prog d → next_action prog d ≡ Plain e →
      e.trap ≡ None → e.reads c ≡ true →
      held d.footprint c ≡ None → d.footprint.reads c ≡ None → IsStrand prog (filled d c v)
  is_advanced : (d : Strand) (e : Effect) → IsStrand prog d → next_action prog d ≡ Plain e → e.trap ≡ None →
      Holds d.footprint e →
      IsStrand prog (advanced d e)
  is_past_sync : (d : Strand) (region block : ℕ) (registers : Registers) → IsStrand prog d →
      next_action prog d ≡ Sync region block registers →
      IsStrand prog (past_sync d region block registers)
  is_detached : (d : Strand) (region body continuation : ℕ) → IsStrand prog d →
      next_action prog d ≡ Detach region body continuation →
      IsStrand prog (entered d (continued d.top.frame continuation) (detached d.top.frame region body continuation))
  is_called : (d : Strand) (register : Option RegisterId) (callee : ℕ) (values : List Value) → IsStrand prog d →
      next_action prog d ≡ Call register callee values →
      IsStrand prog (entered d (waiting d.top.frame register) (called d.top.path d.top.frame callee values))
  is_reattached : (d : Strand) (region : ℕ) (g : Placed) (rest : List Placed) → IsStrand prog d →
      next_action prog d ≡ Reattach region →
      d.below ≡ g ∷ rest → g.frame.waits ≡ Free → IsStrand prog (reattached d g rest)
  is_returned : (d : Strand) (result : Option ℤ) (g : Placed) (rest : List Placed) (k : ℕ)
      (register : Option RegisterId) → IsStrand prog d →
      next_action prog d ≡ Return result → d.below ≡ g ∷ rest → g.frame.waits ≡ OnCall k register →
      IsStrand prog (returned d g rest register result)

-- ---- over a whole memory

-- a plain instruction does not trap, and what it reads is held
abbrev pub IsActionHeld : Footprint → Action → Type 0
IsActionHeld f (Plain e) = (e.trap ≡ None) × Holds f e
IsActionHeld f other = ⊤

-- what the top frame does with any memory that holds what was read, and into which what was written is put, is the
-- strand's next action
abbrev pub AnyMemoryServes : Type 0
AnyMemoryServes =
    (prog : Program) (d : Strand) (m : Memory) → ((x : Cell) (v : ℤ) → d.footprint.reads x ≡ Some v → m x ≡ Some v) →
    (a : Action) →
    action_of prog d.top.path d.top.frame (seen m d.footprint) ≡ a → IsActionHeld d.footprint a → next_action prog d ≡ a

-- and it leaves the memory into which what is written after it is put
abbrev pub WritesAreSeen : Type 0
WritesAreSeen =
    (d : Strand) (m : Memory) (e : Effect) → ((x : Cell) (v : ℤ) → d.footprint.reads x ≡ Some v → m x ≡ Some v) →
    written e (seen m d.footprint) ≡ seen m (advanced d e).footprint
