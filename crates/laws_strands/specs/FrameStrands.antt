-- Frame strands: what one frame does outside of the machine, and how far it may go.
use Rattle.std.specs.Prelude.{◌≡◌, ℕ, suc, List, length, Option, Some, None, Bool, true, false, cond, ◌&&◌, nat_le}
use Rattle.std.specs.Prelude.{is_none, is_some, ℤ}
use Rattle.semantics.specs.Paths.{Path}
use Rattle.semantics.specs.Cells.{Cell}
use Rattle.semantics.specs.Frames.{Frame, Item, Does, Ends, item_at, cell_at}
use Rattle.semantics.specs.Effect.{Effect, Action, Plain, action_of}
use Rattle.semantics.specs.State.{went}
use Rattle.laws_strands.specs.Footprint.{Write, Footprint, untouched, write_at, held, memory_of, stored, added_to}
use Rattle.laws_strands.specs.Footprint.{with_read}
use Rattle.semantics.specs.program.declared.function.Program.{Program}
use Rattle.semantics.specs.program.declared.instruction.Instruction.{Instruction}
use Rattle.semantics.specs.program.declared.instruction.Instruction.TheVariants as instruction
use Rattle.semantics.specs.program.declared.instruction.Terminator.{Terminator}
use Rattle.semantics.specs.program.declared.instruction.Terminator.TheVariants as terminator

-- a frame as it was loaded, its path, and what it has done since then
pub record FrameStrand : Type 0 where
  pub path : Path
  pub loaded : Frame
  pub present : Frame
  -- instructions
  pub done : ℕ
  pub footprint : Footprint

-- ---- the next instruction

-- the cell that it loads from, stores to or adds to
pub data Access : Type 0 where
  Nowhere : Access
  Loads : (c : Cell) → Access
  Stores : (c : Cell) → Access
  Adds : (c : Cell) → Access

abbrev pub to_cell : (Cell → Access) → Option Cell → Access
to_cell kind None = Nowhere
to_cell kind (Some c) = kind c

abbrev pub instruction_access : Frame → Instruction → Access
instruction_access f (instruction.Load d address) = to_cell Loads (cell_at f address)
instruction_access f (instruction.Store a address) = to_cell Stores (cell_at f address)
instruction_access f (instruction.AtomicAdd address a) = to_cell Adds (cell_at f address)
instruction_access f other = Nowhere

abbrev pub item_access : Frame → Option Item → Access
item_access f (Some (Does i)) = instruction_access f i
item_access f other = Nowhere

-- calls, array stores, and what ends a task or a function or parts it (Tapir, PPoPP 2017, section 2)
abbrev pub is_border_instruction : Instruction → Bool
is_border_instruction (instruction.Call d callee arguments) = true
is_border_instruction (instruction.StoreZeros cells name) = true
is_border_instruction other = false

abbrev pub is_border_terminator : Terminator → Bool
is_border_terminator (terminator.Return value) = true
is_border_terminator (terminator.Detach region body continuation) = true
is_border_terminator (terminator.Reattach region continuation) = true
is_border_terminator (terminator.Sync region target) = true
is_border_terminator other = false

abbrev pub is_border : Option Item → Bool
is_border None = false
is_border (Some (Does i)) = is_border_instruction i
is_border (Some (Ends t)) = is_border_terminator t

abbrev pub next_of : Program → Frame → Option Item
next_of prog f = item_at prog f.function f.block f.index

abbrev pub access_of : Program → Frame → Access
access_of prog f = item_access f (next_of prog f)

-- ---- where a strand pauses

-- cells in each buffer
abbrev pub places : ℕ
places = 256

abbrev pub most_done : ℕ
most_done = 65536

pub data Pause : Type 0 where
  Blank : Pause
  Border : Pause
  Limit : Pause
  Full : Pause
  Need : (c : Cell) → Pause

-- a cell that is new to a buffer takes a place there
abbrev pub is_full : Footprint → Access → Bool
is_full f Nowhere = false
is_full f (Loads c) = is_none (held f c) && nat_le places (length f.reads)
is_full f (Stores c) = is_none (write_at f c) && nat_le places (length f.writes)
is_full f (Adds c) = is_none (write_at f c) && nat_le places (length f.writes)

abbrev pub need : Footprint → Access → Option Pause
need f (Loads c) = cond (is_some (held f c)) None (Some (Need c))
need f other = None

-- None where it can go on
abbrev pub pause_at : Footprint → ℕ → Option Item → Access → Option Pause
pause_at f done next access =
    cond (is_border next) (Some Border)
    (cond (nat_le most_done done) (Some Limit) (cond (is_full f access) (Some Full) (need f access)))

abbrev pub pause_of : Program → FrameStrand → Option Pause
pause_of prog s = pause_at s.footprint s.done (next_of prog s.present) (access_of prog s.present)

-- a strand with no frame is blank
abbrev pub pause : Program → Option FrameStrand → Option Pause
pause prog None = Some Blank
pause prog (Some s) = pause_of prog s

-- ---- how it comes about

abbrev pub loaded : Path → Frame → FrameStrand
loaded p f = record { path = p; loaded = f; present = f; done = 0; footprint = untouched }

abbrev pub filled : FrameStrand → Cell → ℤ → FrameStrand
filled s c v = record s { footprint = with_read s.footprint c v }

abbrev pub writes_after : Footprint → Access → Effect → List (Cell × Write)
writes_after f Nowhere e = f.writes
writes_after f (Loads c) e = f.writes
writes_after f (Stores c) e = stored f.writes c (e.writes c)
writes_after f (Adds c) e = added_to f c (e.adds c)

abbrev pub footprint_after : Footprint → Access → Effect → Footprint
footprint_after f a e = record f { writes = writes_after f a e }

abbrev pub advanced : Program → FrameStrand → Effect → FrameStrand
advanced prog s e = record s {
  present = went s.present e;
  done = suc s.done;
  footprint =
      footprint_after s.footprint (access_of prog s.present) e;
}

-- what the definitions of running have it do next, with what it holds
abbrev pub next_action : Program → FrameStrand → Action
next_action prog s = action_of prog s.path s.present (memory_of s.footprint)

-- It begins with a loaded frame, is filled with the cells that it needs, and goes on by the definitions' effects on its
-- frame.
pub data IsFrameStrand (prog : Program) : FrameStrand → Type 0 where
  is_loaded : (p : Path) (f : Frame) → IsFrameStrand prog (loaded p f)
  is_filled : (s : FrameStrand) (c : Cell) (v : ℤ) → IsFrameStrand prog s → pause_of prog s ≡ Some (Need c) →
      IsFrameStrand prog (filled s c v)
  is_advanced : (s : FrameStrand) (e : Effect) → IsFrameStrand prog s → pause_of prog s ≡ None →
      next_action prog s ≡ Plain e → e.trap ≡ None →
      IsFrameStrand prog (advanced prog s e)
