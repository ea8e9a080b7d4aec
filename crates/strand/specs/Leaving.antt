-- What is told of a strand's frames, and what is written into its boxes, from which they are published.
use Rattle.std.specs.Prelude.{◌≡◌, ◌<◌, ◌+◌, ◌-◌, ⊤, ℕ, suc, List, [], ◌∷◌, ◌++◌, drop, length, map, reverse}
use Rattle.std.specs.Prelude.{Option, Some}
use Rattle.std.specs.Prelude.{None, Bool, true, false, slice_get}
use Rattle.std.specs.List.{between}
use Rattle.semantics.specs.Frames.{Does, Ends, Item}
use Rattle.program.specs.declared.function.Program.{Program}
use Rattle.program.specs.declared.instruction.Instruction.TheVariants as instruction
use Rattle.program.specs.declared.instruction.Terminator.TheVariants as terminator
use Rattle.frame.specs.Reading.{role_of, wait_of}
use Rattle.frame.specs.declared.frame.Role.{Role}
use Rattle.frame.specs.declared.frame.Wait.{Wait}
use Rattle.frame_engine.specs.declared.activation.Frame.{Frame}
use Rattle.frame_engine.specs.declared.activation.Places.{Places}
use Rattle.frame_engine.specs.Shows.{Layout}
use Rattle.serial_stack.specs.StackShown.{unboxed}
use Rattle.laws_strands.specs.stacks.Strands as strands
use Rattle.laws_strands.specs.stacks.Strands.{IsStrand, Placed}
use Rattle.windows.specs.declared.places.CodePlace.{CodePlace}
use Rattle.windows.specs.declared.windows.Saved.{Saved}
use Rattle.windows.specs.declared.windows.Windows.{Windows}
use Rattle.strand.specs.Boxes.{ShowsBelow, ShowsStrand}
use Rattle.strand.specs.Layouts.{Segment}
use Rattle.strand.specs.Spans.{HasMade, ShowsSpan}
use Rattle.strand.specs.declared.strand.Strand.{Strand}

-- a detach stands there
abbrev pub is_detach : Option Item → Bool
is_detach None = false
is_detach (Some (Does instruction)) = false
is_detach (Some (Ends (terminator.Detach region body continuation))) = true
is_detach (Some (Ends other)) = false

-- the children of a frame that stands on so many, which made these since the base was loaded
abbrev pub made_over : ℕ → List Saved → ℕ → ℕ
made_over before [] more = before + more
made_over before (s ∷ saved) more = more

-- those of the frame on top
abbrev pub made_on_top : Strand → ℕ
made_on_top x = made_over x.base.frame.made x.span.windows.below.items x.span.more

-- ---- one frame

-- by the item a frame can have made its newest child, of so many
abbrev pub IsMade : Item → ℕ → Type 0
IsMade (Does (instruction.Call register callee arguments)) made = 0 < made
IsMade (Does other) made = ⊥
IsMade (Ends (terminator.Detach region body continuation)) made = ⊤
IsMade (Ends other) made = ⊥

-- a frame that made the one above it by the item waits so, and that one runs this
abbrev pub Waits : Item → ℕ → Wait → Role → Type 0
Waits item made wait role =
    (g above : Placed) → HasMade (Some item) g above → g.frame.made ≡ made →
    (g.frame.waits ≡ wait_of wait) × (above.frame.role ≡ role_of role)

-- where the windows begin, from the base's on
abbrev pub bases_up : Windows → List ℕ
bases_up w = map (λ (s : Saved). s.base) w.below.items ++ w.base ∷ []

abbrev pub IsBaseAbove : Windows → ℕ → ℕ → Type 0
IsBaseAbove w number base = slice_get (bases_up w) (suc number) ≡ Some base

-- the frame has the words of a window, and goes on at the item of the slot
pub record IsWritten (places : List CodePlace) (w : Windows) (pc base end : ℕ) (old new : Frame) : Type 0 where
  pub only : new ≡ record old { function = new.function; place = new.place; registers = new.registers }
  pub words : new.registers.items ≡ between base end w.row.items
  pub there : slice_get places pc
      ≡ Some (record { function = new.function; block = new.place.block; index = new.place.index })

-- ---- all of them

-- of each strand that is shown
abbrev pub OfShown : Program → Places → Strand → (Layout → Segment → strands.Strand → Type 0) → Type 0
OfShown prog places x P =
    (l : Layout) (s : Segment) (d : strands.Strand) → IsStrand prog d → ShowsSpan l prog places s d x → P l s d

abbrev pub WaitsNow : Program → Places → Strand → Wait → Type 0
WaitsNow prog places x wait = OfShown prog places x (λ l s d. d.top.frame.waits ≡ wait_of wait)

-- the frame of this number, from the base on
abbrev pub frame_up : strands.Strand → ℕ → Option Placed
frame_up d number = slice_get (reverse (d.top ∷ d.below)) number

-- those below it
abbrev pub frames_under : strands.Strand → ℕ → List Placed
frames_under d number = drop (length d.below - number) d.below

-- boxes show the frames below that of this number, whose role and depth the box on top has
pub record AreOut (l : Layout) (prog : Program) (places : Places) (s : Segment) (d : strands.Strand) (number : ℕ)
    (x : Strand) : Type 0 where
  pub below : ShowsBelow l prog places s.start (frames_under d number) (reverse (unboxed x.below.items))
  pub next : Placed
  pub there : frame_up d number ≡ Some next
  pub role : next.frame.role ≡ role_of x.top.value.role
  pub depth : length next.path ≡ x.top.value.depth

-- none is in use but the base's, on top
pub record BeganAs (x : Strand) : Type 0 where
  pub below : x.below.items ≡ []
  pub role : x.top.value.role ≡ x.base.frame.role
  pub depth : x.top.value.depth ≡ x.base.frame.depth

-- the frame of this number went out as well
abbrev pub OutTo : Program → Places → ℕ → Strand → Strand → Type 0
OutTo prog places number old new =
    OfShown prog places old
    (λ l s d. AreOut l prog places s d number old → AreOut l prog places s d (suc number) new)

-- and the one on top, the last
abbrev pub SettlesTop : Program → Places → Strand → Strand → Type 0
SettlesTop prog places old new =
    OfShown prog places old
    (λ l s d. AreOut l prog places s d (length d.below) old → ShowsStrand l prog places s d new)
