-- A strand that stands at a border stands before what is no plain step.
use Rattle.std.proofs.Common.{◌≡◌, Option, Some, None, Bool, true, false, cond, refl, is_some, nat_le}
use Rattle.std.specs.Option.{option_map}
use Rattle.semantics.specs.Frames.{Item, Does, Ends}
use Rattle.program.specs.declared.function.Program.{Program}
use Rattle.program.specs.declared.instruction.Instruction.{Instruction}
use Rattle.program.specs.declared.instruction.Instruction.TheVariants as instruction
use Rattle.program.specs.declared.instruction.Terminator.{Terminator}
use Rattle.program.specs.declared.instruction.Terminator.TheVariants as terminator
use Rattle.laws_strands.specs.Footprint.{Footprint, held}
use Rattle.laws_strands.specs.FrameStrands as frame_strands
use Rattle.laws_strands.specs.FrameStrands.{Access, Nowhere, Loads, Stores, Adds, access_of, is_border, is_full, most_done, need, next_of, pause_of}
use Rattle.frame_engine.specs.Border.{IsBorder, IsBorderEnding, IsBorderItem}
use Rattle.frame_engine.specs.Shows.{Layout}
use Rattle.frame_strand.specs.Along.{PausesAt, pause_in}
use Rattle.frame_strand.specs.declared.standing.FrameStrandPause.TheVariants.{Border}

does_border : (i : Instruction) → is_border (Some (Does i)) ≡ true → IsBorder i
does_border (instruction.Call r callee arguments) h = tt
does_border (instruction.StoreZeros cells name) h = tt
does_border (instruction.Binary r op w a b) h = absurd cc
does_border (instruction.Compare r by w a b) h = absurd cc
does_border (instruction.Convert r by a) h = absurd cc
does_border (instruction.Alloca r a) h = absurd cc
does_border (instruction.ElementPointer r name i) h = absurd cc
does_border (instruction.Load r a) h = absurd cc
does_border (instruction.Store v a) h = absurd cc
does_border (instruction.AtomicAdd a v) h = absurd cc
does_border (instruction.StartRegion r) h = absurd cc

ends_border : (t : Terminator) → is_border (Some (Ends t)) ≡ true → IsBorderEnding t
ends_border (terminator.Return v) h = tt
ends_border (terminator.Detach r b c) h = tt
ends_border (terminator.Reattach r c) h = tt
ends_border (terminator.Sync r t) h = tt
ends_border (terminator.Jump target) h = absurd cc
ends_border (terminator.Branch test x y) h = absurd cc
ends_border (terminator.Switch w a default cases) h = absurd cc

pub item_border : (o : Option Item) → is_border o ≡ true → IsBorderItem o
item_border None h = absurd cc
item_border (Some (Does i)) h = does_border i h
item_border (Some (Ends t)) h = ends_border t h

-- no other pause is shown as a border
is_it : (l : Layout) (o : Option frame_strands.Pause) → option_map (pause_in l) o ≡ Some Border → o ≡ Some frame_strands.Border
is_it l None h = absurd cc
is_it l (Some frame_strands.Blank) h = absurd cc
is_it l (Some frame_strands.Border) h = refl
is_it l (Some frame_strands.Limit) h = absurd cc
is_it l (Some frame_strands.Full) h = absurd cc
is_it l (Some (frame_strands.Need c)) h = absurd cc

needs_no_border : (f : Footprint) (a : Access) → need f a ≡ Some frame_strands.Border → ⊥
needs_no_border f Nowhere h = cc
needs_no_border f (Stores c) h = cc
needs_no_border f (Adds c) h = cc
needs_no_border f (Loads c) h = from (is_some (held f c)) h
  where
    from : (b : Bool) → cond b None (Some (frame_strands.Need c)) ≡ Some frame_strands.Border → ⊥
    from true e = cc
    from false e = cc

pub border_next : (prog : Program) (l : Layout) (s : frame_strands.FrameStrand) → PausesAt prog l s (Some Border) → is_border (next_of prog s.present) ≡ true
border_next prog l s pauses = at_border (access_of prog s.present) (is_border (next_of prog s.present)) (is_it l (pause_of prog s) pauses.is)
  where
    at_full : (access : Access) (b : Bool) → cond b (Some frame_strands.Full) (need s.footprint access) ≡ Some frame_strands.Border → ⊥
    at_full access true h = cc
    at_full access false h = needs_no_border s.footprint access h

    at_limit : (access : Access) (b : Bool) → cond b (Some frame_strands.Limit) (cond (is_full s.footprint access) (Some frame_strands.Full) (need s.footprint access)) ≡ Some frame_strands.Border → ⊥
    at_limit access true h = cc
    at_limit access false h = at_full access (is_full s.footprint access) h

    at_border : (access : Access) (b : Bool) → cond b (Some frame_strands.Border) (cond (nat_le most_done s.done) (Some frame_strands.Limit) (cond (is_full s.footprint access) (Some frame_strands.Full) (need s.footprint access))) ≡ Some frame_strands.Border → b ≡ true
    at_border access true h = refl
    at_border access false h = absurd (at_limit access (nat_le most_done s.done) h)
