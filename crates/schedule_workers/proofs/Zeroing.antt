-- The array store of the frame in a slot.
use Rattle.std.proofs.Common.{◌≡◌, ℕ, ◌+◌, length, Some, refl, sym, ap, ◌∙◌, subst, arith}
use Rattle.semantics.specs.Cells.{Memory}
use Rattle.semantics.specs.Paths.{Path}
use Rattle.semantics.specs.Frames as frames
use Rattle.semantics.specs.Frames.{Does, item_at}
use Rattle.semantics.specs.Events.{Machine, Step, event}
use Rattle.program.specs.declared.identifier.ObjectName.{ObjectName}
use Rattle.program.specs.declared.instruction.Instruction.TheVariants as instruction
use Rattle.program.specs.declared.function.Program.{Program}
use Rattle.frame.specs.declared.frame.Wait.TheVariants as wait
use Rattle.cactus.specs.declared.node.Node.{Node}
use Rattle.cactus.specs.Frames.{node_at}
use Rattle.frame_engine.specs.declared.activation.Frame.{Frame}
use Rattle.frame_engine.specs.declared.activation.Places.{Places}
use Rattle.frame_engine.specs.declared.flat.Flat.{Flat}
use Rattle.frame_engine.specs.Activation.{FrameFits, LedFrame, ShowsFrame, bases_in}
use Rattle.frame_engine.specs.Flat.{cell_in, is_cell}
use Rattle.frame_engine.specs.Shows.{Layout, Safe, SafeSomewhere, ShowsCells}
use Rattle.frame_engine.proofs.Activations.{shows_all}
use Rattle.frame_engine.proofs.Runs.{safe_for}
use Rattle.frame_engine.proofs.Texts.{behind_step, frame_stands, located}
use Rattle.schedule_workers.specs.declared.activation.Activation.{Activation}
use Rattle.schedule_workers.specs.declared.run.Run.{Run}
use Rattle.schedule_workers.specs.Scheduling.{hand_of}
use Rattle.schedule_workers.specs.Layouts.{layout_of, object_at}
use Rattle.schedule_workers.specs.RunShown.{IsShown, item_here, place_of}
use Rattle.schedule_workers.specs.Going.{RunsSafely}
use Rattle.schedule_workers.proofs.Onward.{seen, standing, step_shown}
use Rattle.schedule_workers.proofs.Standing.{can_step}
use Rattle.schedule_workers.proofs.Written.{gone_on}

module _ (prog : Program) (places : Places) (f : Frame) (count : ℕ) (object : ObjectName) (item : item_here prog f ≡ Some (Does (instruction.StoreZeros count object))) where
  abbrev pub behind : Frame
  behind = record f { place = record { block = f.place.block; index = f.place.index + 1 } }

  pub fits_behind : FrameFits prog f → FrameFits prog behind
  fits_behind fits =
      let at = located prog f.function.0 f.place.block.0 f.place.index (Does (instruction.StoreZeros count object)) item in
      frame_stands prog behind at.function at.is (fits.registers at.function at.is) (behind_step prog f.function.0 f.place.block.0 f.place.index (instruction.StoreZeros count object) at)

  -- what stands there in the definitions
  pub placed : (l : Layout) (p : Path) (g : frames.Frame) → ShowsFrame l places p g f → item_at prog g.function g.block g.index ≡ Some (Does (instruction.StoreZeros count object))
  placed l p g t = (λ j. item_at prog (t.function j) (t.block j) (t.index j)) ∙ item

module _ (prog : Program) (places : Places) (k : Run) (slot : ℕ) (n : Node Activation) (a : Activation) (stands : node_at k.cactus slot ≡ Some (record n { frame = a })) (m : Machine) (shown : IsShown prog places m k)
    (count : ℕ) (object : ObjectName) (item : item_here prog a.frame ≡ Some (Does (instruction.StoreZeros count object)))
    (w : ℕ) (hand : hand_of k.hands.items w ≡ Some slot) (safe : RunsSafely prog (length k.hands.items) m) where
  abbrev p : Path
  p = place_of (record n { frame = a })

  abbrev g : frames.Frame
  g = (seen prog places k slot n a stands m shown).frame

  abbrev l : Layout
  l = layout_of prog places k.cactus m.core

  pub safe_here : Safe prog l p g m.core.memory
  safe_here = (can_step prog (length k.hands.items) w p m g m.core.memory (standing prog places k slot n a stands m shown w hand safe)).safe (object_at places k.cactus)

  pub clear_safe : SafeSomewhere (bases_in places a.frame) (is_cell k.cells.cells.items) (λ x z. cell_in k.cells.cells.items x ≡ Some z) a.frame.registers.items (instruction.StoreZeros count object)
  clear_safe =
      let s = seen prog places k slot n a stands m shown in
      record {
        prog = prog;
        layout = l;
        path = p;
        frame = g;
        memory = m.core.memory;
        shown = shows_all l places (bases_in places a.frame) p g m.core.memory a.frame (is_cell k.cells.cells.items) (λ x z. cell_in k.cells.cells.items x ≡ Some z) a.frame.registers.items refl refl s.shows.shown shown.shows.cells;
        safe = safe_for prog l p g m.core.memory (instruction.StoreZeros count object) safe_here (placed prog places a.frame count object item l p g s.shows.shown);
      }

  module _ (f : Frame) (only : f ≡ behind prog places a.frame count object item) (cells : Flat) (done : ℕ) (more : done ≡ k.instructions + 1)
      (leads : (y : Layout) (q : Path) (h : frames.Frame) (x : Memory) → ShowsFrame y places q h a.frame → ShowsCells y (is_cell k.cells.cells.items) (λ v z. cell_in k.cells.cells.items v ≡ Some z) x →
      item_at prog h.function h.block h.index ≡ Some (Does (instruction.StoreZeros count object)) → Safe prog y q h x →
      LedFrame prog y places q h x 0 1 (is_cell cells.cells.items) (λ v z. cell_in cells.cells.items v ≡ Some z) f) where
    same : f ≡ record a.frame { place = f.place; registers = f.registers }
    same = only ∙ (λ i. record a.frame { place = sym (ap (λ (x : Frame). x.place) only) i; registers = sym (ap (λ (x : Frame). x.registers) only) i })

    pub cleared : (next : Machine) × (event prog (length k.hands.items) (Step w) m ≡ Some next) × IsShown prog places next (gone_on prog places m m k slot (record n { frame = a }) g (record a { frame = record f { waits = wait.Nothing } }) cells done k.moves k.hands)
    cleared =
        let s = seen prog places k slot n a stands m shown in
        let led = leads l p g m.core.memory s.shows.shown shown.shows.cells (placed prog places a.frame count object item l p g s.shows.shown) safe_here in
        let counted = led.counted in
        step_shown prog places k slot n a stands m shown w hand safe f same (subst (FrameFits prog) (sym only) (fits_behind prog places a.frame count object item (shown.agrees.nodes slot (record n { frame = a }) stands).fits)) cells done k.moves
        (record { count = led.count; counted = omega (arith, counted, more); frame = led.frame; memory = led.memory; steps = led.steps; shown = led.shown; cells = led.cells })
        (λ e. absurd (omega (arith, e, more))) (omega (arith, more))
