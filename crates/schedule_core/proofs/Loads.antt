-- A worker's frame as a strand is loaded with it.
use Rattle.std.proofs.Common.{◌≡◌, ◌≢◌, ℕ, ◌<◌, ◌≤◌, ℤ, List, [], length, Option, Some, None, Bool, true, false, cond, refl, sym, ap, ◌∙◌, arith, slice_get}
use Rattle.std.specs.Option.{option_map}
use Rattle.std.proofs.Math.Logic.{∥∥₁_elim, ∥∥₁_map}
use Rattle.std.proofs.Props.{props}
use Rattle.std.proofs.Math.Nat.{ℕ_set}
use Rattle.std.proofs.Math.IntN.{ℤ_set}
use mathlib.Core.Sum.{⊎_set}
use Rattle.std.proofs.lemmas.List.{length-reverse}
use Rattle.program.specs.declared.function.Program.{Program}
use Rattle.cactus.specs.declared.node.Node.{Node}
use Rattle.cactus.specs.Frames.{node_at}
use Rattle.frame_engine.specs.Activation.{FrameFits}
use Rattle.frame_engine.specs.Shows.{Layout}
use Rattle.frame_engine.specs.declared.activation.Frame.{Frame}
use Rattle.frame_engine.specs.declared.activation.Places.{Places}
use Rattle.schedule_commit.specs.Fitting.{FitsRun, HoldReads}
use Rattle.schedule_commit.specs.frame_strand.Along.{IsGoing, MayBegin, MayGo, pause_in}
use Rattle.schedule_commit.specs.frame_strand.Standing.{IsCopy}
use Rattle.schedule_commit.specs.frame_strand.declared.cells.Read.{Read}
use Rattle.schedule_commit.specs.frame_strand.declared.outside.FrameStrand.{FrameStrand}
use Rattle.schedule_commit.specs.frame_strand.declared.standing.Course.{Course}
use Rattle.schedule_commit.specs.frame_strand.declared.standing.FrameStrandPause.{FrameStrandPause}
use Rattle.schedule_commit.specs.frame_strand.declared.standing.FrameStrandPause.TheVariants.{Blank}
use Rattle.schedule_commit.specs.laws_strands.Footprint.{Footprint, held}
use Rattle.schedule_commit.specs.laws_strands.FrameStrands as frame_strands
use Rattle.schedule_commit.specs.laws_strands.FrameStrands.{Access, Nowhere, Loads, Stores, Adds, access_of, is_border, is_full, most_done, need, next_of, pause_of}
use Rattle.std.specs.Prelude.{is_some, nat_le}
use Rattle.schedule_workers.specs.declared.activation.Activation.{Activation}
use Rattle.schedule_workers.specs.Layouts.{layout_of, object_at}
use Rattle.schedule_workers.specs.Scheduling.{hand_of}
use Rattle.schedule_workers.specs.RunShown.{place_of}
use Rattle.schedule_workers.proofs.Onward.{fits_prop, seen}
use Rattle.schedule_core.proofs.laws_workers.strands.Law.{alone_too}
use Rattle.schedule_core.specs.declared.stage.Stage.{Stage}
use Rattle.schedule_core.specs.Replaying.{IsMachine, KeepsItsSchedule, state_after}
use Rattle.schedule_core.specs.Stages.{program_of, workers_of}
use Rattle.schedule_core.specs.FrameStrands.{HasRoomFor, IsLoaded}
use Rattle.schedule_core.proofs.Grounds.{laws}
use Rattle.schedule_core.proofs.Views.{hand_is}

room_left : (place path most depth room : ℕ) → place ≡ path → place < most → most ≤ depth → depth ≤ room → path ≤ room
room_left place path most depth room same low within large = omega (arith, same, low, within, large)

module _ (stage : Stage) (kept : ∥ IsMachine stage ∥₁) (worker slot : ℕ) (node : Node Activation) (hand : hand_of stage.run.hands.items worker ≡ Some slot) (stands : node_at stage.run.cactus slot ≡ Some node) where
  pub frame_fits : FrameFits (program_of stage) node.frame.frame
  frame_fits = ∥∥₁_elim kept (fits_prop (program_of stage) node.frame.frame) (λ k. (k.replays.state.shown.agrees.nodes slot node stands).fits)

  pub may_begin : ∥ MayBegin (program_of stage) stage.places node.path.numbers node.frame.frame ∥₁
  may_begin =
      ∥∥₁_map kept (λ k.
      let m = state_after (program_of stage) k.arguments stage.memory (workers_of stage) k.events in
      let s = k.replays.state in
      let g = seen (program_of stage) stage.places stage.run slot node node.frame stands m s.shown in
      record {
        layout = layout_of (program_of stage) stage.places stage.run.cactus m.core;
        frame = g.frame;
        goes = record {
          shown = g.shows.shown;
          apart = s.shown.shows.cells.apart;
          stays = alone_too (program_of stage) m (s.well.strands []) worker (place_of node) g.frame (hand_is stage m s worker slot node hand stands) g.is (object_at stage.places stage.run.cactus);
        };
      })

  -- a strand of the module has room for its path
  pub path_fits : (room : ℕ) → ∥ HasRoomFor (program_of stage) room ∥₁ → length node.path.numbers ≤ room
  path_fits room some =
      ∥∥₁_elim kept (Prim.hlevel (props, ⊎_set, ℕ_set, ℤ_set)) (λ k.
      ∥∥₁_elim some (Prim.hlevel (props, ⊎_set, ℕ_set, ℤ_set)) (λ h.
      let m = state_after (program_of stage) k.arguments stage.memory (workers_of stage) k.events in
      let s = k.replays.state in
      let g = seen (program_of stage) stage.places stage.run slot node node.frame stands m s.shown in
      let theorem : KeepsItsSchedule (program_of stage) k.arguments stage.memory (workers_of stage) k.events =
      (laws.from_start (program_of stage) k.accepted k.arguments k.taken stage.memory k.made (workers_of stage) s.manned).keeps k.events in
      room_left (length (place_of node)) (length node.path.numbers) theorem.serial.depth h.depth room (length-reverse node.path.numbers)
      (theorem.low (place_of node) g.frame g.is) (theorem.within_depth h.depth h.is_depth) h.within))

-- ---- a loaded strand is not blank

blank_never : (l : Layout) (o : Option frame_strands.Pause) → o ≢ Some frame_strands.Blank → option_map (pause_in l) o ≡ Some Blank → ⊥
blank_never l None off e = absurd (cc)
blank_never l (Some frame_strands.Blank) off e = off refl
blank_never l (Some frame_strands.Border) off e = absurd (cc)
blank_never l (Some frame_strands.Limit) off e = absurd (cc)
blank_never l (Some frame_strands.Full) off e = absurd (cc)
blank_never l (Some (frame_strands.Need c)) off e = absurd (cc)

need_never : (f : Footprint) (a : Access) → need f a ≡ Some frame_strands.Blank → ⊥
need_never f Nowhere e = absurd (cc)
need_never f (Stores c) e = absurd (cc)
need_never f (Adds c) e = absurd (cc)
need_never f (Loads c) e = by (is_some (held f c)) e
  where
    by : (b : Bool) → cond b None (Some (frame_strands.Need c)) ≡ Some frame_strands.Blank → ⊥
    by true e = cc
    by false e = cc

pause_never : (prog : Program) (s : frame_strands.FrameStrand) → pause_of prog s ≡ Some frame_strands.Blank → ⊥
pause_never prog s = by (is_border (next_of prog s.present)) (nat_le most_done s.done) (is_full s.footprint (access_of prog s.present))
  where
    by : (a b c : Bool) → cond a (Some frame_strands.Border) (cond b (Some frame_strands.Limit) (cond c (Some frame_strands.Full) (need s.footprint (access_of prog s.present)))) ≡ Some frame_strands.Blank → ⊥
    by true b c e = cc
    by false true c e = cc
    by false false true e = cc
    by false false false e = need_never s.footprint (access_of prog s.present) e

pub going_not_blank : (prog : Program) (places : Places) (x : Course) (pause : Option FrameStrandPause) → ∥ IsGoing prog places x pause ∥₁ → pause ≢ Some Blank
going_not_blank prog places x pause going blank =
    ∥∥₁_elim going (Prim.hlevel (props, ⊎_set, ℕ_set, ℤ_set)) (λ g.
    let start : MayGo prog places x = g.way.started in
    let strand = (g.way.along start.layout start.frame start.goes).strand in
    blank_never start.layout (pause_of prog strand) (pause_never prog strand) ((g.pauses start.layout start.frame start.goes).is ∙ blank))

-- ---- what is loaded fits

none_read : (reads : List Read) (row : List ℤ) → reads ≡ [] → HoldReads reads row
none_read reads row none i r e = absurd (let f : None ≡ Some r = sym (ap (λ (l : List Read). slice_get l i) none) ∙ e in cc)

pub copy_back : (f g : Frame) → IsCopy f g → IsCopy g f
copy_back f g copy = record {
  function = sym copy.function;
  place = sym copy.place;
  registers = sym copy.registers;
  home = sym copy.home;
  made = sym copy.made;
  waits = sym copy.waits;
  role = sym copy.role;
  depth = sym copy.depth;
}

pub is_loaded : (stage : Stage) (worker slot : ℕ) (node : Node Activation) (x : FrameStrand) → hand_of stage.run.hands.items worker ≡ Some slot → node_at stage.run.cactus slot ≡ Some node →
    x.course.path.items ≡ node.path.numbers → IsCopy node.frame.frame x.course.loaded → x.course.done ≡ 0 → x.course.cells.reads ≡ [] → x.pause ≢ Some Blank → IsLoaded stage worker x
is_loaded stage worker slot node x hand stands path copy done reads going = record { fits = (going, (slot, fits)); done = done; reads = reads }
  where
    fits : FitsRun stage.run worker x slot
    fits = record {
      node = node;
      hand = hand;
      stands = stands;
      path = sym path;
      frame = copy_back node.frame.frame x.course.loaded copy;
      reads = none_read x.course.cells.reads stage.run.cells.cells.items reads;
    }
