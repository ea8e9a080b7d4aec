-- The engine's loop takes a strand on.
use Rattle.std.proofs.Common.{◌≡◌, ◌≢◌, ℕ, ◌+◌, ◌≤◌, ◌<◌, List, map, refl, ap, sym, ◌∙◌, subst, arith, ℤ, Option, Some, None}
use Rattle.std.specs.Prelude.{IfSome, reverse}
use Rattle.std.specs.List.{All}
use Rattle.std.specs.Global.{Vec}
use Rattle.semantics.specs.Paths.{Path}
use Rattle.semantics.specs.Cells.{Memory}
use Rattle.semantics.specs.Frames.{Frame, item_at}
use Rattle.program.specs.declared.function.Program.{Program}
use Rattle.laws_strands.specs.FrameStrands as frame_strands
use Rattle.laws_strands.specs.FrameStrands.{IsFrameStrand, next_of, pause_of}
use Rattle.frame_engine.specs.Accesses.{RefusedItem, RefusedOn, Touched, TouchedOn}
use Rattle.frame_engine.specs.Activation.{FrameFits, LedFrame, SafeStanding, ShowsFrame}
use Rattle.frame_engine.specs.Border.{IsBorderItem}
use Rattle.frame_engine.specs.Pause.{IfBorder, IfLimit, IfStopped}
use Rattle.frame_engine.specs.Shows.{Layout, PlainSteps, ShowsCells, StaysSafe}
use Rattle.frame_engine.specs.declared.activation.Frame as machine
use Rattle.frame_engine.specs.declared.activation.Places.{Places}
use Rattle.frame_engine.specs.declared.turning.Pause as engine
use Rattle.frame_engine.specs.declared.turning.Pause.TheVariants as engine_pause
use Rattle.frame_strand.specs.Advancing.{WentOn, with_writes}
use Rattle.frame_strand.specs.Alone.{GoesAlone, StaysSafeAlone}
use Rattle.frame_strand.specs.Along.{IsAlong, IsUnderWay, MayGo, PausesAt}
use Rattle.frame_strand.specs.Buffers.{Buffers, BuffersDo, BuffersRefuse, any_address, may_hold}
use Rattle.frame_strand.specs.Gone.{Gone, named}
use Rattle.frame_strand.specs.Keeping.{AreDifferent}
use Rattle.frame_strand.specs.Showing.{read_of}
use Rattle.frame_strand.specs.declared.cells.Read.{Read}
use Rattle.frame_strand.specs.declared.cells.CellStop.{CellStop}
use Rattle.frame_strand.specs.declared.standing.Course.{Course}
use Rattle.frame_strand.specs.declared.standing.FrameStrandPause.TheVariants.{Border}
use Rattle.frame_strand.proofs.Advancing as advancing
use Rattle.frame_strand.proofs.Alone.{stays_safe}
use Rattle.frame_strand.proofs.Borders.{pauses_there}
use Rattle.frame_strand.proofs.Pausing.{stands_at, stopped_at}
use Rattle.frame_strand.proofs.Seen.{seen_by, seen_full, seen_reads, seen_shows}
use Rattle.frame_strand.proofs.Walking.{one_way}

abbrev here_is : Course → Path
here_is x = reverse x.path.items

module _ (prog : Program) (places : Places) (x : Course) (differ : AreDifferent (map (λ (r : Read). r.at) x.cells.reads)) (way : IsUnderWay prog places x) where
  -- of one frame of the definitions
  module _ (l : Layout) (g : Frame) (goes : GoesAlone prog places l (here_is x) g x.loaded) where
    abbrev pub along : IsAlong prog places l (here_is x) g x
    along = way.along l g goes

    abbrev pub s : frame_strands.FrameStrand
    s = along.strand

    abbrev pub m : Memory
    m = seen_by l s.footprint

    abbrev pub seen : Memory
    seen = with_writes m s.footprint

    pub reads : All (λ r. m r.0 ≡ Some r.1) s.footprint.reads
    reads = seen_reads l s.footprint x.cells along.shown.footprint goes.apart differ

    pub cells : ShowsCells l (any_address x.cells) (may_hold x.cells) seen
    cells = seen_shows l s.footprint x.cells along.shown.footprint goes.apart differ

    pub stays : StaysSafe prog l s.path s.present seen
    stays =
        stays_safe prog l s seen along.is
        (subst (λ (t : Path × Frame). StaysSafeAlone prog l t.0 t.1) (λ i. (sym along.path i, sym along.loaded i)) goes.stays)
        (seen_full l s.footprint x.cells along.shown.footprint goes.apart differ)

  pub safe_standing : SafeStanding prog places x.present (any_address x.cells) (may_hold x.cells)
  safe_standing =
      let l = way.started.layout in
      let g = way.started.frame in
      let goes = way.started.goes in
      record { layout = l; path = (s l g goes).path; frame = (s l g goes).present; memory = seen l g goes; shown = (along l g goes).shown.present; cells = cells l g goes; stays = stays l g goes }

  abbrev pub Going : (machine.Frame) → ℕ → Buffers → Type 0
  Going f d b =
      (l : Layout) (p : Path) (g : Frame) (k : Memory) → ShowsFrame l places p g x.present → ShowsCells l (any_address x.cells) (may_hold x.cells) k →
      StaysSafe prog l p g k → LedFrame prog l places p g k x.done d (any_address b) (may_hold b) f

  abbrev pub Doing : ℕ → Buffers → Type 0
  Doing d b =
      (l : Layout) (p : Path) (g : Frame) (k : Memory) → ShowsFrame l places p g x.present → ShowsCells l (any_address x.cells) (may_hold x.cells) k →
      StaysSafe prog l p g k → TouchedOn BuffersDo prog l p g k x.done d x.cells b

  abbrev pub Refusing : ℕ → Buffers → CellStop → Type 0
  Refusing d b q =
      (l : Layout) (p : Path) (g : Frame) (k : Memory) → ShowsFrame l places p g x.present → ShowsCells l (any_address x.cells) (may_hold x.cells) k →
      StaysSafe prog l p g k → RefusedOn BuffersRefuse prog l p g k x.done d b q

  -- the loop led to this frame and these buffers
  module _ (f : machine.Frame) (d : ℕ) (b : Buffers) (w : Vec ℤ) (limit : ℕ) (room : d ≤ limit) (most : limit ≤ 65536) (led : Going f d b) (did : Doing d b) where
    abbrev after : Course
    after = record { path = x.path; loaded = x.loaded; present = f; done = d; cells = b; moves = w }

    module _ (l : Layout) (g : Frame) (goes : GoesAlone prog places l (here_is x) g x.loaded) where
      abbrev way_on : LedFrame prog l places (s l g goes).path (s l g goes).present (seen l g goes) x.done d (any_address b) (may_hold b) f
      way_on = led l (s l g goes).path (s l g goes).present (seen l g goes) (along l g goes).shown.present (cells l g goes) (stays l g goes)

      same_count : (o : TouchedOn BuffersDo prog l (s l g goes).path (s l g goes).present (seen l g goes) x.done d x.cells b) → Touched BuffersDo prog l (s l g goes).path (s l g goes).present (seen l g goes) x.cells way_on.count b
      same_count o =
          let same : o.count ≡ way_on.count = let u = o.counted in let v = way_on.counted in omega (arith, u, v) in
          subst (λ (n : ℕ). Touched BuffersDo prog l (s l g goes).path (s l g goes).present (seen l g goes) x.cells n b) same o.touched_is

      far : way_on.count + (s l g goes).done ≤ 65536
      far = let e = (along l g goes).shown.done in let k = way_on.counted in omega (arith, room, most, e, k)

      pub went : WentOn prog l (s l g goes) way_on.count way_on.frame b
      went =
          advancing.accesses_are_frame_strands prog l (s l g goes) x.cells (m l g goes) (along l g goes).is goes.apart (along l g goes).shown.footprint (reads l g goes) way_on.count b way_on.frame way_on.memory
          (same_count (did l (s l g goes).path (s l g goes).present (seen l g goes) (along l g goes).shown.present (cells l g goes) (stays l g goes)))
          way_on.steps far

      abbrev pub along_on : IsAlong prog places l (here_is after) g after
      along_on = record {
        strand = went.strand;
        is = went.is;
        path = went.path ∙ (along l g goes).path;
        loaded = went.loaded ∙ (along l g goes).loaded;
        shown = record {
          path = went.path ∙ (along l g goes).shown.path;
          loaded = subst (λ (t : Path × Frame). ShowsFrame l places t.0 t.1 x.loaded) (λ i. (sym went.path i, sym went.loaded i)) (along l g goes).shown.loaded;
          present = subst (λ (t : Path × Frame). ShowsFrame l places t.0 t.1 f) (λ i. (sym went.path i, sym went.present i)) way_on.shown;
          done = let u = went.done in let e = (along l g goes).shown.done in let k = way_on.counted in omega (arith, u, e, k);
          footprint = went.shown;
        };
      }

      reads_kept : b.reads ≡ x.cells.reads
      reads_kept = went.shown.reads ∙ ap (map (read_of l)) went.reads ∙ sym (along l g goes).shown.footprint.reads

      few : d ≢ limit → went.strand.done < 65536
      few other = let e = along_on.shown.done in omega (arith, room, most, other, e)

      refused_here : (q : CellStop) → Refusing d b q → RefusedItem BuffersRefuse l went.strand.present b q (next_of prog went.strand.present)
      refused_here q refuses =
          let o = refuses l (s l g goes).path (s l g goes).present (seen l g goes) (along l g goes).shown.present (cells l g goes) (stays l g goes) in
          let same : o.count ≡ way_on.count = let u = o.counted in let v = way_on.counted in omega (arith, u, v) in
          let steps = subst (λ (n : ℕ). PlainSteps prog (s l g goes).path (s l g goes).present (seen l g goes) n o.refused.frame o.refused.memory) same o.refused.steps in
          let there = (one_way prog (s l g goes).path (s l g goes).present (seen l g goes) way_on.count o.refused.frame o.refused.memory steps way_on.frame way_on.memory way_on.steps).0 in
          subst (λ (h : Frame). RefusedItem BuffersRefuse l h b q (item_at prog h.function h.block h.index)) (there ∙ sym went.present) o.refused.item

      pub pauses_on : (r : engine.Pause CellStop) → IfBorder r (IsBorderItem (item_at prog f.function.0 f.place.block.0 f.place.index)) → IfLimit r (d ≡ limit) → IfStopped r (Refusing d b) → d ≢ limit → PausesAt prog l went.strand (Some (named r))
      pauses_on engine_pause.Border at all refuses other =
          stands_at prog l went.strand frame_strands.Border Border (pauses_there {S = CellStop} prog l places went.strand f engine_pause.Border along_on.shown.present at) refl tt
      pauses_on engine_pause.Limit at all refuses other = absurd (other all)
      pauses_on (engine_pause.Stopped q) at all refuses other = stopped_at prog l goes.apart went.strand b went.shown (few other) q (refused_here q refuses)

    pub same_reads : b.reads ≡ x.cells.reads
    same_reads = reads_kept way.started.layout way.started.frame way.started.goes

    pub grown : x.done ≤ d
    grown = let k = (way_on way.started.layout way.started.frame way.started.goes).counted in omega (arith, k)

    pub gone : (r : engine.Pause CellStop) → FrameFits prog f → IfBorder r (IsBorderItem (item_at prog f.function.0 f.place.block.0 f.place.index)) → IfLimit r (d ≡ limit) → IfStopped r (Refusing d b) → Gone prog places after r limit
    gone r fits at all refuses = record {
      way = record { stands = fits; room = omega (arith, room, most); started = record { layout = way.started.layout; frame = way.started.frame; goes = way.started.goes }; along = along_on };
      pauses = λ other l g goes. pauses_on l g goes r at all refuses other;
    }
