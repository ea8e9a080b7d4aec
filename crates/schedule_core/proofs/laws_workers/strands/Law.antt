-- A worker's frame may go on apart from the machine: over borders, and so by itself.
use Rattle.std.proofs.Common.{◌≡◌, ◌≢◌, ℕ, ◌≤◌, List, Some, true, refl, sym, subst, arith, ℤ}
use Rattle.std.proofs.lemmas.List.Elements.{All-nil}
use Rattle.semantics.specs.Paths.{Path}
use Rattle.semantics.specs.Cells.{Memory}
use Rattle.semantics.specs.Frames.{Halted, Frame}
use Rattle.semantics.specs.State.{State, may_go}
use Rattle.semantics.specs.Events.{Machine, Event, start}
use Rattle.semantics.specs.Replay.{replay}
use Rattle.semantics.specs.Sound.{NeverTraps}
use Rattle.semantics.proofs.Actions.{same_path_itself}
use Rattle.semantics.proofs.Steps.{does}
use Rattle.program.specs.declared.function.Program.{Program}
use Rattle.serial_machine.specs.verifier.Accepted.{IsProgramOf}
use Rattle.serial_machine.proofs.laws_conditions.theorem.Feet.{alive_now, going_now}
use Rattle.serial_machine.specs.laws_phases.defined.Starting.{IsFirst}
use Rattle.serial_machine.specs.laws_phases.regions.Closed.{ClosesByPlace}
use Rattle.serial_machine.proofs.laws_phases.defined.Starting.{starts_well}
use Rattle.serial_machine.proofs.laws_phases.regions.Closed.{regions_are_closed}
use Rattle.serial_machine.specs.laws_schedule.Promise.{AreTaken, HasGlobals, KeepsItsPromise}
use Rattle.serial_machine.specs.laws_schedule.kinds.Holding.{HasKindedRegisters}
use Rattle.serial_machine.specs.laws_schedule.kinds.Uses.{HasKindedUses}
use Rattle.serial_machine.specs.laws_schedule.safe.Kept.{OfAll, IsWithin}
use Rattle.serial_machine.specs.laws_schedule.safe.Promise.{IsSafeRun}
use Rattle.serial_machine.specs.laws_schedule.safe.Steps.{IsSteady}
use Rattle.serial_machine.specs.laws_schedule.zones.ByPhases.{GivesWidths}
use Rattle.serial_machine.proofs.laws_schedule.Accepted.{IsTaken, is_taken, regions_of}
use Rattle.serial_machine.proofs.laws_schedule.Promise.{accepted_programs_keep_their_promise}
use Rattle.serial_machine.proofs.laws_schedule.Starting.{as_many}
use Rattle.serial_machine.proofs.laws_schedule.kinds.Given.{widths_are_given}
use Rattle.serial_machine.proofs.laws_schedule.kinds.Kept.{starts_kinded}
use Rattle.serial_machine.proofs.laws_schedule.kinds.Uses.{uses_are_kinded}
use Rattle.serial_machine.proofs.laws_schedule.safe.Everywhere.{step_keeps, of_first}
use Rattle.serial_machine.proofs.laws_schedule.safe.Counted.{step_counted}
use Rattle.serial_machine.proofs.safe.Going.{name_whole}
use Rattle.program.specs.declared.instruction.Instruction.TheVariants as instruction
use Rattle.serial_machine.proofs.laws_schedule.safe.Held.{held_frames_are_steady}
use Rattle.serial_machine.proofs.laws_schedule.safe.Objects.{Known, first_known, known_kept}
use Rattle.serial_machine.proofs.laws_schedule.safe.Replayed.{replay_good}
use Rattle.serial_machine.proofs.laws_schedule.safe.Safe.{schedules_are_safe}
use Rattle.serial_machine.proofs.laws_schedule.safe.Sizes.{uses_are_sized}
use Rattle.schedule_core.proofs.laws_workers.Points.{IsBelow, below_kept, always_below, points_up}
use Rattle.schedule_commit.specs.frame_strand.Alone.{StaysSafeAlone}
use Rattle.schedule_core.proofs.laws_workers.strands.Alone.{Alone, knows_held, stays_safe}
use Rattle.schedule_core.proofs.laws_workers.strands.Facts.{met, Told, told_kept, told_held, told_knows, always_told}
use Rattle.schedule_core.proofs.laws_workers.strands.Numbers.{Firm, firm_kept, firm_held, firm_keeps, always_firm}
use Rattle.laws_strands.specs.stacks.Strands.{Strand, loaded, IsStrand, is_loaded}
use Rattle.laws_strands.specs.stacks.Law.{IsOrderly, Runs, Fits, absorbed, IsKept}
use Rattle.laws_strands.proofs.stacks.StrandsKept.{goes, kept_by_strands}
use Rattle.laws_strands.proofs.stacks.Law.{starts}
use Rattle.laws_strands.proofs.stacks.Reached.{reached_are_orderly}
use Rattle.schedule_core.specs.laws_workers.strands.StrandsPromise.{laid_out, IsSafeStrand, StaysSafeAsStrands, FramesGoAlone, FramesGoAsStrands}
use Rattle.schedule_commit.specs.Absorbing.{GoesAloneIn}

module _ (text : List ℕ) (program : Program) (accepted : IsProgramOf text program) (arguments : List ℤ) (memory : Memory) (given : AreTaken program arguments) (globals : HasGlobals program memory)
    (workers : ℕ) (some : 1 ≤ workers) (events : List Event)
  where
    t : IsTaken program
    t = is_taken text program accepted

    uses : HasKindedUses program
    uses = uses_are_kinded text program accepted

    closed : ClosesByPlace program
    closed = regions_are_closed program t.names.named t.right.graph t.right.regions

    abbrev first : Machine
    first = start program arguments memory

    abbrev m : Machine
    m = replay program workers events first

    promise : KeepsItsPromise program arguments memory
    promise = accepted_programs_keep_their_promise text program accepted arguments memory given globals

    never : NeverTraps program workers first
    never others = (promise.every_schedule workers some others).no_trap.0

    run : IsSafeRun program m
    run = schedules_are_safe text program accepted arguments memory given globals workers some events

    root : IsFirst program arguments memory
    root = starts_well program t.names.named t.right.regions arguments memory (record { main = t.names.main.there; count = as_many program arguments given; globals = globals })

    widths : GivesWidths program (λ q g. HasKindedRegisters program g)
    widths = widths_are_given program t.names.typed t.names.kinds uses

    orderly : IsOrderly m
    orderly = reached_are_orderly program arguments memory workers some events (never events)

    -- ---- what is kept rests on no memory

    abbrev Knows : State → Type 0
    Knows s = Known program t.names.named t.names.objects s

    knows : IsKept program Knows
    knows = record {
      memory = λ s memory h. record {
        tree = record { has_parent = h.tree.has_parent; awaited = h.tree.awaited; lives = h.tree.lives };
        known = λ x g is. knows_held program s memory x g (h.known x g is);
      };
      steps = λ s p c h ch fine. known_kept program t.names.named t.names.objects s p c (does program s p c ch) fine h;
    }

    below : IsKept program (λ s. OfAll s IsBelow)
    below = record { memory = λ s memory h. h; steps = λ s p c h ch fine. step_keeps program IsBelow (below_kept program) s p c (does program s p c ch) fine h }

    abbrev Kinded : Path → Frame → Type 0
    Kinded p f = HasKindedRegisters program f

    kinded : IsKept program (λ s. OfAll s Kinded)
    kinded = record { memory = λ s memory h. h; steps = λ s p c h ch fine. step_keeps program Kinded widths.kept s p c (does program s p c ch) fine h }

    abbrev Counted : State → Type 0
    Counted s = OfAll s (IsWithin s.done)

    counted : IsKept program Counted
    counted = record { memory = λ s memory h. h; steps = λ s p c h ch fine. step_counted program s p c (does program s p c ch) fine h }

    abbrev IsFirm : State → Type 0
    IsFirm s = Firm program t.names.named t.right.regions closed.opens closed.closes s

    firm : IsKept program IsFirm
    firm = record {
      memory = λ s memory h. firm_held program t.names.named t.right.regions closed.opens closed.closes s memory h;
      steps = λ s p c h ch fine. firm_kept program t.names.named t.right.regions closed.opens closed.closes s p c (does program s p c ch) fine h;
    }

    abbrev IsTold : State → Type 0
    IsTold s = Told text program accepted t uses s

    told : IsKept program IsTold
    told = record {
      memory = λ s memory h. told_held text program accepted t uses s memory h;
      steps = λ s p c h ch fine. told_kept text program accepted t uses s p c (does program s p c ch) fine h;
    }

    -- ---- a strand

    module _ (w : ℕ) (d : Strand) (is : IsStrand program d) (runs : Runs m w d) where
      steady : IsSteady program m.core d.base.path d.base.frame
      steady = held_frames_are_steady program arguments memory workers never events w d.base.path d.base.frame runs.hand runs.frame

      abbrev s : State
      s = (absorbed m w d).core

      abbrev p : Path
      p = d.top.path

      abbrev f : Frame
      f = d.top.frame

      stands : s.frames p ≡ Some f
      stands = rw (same_path_itself p)

      may : may_go s p f.made f.waits ≡ true
      may = goes program m w orderly d is runs steady.may s.memory

      on : f.waits ≢ Halted
      on = alive_now s p f stands may

      firm_there : IsFirm s
      firm_there =
          kept_by_strands program IsFirm firm m w d is runs orderly steady.may
          (always_firm program t.names.named t.right.regions closed.opens closed.closes arguments memory root.placed root.regions root.registers workers never events)

      told_there : IsTold s
      told_there =
          kept_by_strands program IsTold told m w d is runs orderly steady.may
          (always_told text program accepted t uses arguments memory given root.placed (starts_kinded program t.names.kinds uses.main arguments (as_many program arguments given)) workers never events)

      begins : Alone program t (regions_of program t) (met text program accepted t uses) uses (uses_are_sized text program accepted) closed.opens closed.closes s p s f
      begins =
          let keeps = (firm_keeps program t.names.named t.right.regions closed.opens closed.closes s firm_there p f stands on).1 in
          record {
            known = kept_by_strands program Knows knows m w d is runs orderly steady.may
                (replay_good program workers Knows (known_kept program t.names.named t.names.objects) events first never (first_known program t.names.named t.names.objects arguments memory));
            below = kept_by_strands program (λ x. OfAll x IsBelow) below m w d is runs orderly steady.may (always_below program arguments memory workers never events);
            lives = stands;
            cells = λ o. refl;
            may = may;
            placed = keeps.placed;
            kinded = (kept_by_strands program (λ x. OfAll x Kinded) kinded m w d is runs orderly steady.may (λ x g there. (run.frames x g there).kinds)) p f stands;
            own = keeps.regions;
            registers = keeps.registers (going_now s p f may);
            facts = told_knows text program accepted t uses s told_there p f stands on (going_now s p f may);
          }

      kinds : HasKindedRegisters program f
      kinds = begins.kinded

      pub goes_as_strand : IsSafeStrand program m w d
      goes_as_strand = record {
        alone = λ at. stays_safe program t (regions_of program t) (met text program accepted t uses) uses (uses_are_sized text program accepted) closed.opens closed.closes s p f begins at;
        whole = λ register callee passed is k name at. name_whole program uses f kinds (instruction.Call register callee passed) is name (k, at);
        points = points_up p f (begins.below p f stands);
        counted = (kept_by_strands program Counted counted m w d is runs orderly steady.may
            (replay_good program workers Counted (step_counted program) events first never
            (of_first program arguments memory (IsWithin 0) (record { index = omega arith; made = omega arith; depth = omega arith })))) p f stands;
      }

pub frames_go_as_strands : FramesGoAsStrands
frames_go_as_strands text program accepted arguments memory given globals workers some events w d is runs =
    goes_as_strand text program accepted arguments memory given globals workers some events w d is runs

-- ---- by itself

-- a frame by itself is a strand that has just begun
pub alone_too : (prog : Program) (m : Machine) → StaysSafeAsStrands prog m → GoesAloneIn prog m
alone_too prog m strands w p f here is at =
    let runs : Runs m w (loaded p f) = record { hand = here; frame = is; synced = All-nil _ } in
    let fits : Fits m w (loaded p f) = record { runs = runs; reads = λ x v e. absurd (cc) } in
    subst (λ (x : Machine). StaysSafeAlone prog (laid_out at prog x.core) p f) (sym (starts m w p f fits)) ((strands w (loaded p f) (is_loaded p f) runs).alone at)

pub frames_go_alone : FramesGoAlone
frames_go_alone text program accepted arguments memory given globals workers some events =
    alone_too program (replay program workers events (start program arguments memory)) (frames_go_as_strands text program accepted arguments memory given globals workers some events)
