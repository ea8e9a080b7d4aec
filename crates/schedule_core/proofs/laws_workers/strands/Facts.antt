-- What is known of a place holds of each frame there that goes on, whatever the schedule.
use Rattle.std.proofs.Common.{None, ◌≡◌, ◌≢◌, ℕ, List, [], Some, true, ℤ}
use Rattle.semantics.specs.Paths.{Path}
use Rattle.semantics.specs.Cells.{Memory}
use Rattle.semantics.specs.Frames.{Halted, Frame}
use Rattle.semantics.specs.State.{State, Change, apply, root_frame}
use Rattle.semantics.specs.Events.{Event, start}
use Rattle.semantics.specs.Replay.{replay}
use Rattle.semantics.specs.Sound.{NeverTraps}
use Rattle.semantics.proofs.Steps.{Does}
use Rattle.program.specs.declared.function.Program.{Program}
use Rattle.serial_machine.specs.verifier.Accepted.{IsProgramOf}
use Rattle.serial_machine.specs.laws_conditions.theorem.Conditions.{Going}
use Rattle.serial_machine.specs.laws_phases.defined.Placed.{IsPlaced}
use Rattle.serial_machine.specs.laws_phases.facts.Known.{KnownHold}
use Rattle.serial_machine.proofs.laws_phases.facts.Handed.{facts_at_start}
use Rattle.serial_machine.specs.laws_schedule.Promise.{AreTaken}
use Rattle.serial_machine.specs.laws_schedule.kinds.Holding.{HasKindedRegisters, is_kinded}
use Rattle.serial_machine.specs.laws_schedule.kinds.Uses.{HasKindedUses}
use Rattle.serial_machine.specs.laws_schedule.zones.ByPhases.{GivesWidths, IsJudged}
use Rattle.serial_machine.specs.laws_schedule.zones.Conditions.{MeetsZones}
use Rattle.serial_machine.specs.laws_schedule.zones.Keeping.{Keeping, OfTask, kept_cells, pending_at, Fits, Expects}
use Rattle.serial_machine.proofs.laws_schedule.Accepted.{IsTaken, regions_of, judged}
use Rattle.serial_machine.proofs.laws_schedule.Starting.{met_at_root}
use Rattle.serial_machine.proofs.laws_schedule.kinds.Given.{widths_are_given_by_tests}
use Rattle.serial_machine.proofs.laws_schedule.kinds.Tested.{kinds_are_tested}
use Rattle.serial_machine.proofs.laws_schedule.zones.Conditions.{zones_are_met}
use Rattle.serial_machine.proofs.laws_schedule.zones.Named.{accepted_zones_are_named}
use Rattle.serial_machine.proofs.laws_schedule.zones.Starting.{zones_at_start}
use Rattle.schedule_core.proofs.laws_workers.strands.Feet.{Standing, standing_kept, standing_held, always_stands}

module _ (text : List ℕ) (program : Program) (accepted : IsProgramOf text program) (t : IsTaken program) (uses : HasKindedUses program) where
  abbrev Kinded : Path → Frame → Type 0
  Kinded p f = is_kinded program f ≡ true

  pub met : IsJudged program (regions_of program t)
  met = judged program t (accepted_zones_are_named text program accepted)

  given : GivesWidths program Kinded
  given = widths_are_given_by_tests program t.names.typed t.names.kinds uses

  zoned : MeetsZones program (regions_of program t) Kinded
  zoned = zones_are_met program (regions_of program t) (λ p f. is_kinded program f) met given

  -- so it is of each frame of a state
  pub record Told (s : State) : Type 0 where
    standing : Standing Keeping (kept_cells program) program (Fits program (regions_of program t) Kinded) (pending_at program) (Expects program) zoned.passes s

  pub told_kept : (s : State) (p : Path) (c : Change) → Does program s p c → c.trap ≡ None → Told s → Told (apply c s)
  told_kept s p c does fine h = record { standing = standing_kept Keeping (kept_cells program) program (Fits program (regions_of program t) Kinded) (pending_at program) (Expects program) zoned.passes s p c does fine h.standing }

  pub told_held : (s : State) (m : Memory) → Told s → Told (record s { memory = m })
  told_held s m h = record { standing = standing_held Keeping (kept_cells program) program (Fits program (regions_of program t) Kinded) (pending_at program) (Expects program) zoned.passes s m h.standing }

  pub told_knows : (s : State) → Told s → (p : Path) (f : Frame) → s.frames p ≡ Some f → f.waits ≢ Halted → Going f → KnownHold program f
  told_knows s h p f is on going = (h.standing.footed.own p f is on).knows going

  pub always_told : (arguments : List ℤ) (memory : Memory) → AreTaken program arguments → IsPlaced program (root_frame program arguments) → HasKindedRegisters program (root_frame program arguments) →
      (workers : ℕ) → NeverTraps program workers (start program arguments memory) → (events : List Event) → Told (replay program workers events (start program arguments memory)).core
  always_told arguments memory taken placed kinds workers never events =
      let root : Keeping = OfTask (root_frame program arguments) placed.function.zones [] in
      let begun : is_kinded program (root_frame program arguments) ≡ true = (kinds_are_tested program (root_frame program arguments)).complete kinds in
      let fits : Fits program (regions_of program t) Kinded [] (root_frame program arguments) root =
      zones_at_start program (regions_of program t) (λ q g. is_kinded program g) met arguments placed.function placed.block placed.is begun
      (facts_at_start program met.ranges arguments (met_at_root program arguments taken)) in
      record { standing = always_stands Keeping (kept_cells program) program (Fits program (regions_of program t) Kinded) (pending_at program) (Expects program) zoned.passes arguments memory root fits workers never events }
