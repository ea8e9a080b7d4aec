-- The schedule theorem.
use Rattle.std.proofs.Common.{◌≡◌, true}
use Rattle.semantics.specs.State.{root_frame}
use Rattle.laws_schedule.specs.kinds.Holding.{is_kinded}
use Rattle.laws_schedule.specs.kinds.Ready.{IsReadByRules}
use Rattle.laws_schedule.specs.kinds.Uses.{HasKindedUses}
use Rattle.laws_schedule.proofs.kinds.Given.{widths_are_given_by_tests}
use Rattle.laws_schedule.proofs.kinds.Kept.{starts_kinded}
use Rattle.laws_schedule.proofs.kinds.Ready.{frames_are_ready}
use Rattle.laws_schedule.proofs.kinds.Tested.{kinds_are_tested}
use Rattle.laws_schedule.proofs.kinds.Uses.{uses_are_kinded}
use Rattle.laws_phases.specs.regions.Closed.{ClosesByPlace}
use Rattle.laws_phases.proofs.regions.Closed.{regions_are_closed}
use Rattle.laws_schedule.proofs.zones.Named.{accepted_zones_are_named}
use Rattle.program.specs.declared.function.Program.{Program}
use Rattle.laws_schedule.specs.Promise.{AcceptedProgramsKeepTheirPromise}
use Rattle.laws_schedule.proofs.Accepted.{IsTaken, is_taken}
use Rattle.laws_schedule.proofs.Runs.{MakesReady}
use Rattle.laws_schedule.proofs.Schedules.{keeps}
use Rattle.laws_schedule.proofs.Starting.{as_many}

-- in a frame whose registers hold values of their kinds, all that it reads is there
kinds_make_ready : (program : Program) → IsTaken program → HasKindedUses program → MakesReady program (λ p f. is_kinded program f ≡ true)
kinds_make_ready program t uses p f m placed registers kinded values regions =
    let read : IsReadByRules program =
    record { graph = t.right.graph; regions = t.right.regions; defined = t.names.uses; kinds = t.names.kinds; uses = uses } in
    let kinds = (kinds_are_tested program f).sound kinded in
    frames_are_ready program read p f m (record { placed = placed; registers = registers; kinded = kinds; values = values; regions = regions })

pub accepted_programs_keep_their_promise : AcceptedProgramsKeepTheirPromise
accepted_programs_keep_their_promise text program accepted arguments memory given globals =
    let t : IsTaken program = is_taken text program accepted in
    let uses : HasKindedUses program = uses_are_kinded text program accepted in
    let closed : ClosesByPlace program = regions_are_closed program t.names.named t.right.graph t.right.regions in
    let starts = starts_kinded program t.names.kinds uses.main arguments (as_many program arguments given) in
    keeps program t (accepted_zones_are_named text program accepted) (λ p f. is_kinded program f)
    (widths_are_given_by_tests program t.names.typed t.names.kinds uses) (kinds_make_ready program t uses) closed.opens closed.closes
    arguments memory given globals ((kinds_are_tested program (root_frame program arguments)).complete starts)
