use Rattle.std.proofs.Common.{◌≤◌, List, length, sym, subst, ℤ}
use Rattle.std.specs.Prelude.{sum}
use Rattle.serial_machine.specs.store.Cells.{NamedCells}
use Rattle.serial_machine.specs.store.Rows.{sizes_of}
use Rattle.serial_machine.specs.store.Refilled.{refilled}
use Rattle.schedule_core.specs.Stages.{HoldsGlobals}
use Rattle.schedule_core.proofs.Held.{globals_held, row_holds_all}
use Rattle.schedule_core.proofs.machine.Machine.into_memory.Goals as goal

pub refill-requires : goal.refill-requires
refill-requires c =
    let stage = c.args.self.stage in
    subst (λ (l : List ℤ). sum (sizes_of stage.memory) ≤ length l) (sym c.as_slice.ensures.value) (row_holds_all stage c.args.self.kept)

pub returns : goal.returns
returns c m s =
    let stage = c.args.self.stage in
    subst (λ (l : List NamedCells). HoldsGlobals m stage.memory l) (sym c.refill.ensures)
    (subst (λ (l : List ℤ). HoldsGlobals m stage.memory (refilled stage.memory l)) (sym c.as_slice.ensures.value) (globals_held stage c.args.self.kept m s))
