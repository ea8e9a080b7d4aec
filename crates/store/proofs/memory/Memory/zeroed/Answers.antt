use Rattle.std.proofs.Common.{◌≡◌, subst}
use Rattle.std.specs.Prelude.{IfOk, map}
use Rattle.program.specs.declared.function.Program.{Program}
use Rattle.store.specs.Named.{zeros}
use Rattle.store.proofs.Made.{made_for_if, made_if}
use Rattle.store.proofs.memory.Memory.zeroed.Goals as goal

pub returns-clause-cells : goal.returns-clause-cells
returns-clause-cells c =
    made_if c.args.verified.now c.of_program.result (subst (λ (q : Program). IfOk c.of_program.result (λ m. m ≡ map zeros q.globals)) c.program.ensures.value c.of_program.ensures)

pub returns-clause-made : goal.returns-clause-made
returns-clause-made c =
    made_for_if c.args.verified.now c.of_program.result (subst (λ (q : Program). IfOk c.of_program.result (λ m. m ≡ map zeros q.globals)) c.program.ensures.value c.of_program.ensures)
