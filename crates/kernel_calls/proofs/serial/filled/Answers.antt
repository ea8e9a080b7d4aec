use Rattle.std.proofs.Common.{rules, ◌≡◌, ◌∙◌, ◌<◌, List, length, ap, arith, subst, sym}
use Rattle.store.specs.Cells.{NamedCells}
use Rattle.store.specs.Made.{IsMadeFor}
use Rattle.store.specs.Named.{HasGlobalCells}
use Rattle.kernel_calls.specs.Told.{cells_in}
use Rattle.kernel_calls.proofs.Counting.{as_many, filled_cells, filled_made}
use Rattle.kernel_calls.proofs.serial.filled.Goals as goal

pub returns-clause-long : goal.returns-clause-long
returns-clause-long c =
    let program = c.args.kernel.now in
    let row = c.args.cells.now in
    let counted : c.count_cells.result ≡ cells_in program = c.count_cells.ensures ∙ ap cells_in c.program.ensures.value in
    let same : cells_in program ≡ length row = omega (arith, counted, c.if-count_cells-cells.false) in
    let small : length row < 9223372036854775808 = search rules in
    as_many program row same small

pub returns-clause-cells : goal.returns-clause-cells
returns-clause-cells c =
    let program = c.args.kernel.now in
    subst (λ (m : List NamedCells). HasGlobalCells program m) (sym c.refill.ensures) (filled_cells program c.in-Ok.memory c.in-Ok.ensures.made c.args.cells.now (returns-clause-long c))

pub returns-clause-made : goal.returns-clause-made
returns-clause-made c =
    let program = c.args.kernel.now in
    subst (λ (m : List NamedCells). IsMadeFor program m) (sym c.refill.ensures) (filled_made program c.in-Ok.memory c.in-Ok.ensures.made c.args.cells.now (returns-clause-long c))
