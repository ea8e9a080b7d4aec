use Rattle.std.proofs.Common.{sym, ◌∙◌}
use Rattle.std.specs.Cmp.{booleans_Decides}
use Rattle.std.proofs.lemmas.Slice.Eq.{slice_eq-Decides}
use Rattle.definedness.proofs.fork.Flow.settle_next.Goals as goal

pub returns-then-eq-clause-stops : goal.returns-then-eq-clause-stops
returns-then-eq-clause-stops c =
    let same = (slice_eq-Decides booleans_Decides c.as_slice.result.now c.as_slice-2.result.now c.eq.result c.eq.ensures).0 c.if-eq.true in
    sym c.as_slice-2.ensures.value ∙ sym same ∙ c.as_slice.ensures.value
