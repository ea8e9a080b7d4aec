use Rattle.std.proofs.Common.{◌≡◌, ◌∙◌, ◌++◌, ap}
use Rattle.ranges.proofs.judge.edge_fault.Goals as goal

pub returns-clause-fault : goal.returns-clause-fault
returns-clause-fault c =
    let known : c.known.result ≡ c.args.facts.now.0 ++ c.args.edge.now.facts = c.known.ensures ∙ c.in_ok-switch_to.ensures.all ∙ ap (λ more. c.args.facts.now.0 ++ more) c.as_slice-2.ensures in
    rw (known, c.deref.ensures.value, c.in_ok-owed.ensures, c.as_slice.ensures, c.keeps_of-keeps.ensures) at c.unmet_fault.ensures
