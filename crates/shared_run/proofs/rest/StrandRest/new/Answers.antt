use Rattle.shared_run.proofs.rest.StrandRest.new.Goals as goal

pub returns-clause-stays : goal.returns-clause-stays
returns-clause-stays c = λ places are. c.in_ok-strand.ensures
