use Rattle.definedness.proofs.check.alloca_rows.Goals as goal

pub unsure_rows-requires-clause-forks : goal.unsure_rows-requires-clause-forks
unsure_rows-requires-clause-forks c = rw c.as_slice.ensures.value c.in_ok-forks.ensures.each

pub unsure_rows-requires-clause-size : goal.unsure_rows-requires-clause-size
unsure_rows-requires-clause-size c = rw c.as_slice.ensures.value c.in_ok-forks.ensures.size
