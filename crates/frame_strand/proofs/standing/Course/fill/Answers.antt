use Rattle.frame_strand.proofs.standing.Course.fill.Goals as goal

pub returns-clause-filled : goal.returns-clause-filled
returns-clause-filled c = λ l places s x shown apart here is.
    record { path = shown.path; loaded = shown.loaded; present = shown.present; done = shown.done; footprint = c.fill.ensures.shown l s.footprint x apart here is shown.footprint }
