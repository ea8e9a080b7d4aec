use Rattle.std.proofs.Common.{sym, subst, ℕ}
use Rattle.schedule_workers.specs.Left.{LeavesAsShown}
use Rattle.schedule_workers.proofs.Lending.{lends, lends_no_more, lends_nothing}
use Rattle.schedule_workers.proofs.run.Run.lend.Goals as goal

pub returns-then-self-ne0-clause-left : goal.returns-then-self-ne0-clause-left
returns-then-self-ne0-clause-left c prog places = lends_nothing prog places c.args.self.now

pub returns-in_default-clause-left : goal.returns-in_default-clause-left
returns-in_default-clause-left c prog places = lends_nothing prog places c.args.self.now

pub returns-in_err-grow-clause-left : goal.returns-in_err-grow-clause-left
returns-in_err-grow-clause-left c prog places = lends_no_more prog places c.args.self.now c.grow.new.self c.in_err-grow.ensures.same

pub returns-clause-left : goal.returns-clause-left
returns-clause-left c prog places =
    let old = c.args.self.now in
    subst (λ (n : ℕ). LeavesAsShown prog places old (record old { cells = c.grow.new.self; lent = record { start = old.end; cells = c.args.cells }; end = n })) (sym c.in-Some.ensures.1)
    (lends prog places old c.grow.new.self c.saturating_sub-missing.result c.args.cells c.in_ok-grow.ensures.grown c.if-self-ne0.false)
