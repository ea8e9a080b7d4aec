use Rattle.std.proofs.Common.{sym, ◌∙◌}
use Rattle.definedness.proofs.Due.{due_lowers, due_taken}
use Rattle.definedness.proofs.OnOk.{on_ok, on_ok_two}
use Rattle.definedness.proofs.Settling.{lowers_none, sure_lowers, sure_within}
use Rattle.definedness.proofs.fork.Flow.narrow.Goals as goal

pub returns-then-is_in-clause-lowers : goal.returns-then-is_in-clause-lowers
returns-then-is_in-clause-lowers c =
    let sure = sym c.is_in.ensures ∙ c.if-is_in.true in
    on_ok_two c.lose_sure.result _ _ _ (λ put noted. sure_lowers c.args.stops.now c.args.self.now.forks.now c.args.self.now.blocks.now c.args.sets.now c.args.work.now.items c.lose_sure.new.sets c.lose_sure.new.work.items c.args.to c.in-Due.regions c.requires.fit sure (sure_within c.args.sets.now c.args.to sure) put noted (rw c.in-Due.is at c.requires.few) (rw c.in-Due.is at c.requires.given)) c.lose_sure.ensures.labels c.lose_sure.ensures.lacking

pub returns-else-is_in-clause-lowers : goal.returns-else-is_in-clause-lowers
returns-else-is_in-clause-lowers c =
    on_ok c.lose_due.result _ _ (λ keeps. due_lowers c.args.stops.now c.args.self.now.forks.now c.args.self.now.blocks.now c.args.sets.now c.args.work.now.items c.lose_due.new.sets c.lose_due.new.work.items c.args.to c.in-Due.regions c.requires.fit (sym c.is_in.ensures ∙ c.if-is_in.false) (rw c.in-Due.is at c.requires.given) keeps) (rw c.as_slice.ensures at c.lose_due.ensures)

pub returns-else-is_in-clause-taken : goal.returns-else-is_in-clause-taken
returns-else-is_in-clause-taken c =
    rw c.in-Due.is (on_ok c.lose_due.result _ _ (λ keeps. due_taken c.args.stops.now c.args.self.now.forks.now c.args.self.now.blocks.now c.args.sets.now c.args.work.now.items c.lose_due.new.sets c.lose_due.new.work.items c.args.to c.in-Due.regions c.requires.fit (sym c.is_in.ensures ∙ c.if-is_in.false) (rw c.in-Due.is at c.requires.given) keeps) (rw c.as_slice.ensures at c.lose_due.ensures))

pub returns-in-Sure-clause-lowers : goal.returns-in-Sure-clause-lowers
returns-in-Sure-clause-lowers c = lowers_none c.args.stops.now c.args.self.now.forks.now c.args.self.now.blocks.now c.args.sets.now c.args.work.now.items c.requires.fit

pub returns-in-Sure-clause-taken : goal.returns-in-Sure-clause-taken
returns-in-Sure-clause-taken c = λ k h. rw c.in-Sure.is

pub lose_sure-requires : goal.lose_sure-requires
lose_sure-requires c = sure_within c.args.sets.now c.args.to (sym c.is_in.ensures ∙ c.if-is_in.true)
