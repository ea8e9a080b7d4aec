use Rattle.std.proofs.Common.{Option, ℕ, Some, None, false, subst, refl}
use Rattle.schedule_workers.specs.Tasks.{FindsTop}
use Rattle.schedule_workers.proofs.Following.{steal_follows, steal_stalls}
use Rattle.schedule_workers.proofs.Stealing.{steals, did_by, nothing}
use Rattle.schedule_workers.proofs.Uses.{follows_same}
use Rattle.schedule_workers.proofs.run.Run.steal.Goals as goal

pub returns-in-Some-clause-steals : goal.returns-in-Some-clause-steals
returns-in-Some-clause-steals c = λ prog places m shown.
    let finds = subst (λ (o : Option ℕ). FindsTop c.args.self.now.cactus c.args.self.now.peak c.args.path.now o) c.in-Some.is c.top_of.ensures in
    steals prog places m c.args.self.now shown c.take.new.self c.args.worker c.args.path.now (Some c.in-Some.top) c.take.result finds
    (did_by c.args.self.now c.take.new.self c.args.worker c.in-Some.top c.take.result c.take.ensures.left c.take.ensures.takes c.take.ensures.enabled)

pub returns-in-None-clause-steals : goal.returns-in-None-clause-steals
returns-in-None-clause-steals c = λ prog places m shown.
    let finds = subst (λ (o : Option ℕ). FindsTop c.args.self.now.cactus c.args.self.now.peak c.args.path.now o) c.in-None.is c.top_of.ensures in
    steals prog places m c.args.self.now shown c.args.self.now c.args.worker c.args.path.now None false finds (nothing refl)

pub returns-in-Some-clause-follows : goal.returns-in-Some-clause-follows
returns-in-Some-clause-follows c = steal_follows c.args.self.now c.take.new.self c.args.worker c.in-Some.top c.take.result c.take.ensures.left c.take.ensures.takes

pub returns-in-Some-clause-stalls : goal.returns-in-Some-clause-stalls
returns-in-Some-clause-stalls c = steal_stalls c.args.self.now c.take.new.self c.args.worker c.in-Some.top c.take.result c.take.ensures.left c.take.ensures.takes

pub returns-in-None-clause-follows : goal.returns-in-None-clause-follows
returns-in-None-clause-follows c = follows_same c.args.self.now.cactus
