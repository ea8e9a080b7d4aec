use Rattle.std.proofs.Common.{◌∙◌, arith, subst, sym}
use Rattle.shared_run.proofs.schedule_core.Grounds.{made_cells}
use Rattle.deque_pool.specs.declared.gate.Go.{Go}
use Rattle.deque_pool.specs.declared.gate.Go.TheVariants.{On}
use Rattle.deque_pool.specs.Gates.{LetsOn}
use Rattle.deque_pool.proofs.Answered.{answered_by}
use Rattle.deque_pool.proofs.Asked.{asked_whole, counted, last_asked, let_on}
use Rattle.deque_pool.proofs.alone.run_alone.Goals as goal

pub begin-requires-clause-cells : goal.begin-requires-clause-cells
begin-requires-clause-cells g c = made_cells c.args.verified.now c.args.memory c.requires.made

pub run_unwatched-requires : goal.run_unwatched-requires
run_unwatched-requires g c = record { cells = made_cells c.args.verified.now c.args.memory c.requires.made }

pub returns-then-not-watches-clause-asked : goal.returns-then-not-watches-clause-asked
returns-then-not-watches-clause-asked g c = asked_whole (g.G.Gate.says c.args.gate.now) (c.watches.ensures c.if-not-watches.true) c.run_unwatched.result

pub returns-then-not-watches-clause-stopped : goal.returns-then-not-watches-clause-stopped
returns-then-not-watches-clause-stopped g c = λ e. absurd (c.run_unwatched.ensures.not_stopped e)

pub loop-init : goal.loop-init
loop-init g c = record {
  run = c.in_ok-run.ensures.begins;
  asked = λ n low. absurd (omega (arith, low));
  few = omega arith;
  enough = let none = c.in_ok-run.ensures.none in omega (arith, none);
}

pub loop-preserved : goal.loop-preserved
loop-preserved g c =
    let says = g.G.Gate.says c.args.gate.now in
    let i = c.loop.invariant in
    let goes = rw c.in-Ok-None.field-0-is at c.in-Ok-None.ensures.goes in
    let gets_on = rw c.in-Ok-None.field-0-is at c.in-Ok-None.ensures.gets_on in
    let few = rw c.in-Ok-None.field-0-is at c.in-Ok-None.ensures.few in
    let more = gets_on.0 in
    let within = gets_on.1 in
    let budget = goes.3.few in
    let on : says 0 c.loop.strand On = subst (λ (go : Go). says 0 c.loop.strand go) c.in-On.is c.pass.ensures in
    let old = i.few in
    let enough = i.enough in
    let next = counted c.loop.strand c.saturating_add-strand.result c.loop.run.done c.strand.new.self.done c.saturating_add-strand.ensures old more (omega (arith, within, budget)) in
    record {
      run = (goes.0 ∙ i.run.0, goes.1 ∙ i.run.1, goes.2 ∙ i.run.2, goes.3);
      asked = subst (LetsOn says) (sym next) (let_on says c.loop.strand i.asked on);
      few = omega (arith, next, old, more);
      enough = omega (arith, next, few, enough);
    }

pub returns-in-Stop-clause-stopped : goal.returns-in-Stop-clause-stopped
returns-in-Stop-clause-stopped g c = λ e. (c.loop.strand, c.loop.invariant.asked, subst (λ (go : Go). g.G.Gate.says c.args.gate.now 0 c.loop.strand go) c.in-Stop.is c.pass.ensures)

pub returns-in-Ok-Some-clause-answer : goal.returns-in-Ok-Some-clause-answer
returns-in-Ok-Some-clause-answer g c =
    let from = c.loop.invariant.run in
    answered_by _ c.args.verified.now _ c.args.arguments.now _ c.args.memory 1 from.0 from.1 from.2 c.in-Ok-Some.field-0 _ c.in-Ok-Some.field-0-is c.in-Ok-Some.ensures.ends

pub returns-in-Ok-Some-clause-asked : goal.returns-in-Ok-Some-clause-asked
returns-in-Ok-Some-clause-asked g c =
    let says = g.G.Gate.says c.args.gate.now in
    let i = c.loop.invariant in
    last_asked says c.loop.strand c.loop.run.done c.in-Ok-Some.field-0 _ c.in-Ok-Some.field-0-is c.in-Ok-Some.ensures.last i.enough i.asked (subst (λ (go : Go). says 0 c.loop.strand go) c.in-On.is c.pass.ensures)
