use Rattle.std.proofs.Common.{ℕ, Option, subst}
use Rattle.schedule_workers.specs.Tasks.{FindsTop}
use Rattle.schedule_core.proofs.Found.{lives_by, never_none, shown_if, top_lives}
use Rattle.schedule_core.proofs.LinesShown.{line_if}
use Rattle.schedule_core.proofs.TasksShown.{has_spot, no_top}
use Rattle.schedule_core.proofs.Views.{has_node}
use Rattle.schedule_core.proofs.machine.Machine.task.Goals as goal

pub returns-in_err-top-clause-absent : goal.returns-in_err-top-clause-absent
returns-in_err-top-clause-absent c m state =
    let stage = c.args.self.now.stage in
    let finds = subst (λ (o : Option ℕ). FindsTop stage.run.cactus stage.run.peak c.args.path.now o) c.in_err-top.was c.top_of.ensures in
    rw c.from_residual.ensures (no_top stage m state c.args.path.now finds)

pub returns-in_err-lowest-clause-absent : goal.returns-in_err-lowest-clause-absent
returns-in_err-lowest-clause-absent c m state =
    let stage = c.args.self.now.stage in
    let finds = subst (λ (o : Option ℕ). FindsTop stage.run.cactus stage.run.peak c.args.path.now o) c.in_ok-top.was c.top_of.ensures in
    let (slot, node, stands, named) = has_spot stage c.args.path.now c.in_ok-top.top finds in
    absurd (c.in_err-lowest.ensures.absent slot node stands named)

pub returns-clause-shown : goal.returns-clause-shown
returns-clause-shown c m state =
    let stage = c.args.self.now.stage in
    let finds = subst (λ (o : Option ℕ). FindsTop stage.run.cactus stage.run.peak c.args.path.now o) c.in_ok-top.was c.top_of.ensures in
    shown_if stage m state c.view.result c.in_ok-lowest.lowest c.in_ok-top.top c.in_ok-lowest._generation c.args.path.now finds c.in_ok-lowest.ensures.found c.view.ensures.shown

pub returns-clause-absent : goal.returns-clause-absent
returns-clause-absent c m state =
    let stage = c.args.self.now.stage in
    let finds = subst (λ (o : Option ℕ). FindsTop stage.run.cactus stage.run.peak c.args.path.now o) c.in_ok-top.was c.top_of.ensures in
    let (node, stands, named) = has_node stage.run.cactus c.in_ok-lowest.lowest c.in_ok-lowest._generation c.args.path.now c.in_ok-lowest.ensures.found in
    never_none _ c.view.result (c.view.ensures.found (lives_by stage.run.cactus c.in_ok-lowest.lowest node stands) (top_lives stage m state c.args.path.now c.in_ok-top.top finds))

pub returns-clause-line : goal.returns-clause-line
returns-clause-line c = line_if c.args.self.now.stage c.view.result c.in_ok-lowest.lowest c.in_ok-top.top c.args.path.now c.view.ensures.shown (returns-clause-shown c)
