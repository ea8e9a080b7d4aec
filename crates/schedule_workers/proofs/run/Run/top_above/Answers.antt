use Rattle.std.proofs.Common.{◌≡◌, ◌+◌, ◌-◌, suc, Some, None, arith, sym, ap, ◌∙◌}
use Rattle.std.specs.Option.{option_copied}
use Rattle.cactus.specs.Frames.{node_at}
use Rattle.schedule_workers.proofs.Topmost.{absent_top, ended_top, over_top, spent_top}
use Rattle.schedule_workers.proofs.run.Run.top_above.Goals as goal

pub returns-in-None : goal.returns-in-None
returns-in-None c =
    let stands : node_at c.args.self.now.cactus c.loop.top ≡ Some c.in_ok-callee.field-0.now = sym c.node.ensures ∙ ap option_copied c.in_ok-callee.was in
    sym (ended_top c.args.self.now.cactus (c.args.self.now.peak - c.loop.counter) c.loop.top c.in_ok-callee.field-0.now stands c.in-None.is) ∙ c.loop.invariant.exact

pub returns-in_err-callee : goal.returns-in_err-callee
returns-in_err-callee c =
    let absent : node_at c.args.self.now.cactus c.loop.top ≡ None = sym c.node.ensures ∙ ap option_copied c.in_err-callee.was in
    c.from_residual.ensures ∙ (sym (absent_top c.args.self.now.cactus (c.args.self.now.peak - c.loop.counter) c.loop.top absent) ∙ c.loop.invariant.exact)

pub returns-in_err-node : goal.returns-in_err-node
returns-in_err-node c =
    let absent : node_at c.args.self.now.cactus c.loop.top ≡ None = sym c.node-2.ensures ∙ ap option_copied c.in_err-node.was in
    c.from_residual-in_err-node.ensures ∙ (sym (absent_top c.args.self.now.cactus (c.args.self.now.peak - c.loop.counter) c.loop.top absent) ∙ c.loop.invariant.exact)

pub returns-in-Some-callee : goal.returns-in-Some-callee
returns-in-Some-callee c =
    let stands : node_at c.args.self.now.cactus c.loop.top ≡ Some c.in_ok-node.field-0.now = sym c.node-2.ensures ∙ ap option_copied c.in_ok-node.was in
    let spent : c.args.self.now.peak - c.loop.counter ≡ 0 = omega arith in
    sym (spent_top c.args.self.now.cactus (c.args.self.now.peak - c.loop.counter) c.loop.top c.in-Some-callee.field-0 c.in_ok-node.field-0.now spent stands c.in-Some-callee.is) ∙ c.loop.invariant.exact

pub returns-in-None-callee : goal.returns-in-None-callee
returns-in-None-callee c =
    let stands : node_at c.args.self.now.cactus c.loop.top ≡ Some c.in_ok-node.field-0.now = sym c.node-2.ensures ∙ ap option_copied c.in_ok-node.was in
    sym (ended_top c.args.self.now.cactus (c.args.self.now.peak - c.loop.counter) c.loop.top c.in_ok-node.field-0.now stands c.in-None-callee.is) ∙ c.loop.invariant.exact

pub loop-preserved : goal.loop-preserved
loop-preserved c =
    let stands : node_at c.args.self.now.cactus c.loop.top ≡ Some c.in_ok-callee.field-0.now = sym c.node.ensures ∙ ap option_copied c.in_ok-callee.was in
    let one : c.args.self.now.peak - c.loop.counter ≡ suc (c.args.self.now.peak - (c.loop.counter + 1)) = omega arith in
    record {
      exact = sym (over_top c.args.self.now.cactus (c.args.self.now.peak - c.loop.counter) (c.args.self.now.peak - (c.loop.counter + 1)) c.loop.top c.in-Some.callee c.in_ok-callee.field-0.now one stands c.in-Some.is) ∙ c.loop.invariant.exact;
      in_peak = omega arith;
    }
