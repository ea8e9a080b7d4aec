use Rattle.std.proofs.Common.{◌≡◌, ℕ, Option, Some, sym, ap, subst, ◌∙◌}
use Rattle.std.specs.Prelude.{IsSomeAnd}
use Rattle.std.specs.Option.{option_copied}
use Rattle.frame.specs.declared.path.Path.{Path}
use Rattle.cactus.specs.declared.node.Node.{Node}
use Rattle.cactus.specs.Frames.{node_of_use}
use Rattle.cactus.proofs.FramesLemmas.{node_at-use}
use Rattle.schedule_workers.specs.declared.activation.Activation.{Activation}
use Rattle.schedule_workers.specs.Tasks.{FindsTop, nobody, no_task, task}
use Rattle.schedule_workers.proofs.run.Run.top_of.Goals as goal

named : (o : Option (Node Activation)) (node : Node Activation) (path : Path) → o ≡ Some node → IsSomeAnd o (λ n. n.path ≡ path) → node.path ≡ path
named o node path is has = rw is at has

pub returns-then-is_lowest : goal.returns-then-is_lowest
returns-then-is_lowest c =
    let is : node_of_use c.args.self.now.cactus c.in_ok-lowest.lowest c.in_ok-lowest.generation ≡ Some c.in_ok-node.node.now = sym c.get.ensures ∙ ap option_copied c.in_ok-node.was in
    let stands = node_at-use c.args.self.now.cactus c.in_ok-lowest.lowest c.in_ok-lowest.generation c.in_ok-node.node.now is in
    task c.in_ok-lowest.lowest c.in_ok-node.node.now c.top_above.result stands
    (named (node_of_use c.args.self.now.cactus c.in_ok-lowest.lowest c.in_ok-lowest.generation) c.in_ok-node.node.now c.args.path.now is c.in_ok-lowest.ensures.found) (c.is_lowest.ensures.0 c.if-is_lowest.true) c.top_above.ensures

pub returns-in_err-lowest : goal.returns-in_err-lowest
returns-in_err-lowest c = subst (λ (o : Option ℕ). FindsTop c.args.self.now.cactus c.args.self.now.peak c.args.path.now o) (sym c.from_residual.ensures) (nobody c.in_err-lowest.ensures.absent)

pub returns-else-is_lowest : goal.returns-else-is_lowest
returns-else-is_lowest c =
    let is : node_of_use c.args.self.now.cactus c.in_ok-lowest.lowest c.in_ok-lowest.generation ≡ Some c.in_ok-node.node.now = sym c.get.ensures ∙ ap option_copied c.in_ok-node.was in
    let stands = node_at-use c.args.self.now.cactus c.in_ok-lowest.lowest c.in_ok-lowest.generation c.in_ok-node.node.now is in
    no_task c.in_ok-lowest.lowest c.in_ok-node.node.now stands
    (named (node_of_use c.args.self.now.cactus c.in_ok-lowest.lowest c.in_ok-lowest.generation) c.in_ok-node.node.now c.args.path.now is c.in_ok-lowest.ensures.found) (λ low. let yes = c.is_lowest.ensures.1 low in let no = c.if-is_lowest.false in cc)
