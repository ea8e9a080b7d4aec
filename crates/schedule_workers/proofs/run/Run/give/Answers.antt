use Rattle.std.proofs.Common.{rules, ◌≡◌, ◌+◌, max}
use Rattle.std.specs.Vec.{with_item}
use Rattle.schedule_workers.proofs.run.Run.give.Goals as goal

pub returns : goal.returns
returns c =
    let end : c.max-self.result ≡ max c.args.self.now.end (c.args.block.start + c.args.block.cells) = search rules in
    (λ i. record c.args.self.now { blocks = with_item c.args.self.now.blocks c.args.slot c.args.block; end = end i })
