use Rattle.std.proofs.Common.{◌≡◌, ◌+◌, ◌<◌, length, arith, rules}
use Rattle.strand.proofs.Settling.{top_made_small}
use Rattle.strand.proofs.strand.Strand.made_on_top.Goals as goal

pub overflow_add-result : goal.overflow_add-result
overflow_add-result c =
    let none : length c.args.self.now.span.windows.below.items ≡ 0 = search rules in
    let small : c.args.self.now.base.frame.made + c.args.self.now.span.more < 18446744073709551616 = top_made_small c.args.program.now c.args.places.now c.args.self.now c.requires.way none in
    search (arith, small)
