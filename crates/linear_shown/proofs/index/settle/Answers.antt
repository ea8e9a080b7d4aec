use Rattle.std.proofs.Common.{[]}
use Rattle.linear_shown.proofs.Indexing.{begun_other, layers_swapped, layers_settled}
use Rattle.linear_shown.proofs.index.settle.Goals as goal

pub returns-then-is_empty-clause-begun : goal.returns-then-is_empty-clause-begun
returns-then-is_empty-clause-begun c =
    let facts = c.args.facts.now in
    let index = c.args.index.now in
    rw (c.swap.ensures.x_after, c.swap.ensures.y_after)
    (begun_other facts index.entered.count index.settled.items index.recent.items index.recent.items index.settled.items index.entered.is_consistent c.requires
    (layers_swapped facts index.entered.count index.settled.items index.recent.items c.requires.layers))

pub returns-clause-begun : goal.returns-clause-begun
returns-clause-begun c =
    let facts = c.args.facts.now in
    let index = c.args.index.now in
    let new = c.merge_into.new.entries.items in
    let entered = rw c.as_slice.ensures.value at c.in_ok-merge_into.ensures.entered in
    rw c.clear.ensures.items
    (begun_other facts index.entered.count index.settled.items index.recent.items new [] index.entered.is_consistent c.requires
    (layers_settled facts index.entered.count index.settled.items index.recent.items new c.requires.layers c.in_ok-merge_into.ensures.entries c.in_ok-merge_into.ensures.kept entered))
