use Rattle.linear_shown.proofs.Indexing.{begun_more}
use Rattle.linear_shown.proofs.fact_branches.FactBranches.switch_to.Goals as goal

pub enter_after-requires : goal.enter_after-requires
enter_after-requires c =
    let first = c.index_many.new.index in
    rw (c.as_slice.ensures.value, c.in_ok-put_after.ensures) (begun_more c.self.inside.lent.now c.args.more.now first.entered.count first.settled.items first.recent.items first.entered.is_consistent c.index_many.ensures)
