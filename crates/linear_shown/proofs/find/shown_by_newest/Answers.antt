use Rattle.std.proofs.Common.{◌-◌, length}
use Rattle.linear_shown.proofs.Indexing.{shown_by_more}
use Rattle.linear_shown.proofs.Tested.{shown_passes}
use Rattle.linear_shown.proofs.find.shown_by_newest.Goals as goal

pub returns-then-not-is_empty : goal.returns-then-not-is_empty
returns-then-not-is_empty c = λ h.
    let facts = c.args.search.now.facts.now in
    let form = c.args.search.now.form.now in
    shown_passes facts form (shown_by_more (length facts - 4) facts form (rw c.newest.ensures at (c.shown.ensures.exact.0 h)))
