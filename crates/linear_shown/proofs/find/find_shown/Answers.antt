use Rattle.std.proofs.Common.{◌-◌, length, sym, refl}
use Rattle.linear_shown.proofs.Indexing.{shown_by_more}
use Rattle.linear_shown.proofs.Tested.{shown_passes}
use Rattle.linear_shown.proofs.find.find_shown.Goals as goal

pub returns-then-shown : goal.returns-then-shown
returns-then-shown c =
    sym (shown_passes c.args.facts.now c.args.form.now (shown_by_more (length c.args.facts.now - 4) c.args.facts.now c.args.form.now (rw c.newest.ensures at (c.if-shown.ensures.exact.0 refl))))
