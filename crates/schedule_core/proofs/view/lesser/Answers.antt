use Rattle.std.proofs.Common.{sym, ◌∙◌}
use Rattle.schedule_core.proofs.Firsts.{lesser_less, lesser_not}
use Rattle.schedule_core.proofs.view.lesser.Goals as goal

pub returns-in-Less : goal.returns-in-Less
returns-in-Less c = lesser_less c.args.first.now c.args.path.now (sym c.compare.ensures ∙ c.in-Less.is)

pub returns-in_default : goal.returns-in_default
returns-in_default c = lesser_not c.args.first.now c.args.path.now (λ e. c.in_default.not-Less (c.compare.ensures ∙ e))
