use Rattle.std.proofs.Common.{◌∙◌, sym}
use Rattle.std.specs.Cmp.{unsigned_Decides}
use Rattle.std.specs.Cmp.Lexicographic.{pointwise_decides}
use Rattle.schedule_commit.proofs.fitting.same_numbers.Goals as goal

pub returns : goal.returns
returns c = ((λ h. (pointwise_decides unsigned_Decides c.args.one.now c.args.other.now).0 (sym c.eq.ensures ∙ h)), (λ e. c.eq.ensures ∙ (pointwise_decides unsigned_Decides c.args.one.now c.args.other.now).1 e))
