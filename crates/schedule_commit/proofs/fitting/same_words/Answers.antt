use Rattle.std.proofs.Common.{◌∙◌, sym}
use Rattle.std.specs.Cmp.Rules.{signed_items}
use Rattle.schedule_commit.proofs.fitting.same_words.Goals as goal

pub returns : goal.returns
returns c = ((λ h. (signed_items c.args.one.now c.args.other.now).0 (sym c.eq.ensures ∙ h)), (λ e. c.eq.ensures ∙ (signed_items c.args.one.now c.args.other.now).1 e))
