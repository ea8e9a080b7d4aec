use Rattle.std.proofs.Common.{sym, ◌∙◌}
use Rattle.std.proofs.lemmas.Bool.{true≢false}
use Rattle.region_match.proofs.Endings.{reattach_elsewhere, reattach_right}
use Rattle.region_match.proofs.matching.reattach_fault.Goals as goal

pub returns-then-not-is_detach_before : goal.returns-then-not-is_detach_before
returns-then-not-is_detach_before c = reattach_elsewhere c.args.bodies.now c.args.task c.in-Child.detach c.args.region c.args.continuation c.args.line c.in-Child.is (c.is_detach_within.ensures.0 c.if-not-is_detach_within.false) (λ h. true≢false (sym (c.is_detach_before.ensures.1 h) ∙ c.if-not-is_detach_before.true))

pub returns-else-not-is_detach_before : goal.returns-else-not-is_detach_before
returns-else-not-is_detach_before c = reattach_right c.args.bodies.now c.args.task c.in-Child.detach c.args.region c.args.continuation c.args.line c.in-Child.is (c.is_detach_within.ensures.0 c.if-not-is_detach_within.false) (c.is_detach_before.ensures.0 c.if-not-is_detach_before.false)
