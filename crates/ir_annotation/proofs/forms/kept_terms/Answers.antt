use Rattle.ir_annotation.proofs.Adding.{one_kept, none_kept}
use Rattle.ir_annotation.proofs.forms.kept_terms.Goals as goal

pub loop-term-preserved-in-None-kept : goal.loop-term-preserved-in-None-kept
loop-term-preserved-in-None-kept c = none_kept _ _ _ _ _ _ c.loop-term.invariant.0 c.loop-term.invariant.1 c.in-Some.ensures.steps.0 c.in-None-kept.ensures

pub loop-term-preserved : goal.loop-term-preserved
loop-term-preserved c = one_kept _ _ _ _ _ _ _ _ c.loop-term.invariant.0 c.loop-term.invariant.1 c.in-Some.ensures.steps.0 c.in-Some-kept.ensures c.in_ok-push-in-Some-kept.ensures.ok
