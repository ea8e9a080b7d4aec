use Rattle.region_match.proofs.OneTask.{marks_exact, unmarked_innermost}
use Rattle.region_match.proofs.clash.mixed.Goals as goal

pub returns-clause-exact : goal.returns-clause-exact
returns-clause-exact c =
    marks_exact c.args.blocks.now c.args.tasks.now _ _ _ c.requires (rw c.deref.ensures.value c.in_ok-starts.ensures.exact) (rw c.deref-2.ensures.value c.in_ok-stops.ensures.none) c.in_ok-reached.ensures.exact

pub returns-clause-innermost : goal.returns-clause-innermost
returns-clause-innermost c =
    λ b l off legs path. unmarked_innermost c.args.blocks.now c.args.tasks.now _ _ _ c.requires (rw c.deref.ensures.value c.in_ok-starts.ensures.exact) (rw c.deref-2.ensures.value c.in_ok-stops.ensures.none) c.in_ok-reached.ensures.exact b legs l off path
