use Rattle.region_match.proofs.OpenFacts.{open_exact}
use Rattle.region_match.proofs.unsynced.open_marks.Goals as goal

pub returns-clause-exact : goal.returns-clause-exact
returns-clause-exact c =
    open_exact c.args.bodies.now c.args.blocks.now c.args.region c.args.continuation c.requires _ _ _ (rw c.deref.ensures.value c.in_ok-starts.ensures.one) (rw c.deref-2.ensures.value c.in_ok-stops.ensures.exact) c.in_ok-reached.ensures.exact
