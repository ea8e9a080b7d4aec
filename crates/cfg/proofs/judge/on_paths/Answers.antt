use Rattle.cfg.proofs.Searching.{on_path}
use Rattle.cfg.proofs.judge.on_paths.Goals as goal

pub returns-clause-exact : goal.returns-clause-exact
returns-clause-exact c = on_path _ _ _ _ (rw c.deref.ensures.value c.in_ok-starts.ensures.one) (rw c.deref-2.ensures.value c.in_ok-stops.ensures.none) c.in_ok-reached.ensures.exact
