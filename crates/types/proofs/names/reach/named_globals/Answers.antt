use Rattle.std.proofs.Common.{arith}
use Rattle.types.proofs.names.Naming.{Tabling-none, Tabling-push, Tabling-end}
use Rattle.types.proofs.names.reach.named_globals.Goals as goal

pub loop-start-init : goal.loop-start-init
loop-start-init c = rw c.new-named.ensures (Tabling-none _ _)

pub loop-start-preserved : goal.loop-start-preserved
loop-start-preserved c = rw c.in_ok-push.ensures.ok (Tabling-push _ _ _ _ _ c.loop-start.invariant c.in_ok-of.ensures)

pub returns : goal.returns
returns c = Tabling-end _ _ _ _ c.loop-start.invariant (omega (arith, c.loop-start-test.false, c.loop-start.auto.start-end))
