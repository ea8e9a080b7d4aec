use Rattle.std.proofs.Common.{◌≡◌, ◌++◌, drop}
use Rattle.frame_engine.specs.Starts.{starts_from}
use Rattle.serial_machine.proofs.places.starts.Given as goal

abbrev pub invariant-loop-size : goal.invariant-loop-size
invariant-loop-size l = l.starts.items ++ starts_from l.next (drop l.size-index l.sizes) ≡ starts_from 0 l.sizes
