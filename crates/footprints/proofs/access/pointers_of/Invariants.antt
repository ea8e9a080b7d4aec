use Rattle.std.proofs.Common.{◌≡◌, ◌++◌, drop}
use Rattle.footprints.specs.Touched.{pointers_of}
use Rattle.footprints.proofs.access.pointers_of.Given as goal

abbrev pub invariant-loop-step : goal.invariant-loop-step
invariant-loop-step l = l.pointers.items ++ pointers_of (drop l.step-index l.steps) ≡ pointers_of l.steps
