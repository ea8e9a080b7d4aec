use Rattle.std.proofs.Common.{◌≡◌, ℕ, ◌<◌}
use Rattle.std.specs.Prelude.{slice_get}
use Rattle.schedule_workers.specs.RunShown.{cells_in}
use Rattle.schedule_workers.proofs.lent.have_no_allocas.Given as goal

abbrev pub invariant-loop-function : goal.invariant-loop-function
invariant-loop-function l = (f : ℕ) → f < l.function-index → cells_in (slice_get l.functions f) ≡ 0
