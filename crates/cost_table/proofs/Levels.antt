-- The detaches around a block.
use Rattle.std.proofs.Common.{◌≡◌, refl, ◌⊎◌, inl, inr, ℕ, zero, suc, List}
use Rattle.ranges.specs.region_match.declared.task.Task.{Task}
use Rattle.ranges.specs.region_match.declared.task.Task.TheVariants.{Unreached, Body}
use Rattle.cost_table.specs.Depth.{detaches_within}

pub outermost : (tasks : List Task) (n : ℕ) (task : Task) → (task ≡ Unreached) ⊎ (task ≡ Body) → detaches_within tasks n task ≡ 0
outermost tasks zero task h = refl
outermost tasks (suc n) task (inl e) = rw e refl
outermost tasks (suc n) task (inr e) = rw e refl
