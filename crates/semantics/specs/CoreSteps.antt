-- A step without workers, and the children within a region.
use Rattle.std.specs.Prelude.{ℕ, zero, suc, ◌∷◌, Option, Some, None}
use Rattle.std.specs.Prelude.{cond}
use Rattle.semantics.specs.Paths.{Path}
use Rattle.program.specs.declared.function.Program.{Program}
use Rattle.semantics.specs.State.{State, Change, apply, outside, change_of}

abbrev pub applied : State → Option Change → Option State
applied s None = None
applied s (Some c) = Some (apply c s)

abbrev pub core_step : Program → Path → State → Option State
core_step prog p s = applied s (change_of prog s p)

-- living children that the frame at p detached within the region
abbrev pub children_within : State → Path → ℕ → ℕ → ℕ
children_within s p zero region = 0
children_within s p (suc k) region = cond (outside region (s.frames (k ∷ p))) (children_within s p k region)
    (suc (children_within s p k region))
