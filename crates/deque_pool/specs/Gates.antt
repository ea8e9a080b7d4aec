-- What a run of one worker alone says of its gate. A strand does 65,536 instructions and its border's at most, and one
-- at least.
use Rattle.std.specs.Prelude.{ℕ, ◌*◌, ◌<◌, ◌≤◌}
use Rattle.deque_pool.specs.declared.gate.Go.{Go}
use Rattle.deque_pool.specs.declared.gate.Go.TheVariants.{On, Stop}

-- the worker alone was let on before each of its first strands
abbrev pub LetsOn : (ℕ → ℕ → Go → Type 0) → ℕ → Type 0
LetsOn says strands = (n : ℕ) → n < strands → says 0 n On

-- before each of as many strands as so many instructions take
abbrev pub WasAsked : (ℕ → ℕ → Go → Type 0) → ℕ → Type 0
WasAsked says instructions = (strands : ℕ) × (instructions ≤ strands * 65537) × LetsOn says strands

-- it was let on before some strands, and stopped before the next one
abbrev pub WasStopped : (ℕ → ℕ → Go → Type 0) → Type 0
WasStopped says = (strands : ℕ) × LetsOn says strands × says 0 strands Stop
