-- Which paths stand below one.
use Rattle.std.specs.Prelude.{ℕ, ◌∷◌}
use Rattle.semantics.specs.Paths.{Path}

-- y is x or stands below it
pub data Under (x : Path) : Path → Type 0 where
  itself : Under x x
  deeper : (k : ℕ) {y : Path} → Under x y → Under x (k ∷ y)
