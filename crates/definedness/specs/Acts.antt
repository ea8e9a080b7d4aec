-- What one act defines.
use Rattle.std.specs.Prelude.{ℕ, Option, Some, None}
use Rattle.definedness.specs.declared.act.Act.{Act}
use Rattle.definedness.specs.declared.act.Act.TheVariants.{Needs, Gives}

abbrev pub given : Act → Option ℕ
given (Needs n line) = None
given (Gives n) = Some n
