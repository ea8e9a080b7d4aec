-- How much search a command line pays for.
use Rattle.std.specs.Prelude.{ℕ, Option, Some, None}
use Rattle.cli_words.specs.declared.request.Grant.{Grant}
use Rattle.cli_words.specs.declared.request.Grant.TheVariants as grant

-- so many steps, or as many as it takes
abbrev pub granted_by : Grant → Option ℕ
granted_by grant.Usual = Some 1000000000
granted_by (grant.Steps steps) = Some steps
granted_by grant.Unbounded = None
