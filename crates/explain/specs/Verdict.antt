-- What an explanation says of a text is what the verifier says of it.
use Rattle.std.specs.Prelude.{ℕ, List, Option, IsSome}
use Rattle.program.specs.declared.function.Program.{Program}
use Rattle.verifier.specs.Accepted.{IsProgramOf, IsRefused}
use Rattle.explain.specs.declared.report.Explanation.{Explanation}
use Rattle.explain.specs.declared.report.Explanation.TheVariants.{Accepted, Refused, Undecided}

-- the text means a program that keeps all rules, or the first fault is the one that the first phase with a fault names,
-- or the effort is spent, if it is bounded
abbrev pub IsVerdictOn : List ℕ → Option ℕ → Explanation → Type 0
IsVerdictOn text effort (Accepted remarks) = (program : Program) × IsProgramOf text program
IsVerdictOn text effort (Refused first others) = IsRefused text (record { line = first.line; number = first.number })
IsVerdictOn text effort Undecided = IsSome effort
