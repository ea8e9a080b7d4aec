-- The law: a text has one verdict.
use Rattle.std.specs.Prelude.{◌≡◌, ℕ, List}
use Rattle.program.specs.declared.function.Program.{Program}
use Rattle.refusal.specs.declared.broken.Broken.{Broken}
use Rattle.verifier.specs.Accepted.{IsProgramOf, IsRefused}

pub record HasOneVerdict (text : List ℕ) : Type 0 where
  -- it means one program at most
  pub program : (p q : Program) → IsProgramOf text p → IsProgramOf text q → p ≡ q
  -- it is refused for one broken rule at most
  pub fault : (broken other : Broken) → IsRefused text broken → IsRefused text other → broken ≡ other
  -- and never both
  pub apart : (p : Program) (broken : Broken) → IsProgramOf text p → IsRefused text broken → ⊥

abbrev pub VerdictsAreOne : Type 0
VerdictsAreOne = (text : List ℕ) → HasOneVerdict text
