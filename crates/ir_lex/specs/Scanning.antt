-- Only the scanner's own functions and its loop need these.
use Rattle.std.specs.Prelude.{◌≡◌, ℕ, ◌<◌, ◌≤◌, List, ◌++◌, Option, Some, None}
use Rattle.refusal.specs.declared.refused.Refused.{Refused}
use Rattle.refusal.specs.Refusals.{IfBroken}
use Rattle.ir_lex.specs.declared.token.Token.{Token}
use Rattle.ir_lex.specs.declared.scan.Front.{Front}
use Rattle.ir_lex.specs.declared.scan.Front.TheVariants.{Begins}

-- a token at the front takes a byte and no more than there are
abbrev pub IsWithin : ℕ → Front → Type 0
IsWithin len (Begins kind n) = (0 < n) × (n ≤ len)
IsWithin len other = Unit {0}

-- tokens, and those that follow
abbrev pub prepend : List Token → Option (List Token) → Option (List Token)
prepend tokens None = None
prepend tokens (Some more) = Some (tokens ++ more)

-- if a fault, then 102, for there are no tokens
abbrev pub IsBadToken : ℕ → Option (List Token) → Refused → Type 0
IsBadToken at tokens fault = IfBroken (λ broken. (broken.number ≡ 102) × (broken.line ≡ at) × (tokens ≡ None)) fault
