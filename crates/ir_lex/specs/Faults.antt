-- What lex answers.
use Rattle.std.specs.Prelude.{◌≡◌, ℕ, List, None, IsUtf8}
use Rattle.refusal.specs.declared.refused.Refused.{Refused}
use Rattle.refusal.specs.Refusals.{IfBroken}
use Rattle.ir_lex.specs.Tokens.{tokens_of}

-- which fault a line has
-- 101 where the line is no UTF-8, else 102 where it has no tokens
pub data IsLexFault (line : List ℕ) : ℕ → Type 0 where
  NotUtf8 : (IsUtf8 line → ⊥) → IsLexFault line 101
  BadToken : IsUtf8 line → tokens_of line ≡ None → IsLexFault line 102

-- if a fault, then one of the line
abbrev pub IsFaultOfTokens : List ℕ → ℕ → Refused → Type 0
IsFaultOfTokens line at fault = IfBroken (λ broken. (broken.line ≡ at) × IsLexFault line broken.number) fault
