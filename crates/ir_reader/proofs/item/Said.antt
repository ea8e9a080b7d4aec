-- The faults of a line, by where they come from.
use Rattle.std.proofs.Common.{◌≡◌, ℕ, List, Some, Result, Ok, Err, ap, ◌∙◌}
use Rattle.std.specs.Prelude.{IsUtf8, IfErr}
use Rattle.refusal.specs.declared.refused.Refused.{Refused}
use Rattle.refusal.specs.declared.refused.Refused.TheVariants as faults
use Rattle.ir_lex.specs.declared.token.Token.{Token}
use Rattle.ir_lex.specs.Faults.{IsLexFault, IsFaultOfTokens}
use Rattle.ir_lex.specs.Faults as lexed
use Rattle.ir_lex.specs.Tokens.{tokens_of}
use Rattle.ir_reader.specs.item.Lines.{meaning_of, meaning_if_any, IsLineFault, NotUtf8, NotSaid}
use Rattle.ir_reader.specs.item.Answers.{IsFaultOfLine, IsMeaningFault}

of_lexing : (at : ℕ) (line : List ℕ) (number : ℕ) → IsLexFault line number → IsLineFault at line number
of_lexing at line _ (lexed.NotUtf8 h) = NotUtf8 h
of_lexing at line _ (lexed.BadToken utf8 h) = NotSaid 102 utf8 (ap (meaning_if_any at line) h)

pub lexing_fault : (at : ℕ) (line : List ℕ) (e : Refused) → IsFaultOfTokens line at e → IsFaultOfLine at line e
lexing_fault at line faults.Memory h = tt
lexing_fault at line (faults.Fault number found_at) h = (h.0, of_lexing at line number h.1)

meaning_fault : (at : ℕ) (line : List ℕ) (tokens : List Token) (e : Refused) → IsUtf8 line → tokens_of line ≡ Some tokens → IsMeaningFault at (meaning_of at line tokens) e → IsFaultOfLine at line e
meaning_fault at line tokens faults.Memory utf8 cut h = tt
meaning_fault at line tokens (faults.Fault number found_at) utf8 cut h = (h.0, NotSaid number utf8 (ap (meaning_if_any at line) cut ∙ h.1))

pub said_fault : {X : Type 0} (at : ℕ) (line : List ℕ) (tokens : List Token) (r : Result X Refused) → IsUtf8 line → tokens_of line ≡ Some tokens → IfErr r (IsMeaningFault at (meaning_of at line tokens)) → IfErr r (IsFaultOfLine at line)
said_fault at line tokens (Ok x) utf8 cut h = tt
said_fault at line tokens (Err e) utf8 cut h = meaning_fault at line tokens e utf8 cut h
