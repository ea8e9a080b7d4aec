-- A name is ASCII.
use Rattle.std.proofs.Common.{◌≡◌, ℕ, true, List}
use Rattle.std.specs.Prelude.{IsUtf8}
use Rattle.std.proofs.lemmas.Str.{IsUtf8-from_ascii}
use Rattle.ir_lex.specs.Spelling.{is_name}
use Rattle.ir_lex.proofs.Plain.{name_printed, printed_ascii}

pub name_utf8 : (name : List ℕ) → is_name name ≡ true → IsUtf8 name
name_utf8 name h = IsUtf8-from_ascii name (printed_ascii name (name_printed name h))
