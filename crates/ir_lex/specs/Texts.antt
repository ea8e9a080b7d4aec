-- The bytes of a token.
use Rattle.std.specs.Prelude.{ℕ, ◌-◌, List, take, drop}
use Rattle.ir_lex.specs.declared.token.Token.{Token}

abbrev pub text_at : List ℕ → Token → List ℕ
text_at line t = take (t.to - t.from) (drop t.from line)
