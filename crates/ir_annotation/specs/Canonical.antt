-- Forms as a module's text keeps them.
use Rattle.std.specs.Prelude.{◌≡◌, ◌<◌, ◌≤◌, ◌^◌, pos, Bool, true, false, List, [], ◌∷◌, length, unsigned_abs, All}
use Rattle.std.specs.Ordering.{nat_cmp, int_eq}
use Rattle.std.specs.Cmp.Lexicographic.{slice_cmp}
use Rattle.syntax.specs.declared.annotation.Term.{Term}
use Rattle.syntax.specs.declared.annotation.Form.{Form}
use Rattle.ir_lex.specs.Spelling.{is_name}
use Rattle.ir_annotation.specs.Forms.{is_less}

-- the first name stands before the second in the order of bytes
abbrev pub is_earlier : Term → Term → Bool
is_earlier t u = is_less (slice_cmp nat_cmp t.register u.register)

abbrev pub AreRising : List Term → Type 0
AreRising [] = Unit {0}
AreRising (t ∷ ts) = All (λ u. is_earlier t u ≡ true) ts × AreRising ts

-- a name within its limit, and a coefficient within its own that is not 0
pub record IsTerm (t : Term) : Type 0 where
  pub name : is_name t.register ≡ true
  pub short : length t.register ≤ 64
  pub there : int_eq t.coefficient (pos 0) ≡ false
  pub fits : unsigned_abs t.coefficient < 2 ^ 63

-- terms that rise by the bytes of their names, and a constant within its limit
pub record IsCanonical (f : Form) : Type 0 where
  pub rising : AreRising f.terms
  pub terms : All IsTerm f.terms
  pub constant : unsigned_abs f.constant < 2 ^ 63
