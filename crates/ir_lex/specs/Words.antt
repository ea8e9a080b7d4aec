-- The words of an annotation's line.
use Rattle.std.specs.Prelude.{ℕ, Bool, true, false, ◌&&◌, List, [], ◌∷◌, ◌++◌}
use Rattle.std.specs.List.{list_all}
use Rattle.ir_lex.specs.Spelling.{is_printed}

-- words behind ;!, each behind a space
abbrev pub words_text : List (List ℕ) → List ℕ
words_text [] = []
words_text (w ∷ ws) = 32 ∷ (w ++ words_text ws)

-- words have a byte at least, and printed ASCII without ;
abbrev pub are_words : List (List ℕ) → Bool
are_words [] = true
are_words ([] ∷ ws) = false
are_words ((b ∷ w) ∷ ws) = list_all is_printed (b ∷ w) && are_words ws
