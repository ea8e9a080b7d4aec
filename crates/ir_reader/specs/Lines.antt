-- The lines of a text.
use Rattle.std.specs.Prelude.{ℕ, Bool, not, List, [], ◌∷◌, ◌==◌, take, if◌then◌else◌}
use Rattle.std.specs.List.{prefix_len}

abbrev pub is_inner : ℕ → Bool
is_inner b = not (b == 10)

abbrev pub onto_first : ℕ → List (List ℕ) → List (List ℕ)
onto_first b [] = (b ∷ []) ∷ []
onto_first b (line ∷ lines) = (b ∷ line) ∷ lines

-- each with the LF that ends it; a last one may have none
abbrev pub lines_of : List ℕ → List (List ℕ)
lines_of [] = []
lines_of (b ∷ bs) = if b == 10 then (b ∷ []) ∷ lines_of bs else onto_first b (lines_of bs)

-- a line without its LF
abbrev pub content : List ℕ → List ℕ
content line = take (prefix_len is_inner line) line
