-- Names that are defined once.
use Rattle.std.specs.Prelude.{ℕ, Bool, false, ◌||◌, List, [], ◌∷◌, ◌++◌}
use Rattle.std.specs.Str.{bytes_eq}
use Rattle.std.specs.List.{list_any}

abbrev pub is_known : List (List ℕ) → List ℕ → Bool
is_known names name = list_any (bytes_eq name) names

-- one of these stands already, or twice among them
abbrev pub is_repeated : List (List ℕ) → List (List ℕ) → Bool
is_repeated known [] = false
is_repeated known (name ∷ names) = is_known known name || is_repeated (known ++ name ∷ []) names
