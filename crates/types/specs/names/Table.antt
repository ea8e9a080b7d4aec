-- What names stand for.
use Rattle.std.specs.Prelude.{ℕ, List, [], ◌∷◌, ◌++◌, Option, Some, None, if◌then◌else◌, is_some}
use Rattle.std.specs.Str.{bytes_eq}

-- what a name stands for: its first definition
abbrev pub look_up : {A : Type 0} → List (List ℕ × A) → List ℕ → Option A
look_up [] name = None
look_up (entry ∷ entries) name = if bytes_eq name entry.0 then Some entry.1 else look_up entries name

-- with one more definition, which a name that is defined already does not get
abbrev pub with_name : {A : Type 0} → List (List ℕ × A) → List ℕ → A → List (List ℕ × A)
with_name entries name meaning = if is_some (look_up entries name) then entries else entries ++ (name, meaning) ∷ []
