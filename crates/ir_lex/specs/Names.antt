-- How names are printed.
use Rattle.std.specs.Prelude.{ℕ, List, ◌++◌, codes}

-- a register, and a global or a function
abbrev pub register_text : List ℕ → List ℕ
register_text name = codes "%" ++ name

abbrev pub global_text : List ℕ → List ℕ
global_text name = codes "@" ++ name
