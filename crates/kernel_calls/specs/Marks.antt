-- What stands for a text.
use Rattle.core.specs.Prelude.{ℕ, List}
use Rattle.core.specs.Hash.DefaultHasher.{finish, with_keys, write}

-- its hash, with the two words of a seed as keys
abbrev pub mark_of : ℕ → ℕ → List ℕ → ℕ
mark_of low high text = finish (write (with_keys low high) text)
