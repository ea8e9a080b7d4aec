-- Reading that may fail.
use Rattle.std.specs.Prelude.{ℕ, Result, Ok, Err}

infixl 10 ◌>>=◌
abbrev pub ◌>>=◌ : {A B : Type 0} → Result A ℕ → (A → Result B ℕ) → Result B ℕ
(Ok x) >>= f = f x
(Err e) >>= f = Err e

-- what was read, made into something else
abbrev pub made : {A B : Type 0} → (A → B) → Result A ℕ → Result B ℕ
made f (Ok x) = Ok (f x)
made f (Err e) = Err e
