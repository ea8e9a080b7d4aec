-- Words in the room that a host gives for them.
use Rattle.std.specs.Prelude.{◌≡◌, ◌⊎◌, ℕ, ◌++◌, List, length, take, drop}
use Rattle.kernel_calls.specs.Told.{done, out_of_effort, out_of_memory, refused}

abbrev pub no_rule : ℕ
no_rule = 7

abbrev pub not_found : ℕ
not_found = 8

-- of a rule
abbrev pub IsRuleStatus : ℕ → Type 0
IsRuleStatus n = (n ≡ done) ⊎ ((n ≡ no_rule) ⊎ (n ≡ out_of_memory))

-- of a text that was judged
abbrev pub IsExplained : ℕ → Type 0
IsExplained n = (n ≡ done) ⊎ ((n ≡ refused) ⊎ (n ≡ out_of_effort))

abbrev pub IsExplainStatus : ℕ → Type 0
IsExplainStatus n = (n ≡ out_of_memory) ⊎ IsExplained n

-- as many of the bytes as there is room for stand at its front, the rest of it is as it was, and `needed` is how many
-- bytes there are
pub record StandsIn (before : List ℕ) (words after : List ℕ) (needed : ℕ) : Type 0 where
  pub room : after ≡ take (length before) words ++ drop (length words) before
  pub all : needed ≡ length words

abbrev pub HasWords : List ℕ → List ℕ → ℕ → Type 0
HasWords before after needed = (words : List ℕ) × StandsIn before words after needed

abbrev pub HasNone : List ℕ → List ℕ → ℕ → Type 0
HasNone before after needed = (needed ≡ 0) × (after ≡ before)
