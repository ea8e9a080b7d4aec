-- For the functions of this crate and their loops alone: marks that are set.
use Rattle.std.specs.Prelude.{◌≡◌, ◌⊎◌, ◌↔◌, ℕ, ◌<◌, Bool, true, false, List, length, Contains, slice_index_or}

-- the marks of these places are set, as far as there are such, and no other is turned
pub record SetsMarks (places : List ℕ) (marks marks' : List Bool) : Type 0 where
  pub size : length marks' ≡ length marks
  pub exact : (n : ℕ) → (slice_index_or marks' n false ≡ true) ↔ ((slice_index_or marks n false ≡ true) ⊎
      (Contains places n × (n < length marks)))
