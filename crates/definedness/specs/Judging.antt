-- For the functions of this crate and their loops alone: steps of judging a block.
use Rattle.std.specs.Prelude.{◌≡◌, ◌⊎◌, ℕ, ◌<◌, Bool, true, false, List, length, slice_index_or}
use Rattle.refusal.specs.declared.broken.Broken.{Broken}
use Rattle.definedness.specs.declared.act.Act.{Act}
use Rattle.definedness.specs.declared.act.Act.TheVariants.{Needs, Gives}
use Rattle.definedness.specs.declared.table.Row.{Row}
use Rattle.definedness.specs.Marks.{mark_at}

-- the act needs what is marked as lacking and not as defined here
abbrev pub IsNeedBrokenBy : List Row → List Bool → ℕ → ℕ → Act → Broken → Type 0
IsNeedBrokenBy rows here block rule (Needs n line) broken =
    (broken.number ≡ rule) × (broken.line ≡ line) × (n < length here) × (slice_index_or here n false ≡ false) ×
    (mark_at rows n block ≡ true)
IsNeedBrokenBy rows here block rule (Gives n) broken = ⊥

abbrev pub IsGivenBy : Act → ℕ → Type 0
IsGivenBy (Needs m line) n = ⊥
IsGivenBy (Gives m) n = n ≡ m

-- what an act defines is marked
pub record MarksGiven (act : Act) (here here' : List Bool) : Type 0 where
  pub size : length here' ≡ length here
  pub kept : (n : ℕ) → slice_index_or here n false ≡ true → slice_index_or here' n false ≡ true
  pub given : (n : ℕ) → n < length here → IsGivenBy act n → slice_index_or here' n false ≡ true
  pub new : (n : ℕ) → slice_index_or here' n false ≡ true → (slice_index_or here n false ≡ true) ⊎ IsGivenBy act n
