-- Needs that nothing before them meets.
use Rattle.std.specs.Prelude.{◌≡◌, ℕ, List, [], take, Option, Some, None, Contains, slice_get}
use Rattle.std.specs.List.{filter_map}
use Rattle.refusal.specs.declared.broken.Broken.{Broken}
use Rattle.definedness.specs.Acts.{given}
use Rattle.definedness.specs.declared.act.Act.{Act}
use Rattle.definedness.specs.declared.act.Act.TheVariants.{Needs, Gives}
use Rattle.definedness.specs.declared.act.BlockActs.{BlockActs}
use Rattle.definedness.specs.declared.table.Given.{Given}

abbrev pub gives : List Act → List ℕ
gives acts = filter_map given acts

-- an act needs what is not defined before it, and the block lacks it at its start
abbrev pub IsNeedBroken : (ℕ → Type 0) → ℕ → List ℕ → Act → Broken → Type 0
IsNeedBroken Lacks rule before (Needs n line) broken = (broken.number ≡ rule) × (broken.line ≡ line) ×
    (Contains before n → ⊥) × Lacks n
IsNeedBroken Lacks rule before (Gives n) broken = ⊥

abbrev pub IsBlockBroken : (ℕ → Type 0) → ℕ → List Act → Broken → Type 0
IsBlockBroken Lacks rule acts broken = (k : ℕ) × (act : Act) × (slice_get acts k ≡ Some act) ×
    IsNeedBroken Lacks rule (gives (take k acts)) act broken

-- a need of a block that nothing before it in the block meets, where the block lacks it at its start
abbrev pub IsTableBroken : (ℕ → ℕ → Type 0) → ℕ → List BlockActs → Broken → Type 0
IsTableBroken Lacks rule table broken = (b : ℕ) × (block : BlockActs) × (slice_get table b ≡ Some block) ×
    IsBlockBroken (λ n. Lacks n b) rule block.acts broken

abbrev pub numbers_of : Option Given → List ℕ
numbers_of None = []
numbers_of (Some block) = block.numbers

abbrev pub numbers_at : List Given → ℕ → List ℕ
numbers_at all b = numbers_of (slice_get all b)

abbrev pub given_of : BlockActs → Given
given_of block = record { numbers = gives block.acts }
