-- For the functions of this crate and their loops alone: the labelling of an alloca that is being made smaller.
use Rattle.std.specs.Prelude.{◌≡◌, ◌⊎◌, ◌↔◌, ◌++◌, ℕ, ◌+◌, ◌<◌, ◌≤◌, Bool, true, false, List, [], ◌∷◌, Option, None}
use Rattle.std.specs.Prelude.{length, set}
use Rattle.std.specs.Prelude.{Contains, sum_by, slice_index_or}
use Rattle.std.specs.List.{filter}
use Rattle.linear.specs.declared.form.RegisterId.{RegisterId}
use Rattle.cfg.specs.declared.structure.BlockEdges.{BlockEdges}
use Rattle.cfg.specs.declared.structure.Edge.{Edge}
use Rattle.cfg.specs.declared.structure.Way.{Way}
use Rattle.definedness_allocas.specs.declared.fork.Fork.{Fork}
use Rattle.definedness_allocas.specs.declared.sets.Label.{Label}
use Rattle.definedness_allocas.specs.declared.sets.Label.TheVariants.{Sure, Due}
use Rattle.definedness_allocas.specs.declared.sets.Sets.{Sets}
use Rattle.definedness_allocas.specs.Labels.{Labels, IsLabelling}
use Rattle.definedness_allocas.specs.Sets.{has, due_in, label_at, label_of, Stores, Forks, Ends, EdgeGives, IsFit}

abbrev pub IsTableLabelling : List Bool → List Fork → List BlockEdges → Labels → Type 0
IsTableLabelling stops forks blocks l = IsLabelling (Stores stops) (Forks forks) (Ends forks) blocks l

-- a labelling lies below the sets
abbrev pub IsBelow : ℕ → Labels → Sets → Type 0
IsBelow n l sets = (k : Option RegisterId) (b : ℕ) → b < n → l k b ≡ true → label_of sets k b ≡ true

-- ---- steps

abbrev pub weight : ℕ → Label → ℕ
weight n Sure = n + n + 3
weight n (Due regions) = length regions + length regions

-- what is left to do
abbrev pub load : ℕ → Sets → List ℕ → ℕ
load n sets work = sum_by (weight n) sets.labels.items + length work

-- labels are taken away that no labelling has; a block that gives less than it did is listed
pub record Lowers (stops : List Bool) (forks : List Fork) (blocks : List BlockEdges) (before : Sets) (work : List ℕ)
    (after : Sets)
    (work' : List ℕ) : Type 0 where
  pub fit : IsFit stops forks (length blocks) after
  pub fewer : (k : Option RegisterId) (b : ℕ) → label_of after k b ≡ true → label_of before k b ≡ true
  pub above : (l : Labels) → IsTableLabelling stops forks blocks l → IsBelow (length blocks) l before →
      IsBelow (length blocks) l after
  pub waiting : (a : ℕ) → Contains work a → Contains work' a
  pub woken : (a : ℕ) → a < length blocks
      → Contains work' a ⊎ ((k : Option RegisterId) (way : Way) → EdgeGives stops forks (label_of before) k a way →
      EdgeGives stops forks (label_of after) k a way)
  pub less : load (length blocks) after work' ≤ load (length blocks) before work

-- an edge gives what its target has, or is gone through again
abbrev pub IsSettledAt : List Bool → List Fork → Sets → List ℕ → ℕ → Edge → Type 0
IsSettledAt stops forks sets work from e =
    Contains work from ⊎ ((k : Option RegisterId) → label_of sets k e.to.0 ≡ true →
    EdgeGives stops forks (label_of sets) k from e.way)

-- what is both due and given
abbrev pub due_and_given : Sets → ℕ → List RegisterId → List RegisterId
due_and_given sets b given = filter (λ its. has given its) (due_in (label_at sets b))

-- of what is due at a block what is given stays; the block is listed where that is less
abbrev pub KeepsBoth : ℕ → List RegisterId → Sets → Sets → List ℕ → List ℕ → Type 0
KeepsBoth to given before after work work' =
    ((length (due_and_given before to given) < length (due_in (label_at before to)))
    × (after.labels.items ≡ set before.labels.items to (Due (due_and_given before to given))) ×
    (after.lacking.items ≡ before.lacking.items)
    × (work' ≡ work ++ to ∷ []))
    ⊎ ((length (due_in (label_at before to)) ≤ length (due_and_given before to given)) × (after ≡ before) ×
    (work' ≡ work))

-- the alloca is sure everywhere
pub record IsAllSure (n : ℕ) (sets : Sets) : Type 0 where
  pub labels : length sets.labels.items ≡ n
  pub lacking : length sets.lacking.items ≡ n
  pub sure : (b : ℕ) → b < n → label_at sets b ≡ Sure
  pub unmarked : (d : ℕ) → slice_index_or sets.lacking.items d false ≡ false

-- a block at whose start the alloca is no longer sure: the detach whose child it ends is marked and listed, unless the
-- block stores it
pub record NotesEnd (stops : List Bool) (forks : List Fork) (b : ℕ) (marks marks' : List Bool)
    (work work' : List ℕ) : Type 0 where
  pub size : length marks' ≡ length marks
  pub kept : (d : ℕ) → slice_index_or marks d false ≡ true → slice_index_or marks' d false ≡ true
  pub new : (d : ℕ) → slice_index_or marks' d false ≡ true → (slice_index_or marks d false ≡ true) ⊎ (Ends forks d b ×
      (Stores stops b → ⊥))
  pub opened : (d : ℕ) → d < length marks → Ends forks d b → (Stores stops b → ⊥) →
      (slice_index_or marks' d false ≡ true) × Contains work' d
  pub waiting : (a : ℕ) → Contains work a → Contains work' a
  pub few : length work' ≤ length work + 1

-- the greatest labelling
pub record IsGreatest (stops : List Bool) (forks : List Fork) (blocks : List BlockEdges) (sets : Sets) : Type 0 where
  pub labelling : IsTableLabelling stops forks blocks (label_of sets)
  pub greatest : (l : Labels) → IsTableLabelling stops forks blocks l → IsBelow (length blocks) l sets

-- the blocks that are marked are those at whose start no labelling of an alloca that these blocks store has it for sure
abbrev pub AreNeverSure : List Fork → List BlockEdges → List Bool → List Bool → Type 0
AreNeverSure forks blocks stops marks =
    (b : ℕ) → b < length blocks → (slice_index_or marks b false ≡ true) ↔ ((l : Labels) →
    IsTableLabelling stops forks blocks l → l None b ≡ true → ⊥)
