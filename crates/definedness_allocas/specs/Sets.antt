-- The labels of an alloca as they are kept, which make a labelling, and what an edge gives out of them.
use Rattle.std.specs.Prelude.{◌≡◌, ◌⊎◌, ◌==◌, ℕ, ◌+◌, ◌<◌, ◌≤◌, Bool, true, false, List, [], Option, Some, None, length}
use Rattle.std.specs.Prelude.{count_by, slice_get, slice_index_or}
use Rattle.std.specs.List.{list_any}
use Rattle.linear.specs.declared.form.RegisterId.{RegisterId}
use Rattle.cfg.specs.declared.structure.Way.{Way}
use Rattle.cfg.specs.declared.structure.Way.TheVariants.{Continued, Synced}
use Rattle.definedness_allocas.specs.declared.fork.Fork.{Fork}
use Rattle.definedness_allocas.specs.declared.sets.Label.{Label}
use Rattle.definedness_allocas.specs.declared.sets.Label.TheVariants.{Sure, Due}
use Rattle.definedness_allocas.specs.declared.sets.Sets.{Sets}
use Rattle.definedness_allocas.specs.Labels.{Labels, IsHeld, IsAdded}

-- ---- the sets as a labelling

abbrev pub has : List RegisterId → RegisterId → Bool
has regions region = list_any (λ its. its.0 == region.0) regions

abbrev pub due_in : Label → List RegisterId
due_in Sure = []
due_in (Due regions) = regions

-- what is sure is in the set of each region
abbrev pub label_in : Label → Option RegisterId → Bool
label_in Sure k = true
label_in (Due regions) None = false
label_in (Due regions) (Some region) = has regions region

abbrev pub is_sure_label : Label → Bool
is_sure_label Sure = true
is_sure_label (Due regions) = false

abbrev pub label_at : Sets → ℕ → Label
label_at sets b = slice_index_or sets.labels.items b (Due [])

abbrev pub label_of : Sets → Labels
label_of sets k b = label_in (label_at sets b) k

-- ---- by the tables of a function

abbrev pub Stores : List Bool → ℕ → Type 0
Stores stops b = slice_index_or stops b false ≡ true

abbrev pub region_in : Option Fork → Option RegisterId
region_in None = None
region_in (Some fork) = fork.region

-- the block ends with a detach within the region
abbrev pub Forks : List Fork → ℕ → RegisterId → Type 0
Forks forks b region = region_in (slice_get forks b) ≡ Some region

abbrev pub ended_in : Option Fork → Option ℕ
ended_in None = None
ended_in (Some fork) = fork.ended

-- a block ends the child of the detach
abbrev pub Ends : List Fork → ℕ → ℕ → Type 0
Ends forks detach b = ended_in (slice_get forks b) ≡ Some detach

abbrev pub IsHeldBy : List Bool → Labels → Option RegisterId → ℕ → Type 0
IsHeldBy stops l k b = IsHeld (Stores stops) l k b

-- an edge gives the label
abbrev pub EdgeGives : List Bool → List Fork → Labels → Option RegisterId → ℕ → Way → Type 0
EdgeGives stops forks l k from way = IsHeld (Stores stops) l k from ⊎
    IsAdded (Stores stops) (Forks forks) (Ends forks) l k from way

-- behind a sync all is sure, where it was due
abbrev pub IsOver : List Bool → Labels → ℕ → Way → Type 0
IsOver stops l from (Synced its) = IsHeldBy stops l (Some its) from
IsOver stops l from other = ⊥

-- along a continuation the child of the detach brings the alloca into the set of its region
abbrev pub IsJoined : List Bool → List Fork → Labels → ℕ → Way → RegisterId → Type 0
IsJoined stops forks l from Continued region = Forks forks from region ×
    ((end : ℕ) → Ends forks from end → IsHeldBy stops l None end)
IsJoined stops forks l from other region = ⊥

-- ---- what is kept beside the labels

abbrev pub count_sure : Sets → ℕ
count_sure sets = count_by is_sure_label sets.labels.items

-- a label for each block, and a mark for each detach with an end that does not have the alloca
pub record IsFit (stops : List Bool) (forks : List Fork) (n : ℕ) (sets : Sets) : Type 0 where
  pub labels : length sets.labels.items ≡ n
  pub lacking : length sets.lacking.items ≡ n
  pub short : (b : ℕ) → count_sure sets + length (due_in (label_at sets b)) ≤ n
  pub lost : (d : ℕ) → slice_index_or sets.lacking.items d false ≡ true
      → (end : ℕ) × (end < n) × Ends forks d end × (IsHeldBy stops (label_of sets) None end → ⊥)
  pub whole : (d end : ℕ) → d < n → slice_index_or sets.lacking.items d false ≡ false → Ends forks d end →
      IsHeldBy stops (label_of sets) None end
