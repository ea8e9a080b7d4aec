-- Which allocas have values. A labelling keeps, at the start of each block, what is sure, and for each region what is
-- due: what is sure once the children of the region are over.
use Rattle.std.specs.Prelude.{◌≡◌, ◌⊎◌, ℕ, Bool, true, false, List, Option, Some, None, All}
use Rattle.linear.specs.declared.form.RegisterId.{RegisterId}
use Rattle.cfg.specs.declared.structure.BlockEdges.{BlockEdges}
use Rattle.cfg.specs.declared.structure.Way.{Way}
use Rattle.cfg.specs.declared.structure.Way.TheVariants.{Continued, Synced}
use Rattle.cfg.specs.Paths.{edges_of}

-- of one alloca: whether it is in the set of a region (with no region: the sure one) at the start of a block
abbrev pub Labels : Type 0
Labels = Option RegisterId → ℕ → Bool

-- it is in the set at the end of a block: each due set contains the sure one, and a store adds it to all
abbrev pub IsHeld : (ℕ → Type 0) → Labels → Option RegisterId → ℕ → Type 0
IsHeld Stores l region b = (l None b ≡ true) ⊎ ((l region b ≡ true) ⊎ Stores b)

-- what an edge adds to the set of a region: along a continuation, what each end of the child has for sure comes to the
-- due set of the detach's region; behind a sync, what was due is sure
abbrev pub IsAdded : (ℕ → Type 0) → (ℕ → RegisterId → Type 0) → (ℕ → ℕ → Type 0) → Labels → Option RegisterId → ℕ →
    Way → Type 0
IsAdded Stores Forks Ends l region from Continued =
    (its : RegisterId) × (region ≡ Some its) × Forks from its × ((end : ℕ) → Ends from end → IsHeld Stores l None end)
IsAdded Stores Forks Ends l region from (Synced its) = IsHeld Stores l (Some its) from
IsAdded Stores Forks Ends l region from other = ⊥

-- nothing is in a set when the function begins, and a set never holds more than each edge gives
pub record IsLabelling (Stores : ℕ → Type 0) (Forks : ℕ → RegisterId → Type 0) (Ends : ℕ → ℕ →
    Type 0) (blocks : List BlockEdges) (l : Labels) : Type 0 where
  pub entry : (region : Option RegisterId) → l region 0 ≡ false
  pub edges : (a : ℕ) → All (λ e. (region : Option RegisterId) → l region e.to.0 ≡ true → IsHeld Stores l region a ⊎
      IsAdded Stores Forks Ends l region a e.way) (edges_of blocks a)
