-- For proofs alone: what is true of the frames of every state that is reached, and which changes leave each other
-- alone.
use Rattle.std.specs.Prelude.{◌≡◌, ℕ, ◌<◌, ◌∷◌, Option, Some, None, false}
use Rattle.semantics.specs.Paths.{Path}
use Rattle.semantics.specs.Cells.{Cell}
use Rattle.semantics.specs.Frames.{OnCall, Body, Frame}
use Rattle.semantics.specs.State.{State, Change}
use Rattle.program.specs.linear.declared.form.RegisterId.{RegisterId}

-- each frame but the root has a parent that made it, and the callers are just those that wait for a living call
pub record Tree (s : State) : Type 0 where
  pub has_parent : (k : ℕ) (p : Path) (c : Frame) → s.frames (k ∷ p) ≡ Some c → (f : Frame) × (s.frames p ≡ Some f) ×
      (k < f.made)
  pub awaited : (k : ℕ) (p : Path) (c : Frame) → s.frames (k ∷ p) ≡ Some c → c.role ≡ Body →
      (f : Frame) × (d : Option RegisterId) × (s.frames p ≡ Some f) × (f.waits ≡ OnCall k d)
  pub lives : (k : ℕ) (d : Option RegisterId) (p : Path) (f : Frame) → s.frames p ≡ Some f → f.waits ≡ OnCall k d →
      (c : Frame) × (s.frames (k ∷ p) ≡ Some c) × (c.role ≡ Body)

-- what the first does to a cell leaves the second alone: nothing, nothing that the second looks at or changes, or both
-- add
pub data MissesAt (c d : Change) (x : Cell) : Type 0 where
  is_left : c.writes x ≡ None → c.adds x ≡ None → MissesAt c d x
  is_unseen : d.reads x ≡ false → d.writes x ≡ None → d.adds x ≡ None → MissesAt c d x
  is_added : c.writes x ≡ None → d.writes x ≡ None → d.reads x ≡ false → MissesAt c d x

abbrev pub Misses : Change → Change → Type 0
Misses c d = (x : Cell) → MissesAt c d x

abbrev pub Apart : Change → Change → Type 0
Apart c d = Misses c d × Misses d c
