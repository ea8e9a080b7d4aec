-- For proofs alone: conditions put together, and what budget and depth bound.
use Rattle.std.specs.Prelude.{ℕ, ℤ, pos, ◌≤◌, ◌≤ℤ◌}
use Rattle.semantics.specs.Frames.{Frame}
use Rattle.laws_conditions.specs.theorem.SerialConditions.{Says, Finds}

abbrev pub And : Says → Says → Says
And base good p f m = base p f m × good p f m

abbrev pub FindsBoth : Finds → Finds → Finds
FindsBoth first second p f m o = first p f m o × second p f m o

-- the rest of the frame takes no more instructions than it may use. The number may be below zero in mid-block, where
-- steps have used what a later edge shows that the block did not have: no run gets there.
abbrev pub WithinBudget : (Frame → ℤ) → Finds
WithinBudget may_use p f m o = pos o.count ≤ℤ may_use f

-- the frames from this one on, itself counted, stand no deeper than it may reach
abbrev pub WithinDepth : (Frame → ℕ) → Finds
WithinDepth may_reach p f m o = o.depth ≤ may_reach f
