-- Where a frame stands in the tree of frames.
use Rattle.std.specs.Prelude.{ℕ, List, [], ◌∷◌, Bool, true, false, ◌&&◌, eqb}

-- The calls and detaches of a frame are numbered together from 0. A path has the numbers from a frame up to the root,
-- the frame's own first; the root's is empty. It does not depend on the schedule.
abbrev pub Path : Type 0
Path = List ℕ

abbrev pub same_path : Path → Path → Bool
same_path [] [] = true
same_path (x ∷ xs) (y ∷ ys) = eqb x y && same_path xs ys
same_path one other = false
