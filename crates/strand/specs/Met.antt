-- Cells of frames to come.
use Rattle.std.specs.Prelude.{◌≡◌, List, [], ◌∷◌, None, true}
use Rattle.semantics.specs.Paths.{Path}
use Rattle.semantics.specs.Cells.{Cell, owns}
use Rattle.laws_strands.specs.stacks.Footprint.{Footprint}
use Rattle.laws_strands.specs.stacks.Strands.{Placed}
use Rattle.strand.specs.Layouts.{IsToCome}

-- nothing is known of a cell of a frame that g has still to make
abbrev pub NotMet : Footprint → Placed → Type 0
NotMet f g = (x : Path) → IsToCome g x → (c : Cell) → owns x c.object ≡ true → (f.reads c ≡ None) × (f.writes c ≡ None)

abbrev pub NoneMet : Footprint → Placed → List Placed → Type 0
NoneMet f t [] = NotMet f t
NoneMet f t (g ∷ rest) = NotMet f t × NoneMet f g rest
