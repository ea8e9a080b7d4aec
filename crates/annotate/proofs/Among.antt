-- Lines among others.
use Rattle.std.proofs.Common.{◌≡◌, ℕ, List, [], ◌∷◌, refl, sym, subst}
use Rattle.std.specs.Prelude.{IsTrue}
use Rattle.annotate.specs.Kept.{AreLinesAmong, Added, Kept, None, is_annotation}
use Rattle.ir_reader.specs.Lines.{lines_of, content}

-- lines stand among themselves
pub among_themselves : (lines : List (List ℕ)) → AreLinesAmong lines lines
among_themselves [] = None
among_themselves (line ∷ lines) = Kept line line lines lines refl (among_themselves lines)

-- a text whose first line is another one's stands among that line and those that its other lines stand among
pub kept_line : (text first behind line : List ℕ) → lines_of text ≡ first ∷ lines_of behind → content first ≡ content line
    → (more : List (List ℕ)) → AreLinesAmong (lines_of behind) more → AreLinesAmong (lines_of text) (line ∷ more)
kept_line text first behind line cut same more among =
    subst (λ lines. AreLinesAmong lines (line ∷ more)) (sym cut) (Kept first line (lines_of behind) more same among)

-- lines stand among those that they stand among and an annotation before these
pub added_line : (text line : List ℕ) → IsTrue (is_annotation line) → (more : List (List ℕ)) → AreLinesAmong (lines_of text) more
    → AreLinesAmong (lines_of text) (line ∷ more)
added_line text line is more among = Added line (lines_of text) more is among
