-- What is written piece by piece.
use Rattle.std.proofs.Common.{◌≡◌, ℕ, List, ◌++◌, append_assoc}

-- a word, a space and two forms with a relation between spaces
pub inequality_written : (space out a b z word left between relation right : List ℕ) → a ≡ out ++ word → b ≡ a ++ space → between ≡ space ++ relation ++ space → z ≡ b ++ left ++ between ++ right
    → z ≡ out ++ (word ++ space ++ left ++ space ++ relation ++ space ++ right)
inequality_written space out a b z word left between relation right p q r s = rw (s, r, q, p) (simp append_assoc)
