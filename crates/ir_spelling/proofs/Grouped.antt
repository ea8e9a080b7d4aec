-- Pieces behind one another, grouped as texts are.
use Rattle.std.proofs.Common.{◌≡◌, ℕ, List, [], ◌++◌, append_assoc, append-nil}

pub four : (a b c d : List ℕ) → a ++ (b ++ (c ++ (d ++ []))) ≡ a ++ b ++ c ++ d
four a b c d = simp (append_assoc, append-nil)

pub six : (a b c d e f : List ℕ) → a ++ (b ++ (c ++ (d ++ (e ++ (f ++ []))))) ≡ a ++ b ++ c ++ d ++ e ++ f
six a b c d e f = simp (append_assoc, append-nil)

-- what ends in an array and more
pub array_within : (p n t o c u v : List ℕ) → p ++ (n ++ ((t ++ o) ++ (c ++ ((u ++ v) ++ [])))) ≡ p ++ n ++ t ++ (o ++ c ++ u) ++ v
array_within p n t o c u v = simp (append_assoc, append-nil)

-- a call behind old text: what stands before the arguments, these, and the end
pub call_ends : (old p d t c o x z : List ℕ) → old ++ (p ++ (d ++ (t ++ (c ++ (o ++ []))))) ++ x ++ z ≡ old ++ (p ++ d ++ t ++ c ++ o ++ x ++ z)
call_ends old p d t c o x z = simp (append_assoc, append-nil)

pub call_void_ends : (old t c o x z : List ℕ) → old ++ (t ++ (c ++ (o ++ []))) ++ x ++ z ≡ old ++ (t ++ c ++ o ++ x ++ z)
call_void_ends old t c o x z = simp (append_assoc, append-nil)

-- a parameter behind old text and what parts it from the one before
pub parameter_ends : (old b t n u x : List ℕ) → old ++ (b ++ (t ++ (n ++ (u ++ (x ++ []))))) ≡ old ++ b ++ (t ++ n ++ u ++ x)
parameter_ends old b t n u x = simp (append_assoc, append-nil)

-- a register and a label, sigils and words with what stands before them
pub label_ends : (w p r k l x : List ℕ) → (w ++ p) ++ (r ++ ((k ++ (l ++ p)) ++ (x ++ []))) ≡ w ++ (p ++ r) ++ k ++ (l ++ (p ++ x))
label_ends w p r k l x = simp (append_assoc, append-nil)
