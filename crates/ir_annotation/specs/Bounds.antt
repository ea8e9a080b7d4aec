-- Only the loop that adds up the terms of a form needs these: within what its sums stay, and where its words are cut.
use Rattle.std.specs.Prelude.{◌≡◌, List, ◌∷◌, ℕ, ◌==◌, Bool, not, ◌&&◌, ◌<◌, ◌^◌, ℤ, unsigned_abs, All}
use Rattle.ir_annotation.specs.declared.sums.Sum.{Sum}
use Rattle.ir_annotation.specs.Forms.{Total}

abbrev pub IsBelow : ℤ → Type 0
IsBelow z = unsigned_abs z < 2 ^ 126

-- each coefficient and the constant are so small that one more number can be added
pub record IsBounded (total : Total) : Type 0 where
  pub terms : All (λ t. IsBelow t.coefficient) total.terms
  pub constant : IsBelow total.constant

abbrev pub total_of : Sum → Total
total_of sum = record { terms = sum.terms.items; constant = sum.constant; is_within_limits = sum.is_within_limits }

abbrev pub is_no_sign : ℕ → Bool
is_no_sign b = not (b == 43) && not (b == 45)

-- a text of a byte, which is a minus or not, and what is behind it
abbrev pub BeginsWithSign : List ℕ → Bool → List ℕ → Type 0
BeginsWithSign text is_minus behind = (sign : ℕ) × (text ≡ sign ∷ behind) × (is_minus ≡ (sign == 45))
