-- Values depend on coefficients and constants alone.
use Rattle.std.proofs.Common.{◌≡◌, ◌∙◌, ℕ, ◌+◌, ℤ, ◌+ℤ◌, ◌*ℤ◌, sym, ap, arith}
use Rattle.linear.specs.Forms.{Same, value_of, value}
use Rattle.linear.specs.Terms.{Combination, coefficient_of}
use Rattle.linear.proofs.Values.{top, sum_below_same, value_is_sum}

pub same_value : (v : ℕ → ℤ) (e f : Combination) → Same e f → value v e ≡ value v f
same_value v e f s =
    let n : ℕ = top e.terms + top f.terms in
    let terms : value_of v e.terms ≡ value_of v f.terms =
    value_is_sum v n e.terms (omega arith)
    ∙ sum_below_same n (λ r. coefficient_of e.terms r *ℤ v r) (λ r. coefficient_of f.terms r *ℤ v r) (λ r l. ap (λ (x : ℤ). x *ℤ v r) (s.terms r))
    ∙ sym (value_is_sum v n f.terms (omega arith)) in
    ap (λ (x : ℤ). x +ℤ e.constant) terms ∙ ap (λ (x : ℤ). value_of v f.terms +ℤ x) s.constant
