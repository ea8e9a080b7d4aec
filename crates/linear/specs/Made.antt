-- How forms are made: one more term among terms whose registers rise.
use Rattle.std.specs.Prelude.{ℕ, ℤ, pos, ◌+ℤ◌, ◌==◌, Bool, nat_lt, List, unsigned_abs, Option}
use Rattle.std.specs.Prelude.{Some, None, slice_get}
use Rattle.std.specs.Prelude.{slice_set, insert, if◌then◌else◌}
use Rattle.std.specs.List.{prefix_len}
use Rattle.linear.specs.declared.form.RegisterId.{RegisterId}
use Rattle.linear.specs.declared.form.Term.{Term}
use Rattle.linear.specs.Terms.{Combination}

abbrev pub is_below : ℕ → Term → Bool
is_below r t = nat_lt t.register.0 r

abbrev pub own_coefficient : ℕ → Option Term → Option ℤ
own_coefficient r None = None
own_coefficient r (Some t) = if t.register.0 == r then Some t.coefficient else None

-- the coefficient of a register, where the term at the place is its own
abbrev pub coefficient_at : List Term → ℕ → ℕ → Option ℤ
coefficient_at ts place r = own_coefficient r (slice_get ts place)

abbrev pub is_bounded : ℤ → Bool
is_bounded z = nat_lt (unsigned_abs z) 16777216

-- the term of a register at its place, in front of the terms of greater registers
abbrev pub placed_at : List Term → ℕ → RegisterId → ℤ → Option ℤ → Option (List Term)
placed_at ts place register amount None = if is_bounded (pos 0 +ℤ amount) then Some (insert ts place
    (record { register = register; coefficient = pos 0 +ℤ amount })) else None
placed_at ts place register amount (Some c) = if is_bounded (c +ℤ amount) then Some (slice_set ts place
    (record { register = register; coefficient = c +ℤ amount })) else None

-- the terms with a register times a number, unless its coefficient would pass the bounds
unfoldable pub placed : List Term → RegisterId → ℤ → Option (List Term)
placed ts register amount = placed_at ts (prefix_len (is_below register.0) ts) register amount
    (coefficient_at ts (prefix_len (is_below register.0) ts) register.0)

abbrev pub with_terms : ℤ → Option (List Term) → Option Combination
with_terms constant None = None
with_terms constant (Some ts) = Some (record { terms = ts; constant = constant })

-- a form with a register times a number, unless its coefficient would pass the bounds
abbrev pub with_term : Combination → RegisterId → ℤ → Option Combination
with_term f register amount = with_terms f.constant (placed f.terms register amount)

-- a form with a number, unless its constant would pass the bounds
abbrev pub with_constant : Combination → ℤ → Option Combination
with_constant f amount = if nat_lt (unsigned_abs (amount +ℤ f.constant))
    1267650600228229401496703205376 then Some (record { terms = f.terms; constant = amount +ℤ f.constant }) else None
