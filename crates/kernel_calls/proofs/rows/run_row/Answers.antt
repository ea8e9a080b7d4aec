use Rattle.std.proofs.Common.{◌≡◌, ◌⊎◌, ℕ, inl, inr, refl, arith}
use Rattle.kernel_calls.specs.Told.{IsRunStatus, stopped}
use Rattle.kernel_calls.specs.Held.{closed}
use Rattle.kernel_calls.proofs.rows.run_row.Goals as goal

is_open : (status : ℕ) → (status ≡ stopped) ⊎ IsRunStatus status → status ≡ closed → ⊥
is_open status (inl e) is = absurd (omega (arith, e, is))
is_open status (inr (inl e)) is = absurd (omega (arith, e, is))
is_open status (inr (inr (inl e))) is = absurd (omega (arith, e, is))
is_open status (inr (inr (inr (inl e)))) is = absurd (omega (arith, e, is))
is_open status (inr (inr (inr (inr (inl e))))) is = absurd (omega (arith, e, is))
is_open status (inr (inr (inr (inr (inr e))))) is = absurd (omega (arith, e, is))

pub returns : goal.returns
returns c =
    let said = c.run_over.ensures in
    let program = c.args.kernel.now in
    record {
      ran = λ is. record { program = program; held = refl; runs = said.ran is };
      exceeds = λ is. record { program = program; held = refl; exceeds = said.fuel is };
      lacks = λ is. record { program = program; held = refl; lacks = said.arguments is };
      other = λ is. record { program = program; held = refl; long = said.cells is };
      nothing = λ is. absurd (is_open _ said.statuses is);
      kept = said.kept;
      statuses = inr said.statuses;
    }
