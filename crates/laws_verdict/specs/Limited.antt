-- The law: of forms within their limits the rules on numbers, zones and costs ask modest sums.
use Rattle.std.specs.Prelude.{ℕ, ◌<◌, ◌≤◌, ◌^◌, List, [], All, sum_by, unsigned_abs}
use Rattle.linear.specs.Terms.{Combination}
use Rattle.linear.specs.declared.form.Term.{Term}
use Rattle.ranges.specs.cfg.declared.structure.Move.{Move}
use Rattle.footprints.specs.Zones.{between}
use Rattle.cost_table.specs.Rules.{left_behind, less_form}
use Rattle.laws_verdict.specs.Sums.{IsWord, IsModest}

-- how many times registers, all together
abbrev pub weight : List Term → ℕ
weight terms = sum_by (λ (t : Term). unsigned_abs t.coefficient) terms

-- four registers, each at most a million times, and a number of 64 bits: what 206 leaves of an annotation's form. An
-- end of an access is one more.
pub record IsLimited (f : Combination) : Type 0 where
  pub weight : weight f.terms ≤ 4000000
  pub constant : unsigned_abs f.constant ≤ 2 ^ 64

abbrev pub AreWords : List Move → Type 0
AreWords moves = All (λ (m : Move). IsWord m.value) moves

pub record LimitedFormsAskLittle : Type 0 where
  -- one end of a zone against another, or one side of an inequality, with operands put in for registers
  pub differences : (for_high for_low : List Move) (high low : Combination) → AreWords for_high → AreWords for_low →
      IsLimited high → IsLimited low
      → IsModest (between for_high high for_low low)
  -- what is left, less what is done and what is left at one target or at two
  pub rests : (moves : List Move) (left next other : Combination) (done : ℕ) → AreWords moves → IsLimited left →
      IsLimited next → IsLimited other
      → done < 2 ^ 98 → IsModest (less_form (less_form (left_behind left done) moves next) [] other)
