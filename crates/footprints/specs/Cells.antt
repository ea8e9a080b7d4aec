-- The cells of a zone at given values of the registers.
use Rattle.std.specs.Prelude.{◌≡◌, ℕ, ℤ, ◌+ℤ◌, ◌*ℤ◌, ◌≤ℤ◌, pos, List, [], ◌∷◌}
use Rattle.linear.specs.declared.form.Term.{Term}
use Rattle.linear.specs.Terms.{Combination}
use Rattle.program.specs.declared.identifier.ObjectName.{ObjectName}
use Rattle.ranges.specs.cfg.declared.structure.Move.{Move}
use Rattle.ranges.specs.ranges_owed.Inequalities.{operand_for}
use Rattle.ranges.specs.Truth.{operand_value}
use Rattle.footprints_feet.specs.footprints_zones.Zones.{Span}

-- the values of the registers that the moves make of these
abbrev pub moved : (ℕ → ℤ) → List Move → Term → ℤ
moved v moves t = operand_value v (operand_for moves t.register)

abbrev pub terms_value : (ℕ → ℤ) → List Move → List Term → ℤ
terms_value v moves [] = pos 0
terms_value v moves (t ∷ ts) = (t.coefficient *ℤ moved v moves t) +ℤ terms_value v moves ts

-- the value of a form with the moves' operands put in
abbrev pub end_value : (ℕ → ℤ) → List Move → Combination → ℤ
end_value v moves e = e.constant +ℤ terms_value v moves e.terms

-- a cell of the zone: it is of its object, from its low end to before its high end
pub record HasCell (v : ℕ → ℤ) (z : Span) (object : ObjectName) (index : ℤ) : Type 0 where
  pub object_is : object ≡ z.object
  pub from_low : end_value v z.moves z.zone.low ≤ℤ index
  pub before_high : (index +ℤ pos 1) ≤ℤ end_value v z.moves z.zone.high
