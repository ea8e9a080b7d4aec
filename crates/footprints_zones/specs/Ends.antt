-- Ends of zones that come to a number and a multiple of one register, and what facts about one register alone say of
-- these.
use Rattle.std.specs.Prelude.{◌≡◌, ℕ, ◌<◌, ◌^◌, ◌⊎◌, ℤ, pos, negsuc, ◌+ℤ◌, ◌-ℤ◌, ◌*ℤ◌, List, [], ◌∷◌, map, Contains}
use Rattle.std.specs.Prelude.{IfSome, unsigned_abs}
use Rattle.linear.specs.declared.form.Fact.{Fact}
use Rattle.linear.specs.declared.form.RegisterId.{RegisterId}
use Rattle.linear.specs.declared.form.Term.{Term}
use Rattle.linear.specs.Terms.{Combination, coefficient_of}
use Rattle.linear.specs.Bounded.{term_form}
use Rattle.ranges.specs.linear_shown.Sides.{sides}
use Rattle.program.specs.declared.annotation.Zone.{Zone}
use Rattle.program.specs.declared.instruction.Operand.TheVariants.{Number, Register}
use Rattle.ranges.specs.cfg.declared.structure.Move.{Move}
use Rattle.ranges.specs.ranges_owed.Inequalities.{operand_for}
use Rattle.footprints_zones.specs.declared.bounds.RegisterBounds.{RegisterBounds}
use Rattle.footprints_zones.specs.declared.ends.End.{End}
use Rattle.footprints_zones.specs.declared.extent.Extent.{Extent}
use Rattle.footprints_zones.specs.declared.measured.MeasuredZone.{MeasuredZone}
use Rattle.footprints_zones.specs.Zones.{Span, as_written}

-- a fact says that the register times a sign, and a number, are at least 0
abbrev pub Says : List Fact → RegisterId → ℤ → ℤ → Type 0
Says facts register sign number =
    (f : Fact) × Contains facts f ×
    (f.form ≡ record { terms = record { register = register; coefficient = sign } ∷ []; constant = number })

-- what facts say of one register
pub record AreBounds (facts : List Fact) (bounds : RegisterBounds) : Type 0 where
  pub least : IfSome bounds.least (λ least. Says facts bounds.register (pos 1) (pos 0 -ℤ least))
  pub most : IfSome bounds.most (λ most. Says facts bounds.register (negsuc 0) most)

-- so many times the register is at least a number: a fact says so, taken that often with either sign, or an absent one
-- where it is no times
pub record IsLeast (facts : List Fact) (register : RegisterId) (times least : ℤ) : Type 0 where
  pub fact : Combination
  pub factor : ℕ
  pub known : Contains (sides facts) fact
  pub own : (factor ≡ 1) ⊎ ((factor ≡ unsigned_abs times) × (times ≡ pos 0 → ⊥))
  pub terms : (r : ℕ) → coefficient_of (term_form register times).terms r ≡ pos factor *ℤ coefficient_of fact.terms r
  pub constant : (pos factor *ℤ fact.constant) +ℤ least ≡ pos 0

-- ---- what an end comes to, with the operands put in: a number of times a register, and a constant

pub record HasNoTerm (form : Combination) (k c : ℤ) : Type 0 where
  pub terms : form.terms ≡ []
  pub times : k ≡ pos 0
  pub constant : c ≡ form.constant

pub record HasNumber (moves : List Move) (form : Combination) (k c : ℤ) : Type 0 where
  pub term : Term
  pub number : ℤ
  pub terms : form.terms ≡ term ∷ []
  pub put : operand_for moves term.register ≡ Number number
  pub times : k ≡ pos 0
  pub constant : c ≡ form.constant +ℤ (term.coefficient *ℤ number)
  pub small : unsigned_abs term.coefficient < 2 ^ 24

pub record HasRegister (moves : List Move) (form : Combination) (register : RegisterId) (k c : ℤ) : Type 0 where
  pub term : Term
  pub terms : form.terms ≡ term ∷ []
  pub put : operand_for moves term.register ≡ Register register
  pub times : k ≡ term.coefficient
  pub constant : c ≡ form.constant

abbrev pub ComesTo : List Move → Combination → RegisterId → ℤ → ℤ → Type 0
ComesTo moves form register k c = HasNoTerm form k c ⊎ (HasNumber moves form k c ⊎ HasRegister moves form register k c)

-- the end lies between what it is at least and at most
pub record IsBetween (facts : List Fact) (end : End) : Type 0 where
  pub bounds : AreBounds facts end.bounds
  pub least : IfSome end.least (λ least. IsLeast facts end.bounds.register end.coefficient (least -ℤ end.constant))
  pub most : IfSome end.most (λ most. IsLeast facts end.bounds.register (pos 0 -ℤ end.coefficient)
      (end.constant -ℤ most))

pub record IsEnd (facts : List Fact) (moves : List Move) (form : Combination) (end : End) : Type 0 where
  pub value : ComesTo moves form end.bounds.register end.coefficient end.constant
  pub between : IsBetween facts end
  pub small : unsigned_abs end.coefficient < 2 ^ 24
  pub small_form : unsigned_abs form.constant < 2 ^ 64
  pub small_constant : unsigned_abs end.constant < 2 ^ 64

-- multiples of two registers, or of one at most
abbrev pub AreOther : End → End → Type 0
AreOther high low = (high.coefficient ≡ pos 0) ⊎
    ((low.coefficient ≡ pos 0) ⊎ (high.bounds.register.0 ≡ low.bounds.register.0 → ⊥))

-- ---- zones

-- the ends of a zone at a place, as far as they are known
pub record IsExtent (facts : List Fact) (zone : Span) (extent : Extent) : Type 0 where
  pub low : IfSome extent.low (IsEnd facts zone.moves zone.zone.low)
  pub high : IfSome extent.high (IsEnd facts zone.moves zone.zone.high)

abbrev pub IsMeasured : List Fact → MeasuredZone → Type 0
IsMeasured facts zone = IsExtent facts (as_written zone.zone.now) zone.extent

abbrev pub zones_of : List MeasuredZone → List Zone
zones_of zones = map (λ z. z.zone.now) zones
