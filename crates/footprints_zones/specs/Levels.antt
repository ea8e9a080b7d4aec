-- Ends of zones between which no register is left, so that they differ by a number.
use Rattle.std.specs.Prelude.{◌≡◌, ◌<◌, ◌^◌, ℤ, pos, negsuc, List, ◌++◌, unsigned_abs}
use Rattle.linear.specs.declared.form.Fact.{Fact}
use Rattle.linear.specs.declared.form.RegisterId.{RegisterId}
use Rattle.linear.specs.declared.form.Term.{Term}
use Rattle.linear.specs.Terms.{constant_form}
use Rattle.ranges.specs.linear_shown.Tested.{is_shown}
use Rattle.program.specs.declared.instruction.Operand.TheVariants.{Register}
use Rattle.ranges.specs.cfg.declared.structure.Move.{Move}
use Rattle.ranges.specs.ranges_owed.Inequalities.{operand_for, parts_of}
use Rattle.ranges.specs.Sums.{shows}

-- two terms of one register, with the operands put in, that have one coefficient
pub record IsSameTerm (for_high : List Move) (high : Term) (for_low : List Move) (low : Term) : Type 0 where
  pub register : RegisterId
  pub of_high : operand_for for_high high.register ≡ Register register
  pub of_low : operand_for for_low low.register ≡ Register register
  pub coefficient : high.coefficient ≡ low.coefficient

-- a number with the terms of the high end, less those of the low end, is shown where the number itself is
pub record IsLevel (for_high : List Move) (high : List Term) (for_low : List Move) (low : List Term) : Type 0 where
  pub same : (facts : List Fact) (number : ℤ) → unsigned_abs number < 2 ^ 100 →
      shows facts (record {
        constant = number;
        parts = parts_of for_high (pos 1) high ++
            parts_of for_low (negsuc 0) low;
      }) ≡ is_shown facts (constant_form number)
