-- The forms that sums make, and what facts show of them.
use Rattle.std.specs.Prelude.{ℤ, ◌*ℤ◌, Bool, false, nat_lt, List, [], ◌∷◌, Option, Some, None, unsigned_abs}
use Rattle.std.specs.Prelude.{if◌then◌else◌}
use Rattle.std.specs.List.{flat_map, list_any}
use Rattle.std.specs.Option.{option_map, option_to_list}
use Rattle.linear.specs.declared.form.Fact.{Fact}
use Rattle.linear.specs.Terms.{Combination, constant_form}
use Rattle.linear.specs.Made.{is_bounded, with_term, with_constant}
use Rattle.linear_shown.specs.Tested.{is_shown}
use Rattle.program.specs.declared.instruction.Operand.{Operand}
use Rattle.program.specs.declared.instruction.Operand.TheVariants.{Number, Register}
use Rattle.ranges_owed.specs.declared.sum.Part.{Part}
use Rattle.ranges_owed.specs.declared.sum.Sum.{Sum}
use Rattle.ranges_owed.specs.declared.sum.Obligation.{Obligation}

-- ---- the form of a sum

-- a form with an operand times a number, unless a number of it would pass the bounds of a form
abbrev pub with_operand : Combination → ℤ → Operand → Option Combination
with_operand f factor (Number z) = if is_bounded factor then with_constant f (factor *ℤ z) else None
with_operand f factor (Register r) = with_term f r factor

abbrev pub with_parts : List Part → Option Combination → Option Combination
with_parts [] form = form
with_parts (p ∷ ps) None = None
with_parts (p ∷ ps) (Some f) = with_parts ps (with_operand f p.factor p.operand)

abbrev pub start_of : ℤ → Option Combination
start_of constant = if nat_lt (unsigned_abs constant) 1267650600228229401496703205376 then Some (constant_form constant)
    else None

-- the form of a sum, its parts added one by one, unless a number of it would pass the bounds of a form
unfoldable pub sum_form : Sum → Option Combination
sum_form sum = with_parts sum.parts (start_of sum.constant)

-- ---- facts

abbrev pub fact_of : Sum → Option Fact
fact_of sum = option_map (λ f. record { form = f }) (sum_form sum)

-- that each sum is at least 0; one past the bounds of a form says nothing
abbrev pub facts_of : List Sum → List Fact
facts_of sums = flat_map (λ s. option_to_list (fact_of s)) sums

abbrev pub shows_form : List Fact → Option Combination → Bool
shows_form facts None = false
shows_form facts (Some f) = is_shown facts f

-- whether the facts show that a sum is at least 0; one past the bounds of a form is not shown
abbrev pub shows : List Fact → Sum → Bool
shows facts sum = shows_form facts (sum_form sum)

-- one of the choices is shown to be at least 0
abbrev pub is_met : List Fact → Obligation → Bool
is_met facts obligation = list_any (λ s. shows facts s) obligation.choices
