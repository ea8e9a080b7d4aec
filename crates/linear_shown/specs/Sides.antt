-- The two sides that a form may be shown by.
use Rattle.std.specs.Prelude.{pos, List, ◌∷◌, map}
use Rattle.linear.specs.declared.form.Fact.{Fact}
use Rattle.linear.specs.Terms.{Combination, constant_form}

-- the facts' forms, and 0 for an absent one
abbrev pub sides : List Fact → List Combination
sides facts = constant_form (pos 0) ∷ map (λ f. f.form) facts
