use Rattle.std.proofs.Common.{◌≡◌, ◌∙◌, Bool, List, [], length, sym, arith}
use Rattle.std.proofs.lemmas.Bool.Decides.{Decides-eqb}
use Rattle.std.specs.Prelude.{◌==◌, IsTrue}
use Rattle.std.proofs.lemmas.List.{nil_from_length}
use Rattle.linear.specs.declared.form.Term.{Term}
use Rattle.footprints_zones.proofs.Levels.{level_without_terms, level_of_only_terms}
use Rattle.footprints_zones.proofs.order.is_level.Goals as goal

nil_if : (terms : List Term) (empty : Bool) → empty ≡ (length terms == 0) → IsTrue empty → terms ≡ []
nil_if terms empty is t = nil_from_length terms ((Decides-eqb (length terms) 0).0 (sym is ∙ t))

pub returns-in-empty : goal.returns-in-empty
returns-in-empty c = λ t.
    level_without_terms c.args.for_high.now c.args.high.now c.args.for_low.now c.args.low.now (nil_from_length c.args.high.now (omega arith)) (nil_if c.args.low.now c.is_empty.result c.is_empty.ensures t)

pub returns-in-len1-low : goal.returns-in-len1-low
returns-in-len1-low c = λ t.
    level_of_only_terms c.args.for_high.now c.args.high.now c.args.for_low.now c.args.low.now _ c.in-len1.len_at_least c.in-len1.len_below c.in-len1-low.len_at_least c.in-len1-low.len_below c.requires
    (c.is_same_term.ensures t)
