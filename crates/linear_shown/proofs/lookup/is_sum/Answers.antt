use Rattle.std.proofs.Common.{◌∙◌, sym, rules, FitsSigned}
use Rattle.std.specs.Int.{w128}
use Rattle.std.proofs.lemmas.Bool.{false≢true}
use Rattle.std.proofs.lemmas.Int.{to_z-of_z}
use Rattle.linear_shown.proofs.lookup.is_sum.Goals as goal

pub returns-then-not-is_at_most : goal.returns-then-not-is_at_most
returns-then-not-is_at_most c =
    let fits_f : FitsSigned w128 c.args.first.constant = search rules in
    let fits_g : FitsSigned w128 c.args.second.constant = search rules in
    let fits_e : FitsSigned w128 c.side_of.result.constant = search rules in (
      λ h. absurd (false≢true h),
      λ s. absurd (false≢true (sym c.if-not-is_at_most.true ∙ c.is_at_most.ensures.1 (simp to_z-of_z (rw (c.requires.first.constant, c.requires.second.constant, c.side_of.ensures.constant) s.constant)))),
    )
