use Rattle.std.proofs.Common.{rules, ◌≡◌, ◌∙◌, FitsSigned, pos, ◌*ℤ◌, ◌<ℤ◌, ◌-ℤ◌, negsuc, sym, subst, ℤ, Option}
use Rattle.std.specs.Prelude.{IfSome}
use Rattle.std.specs.Int.{w64}
use Rattle.footprints_zones.specs.Ends.{Says, IsLeast}
use Rattle.footprints_zones.proofs.EndBounds.{least_none, least_up, least_down}
use Rattle.footprints_zones.proofs.EndsMade.{product_small, product_read}
use Rattle.footprints_zones.proofs.ends.least_multiple.Goals as goal
use Rattle.footprints_zones.proofs.ends.least_multiple.Goals.{then-times-gt0, else-times-gt0}

pub returns-then-times-eq0-clause-least : goal.returns-then-times-eq0-clause-least
returns-then-times-eq0-clause-least c = λ facts bounds.
    let none : c.args.times ≡ pos 0 = search rules in
    rw none (least_none facts c.args.bounds.now.register)

pub returns-in-Some-clause-least : goal.returns-in-Some-clause-least
returns-in-Some-clause-least c = λ facts bounds.
    let fits_times : FitsSigned w64 c.args.times = search rules in
    let fits_number : FitsSigned w64 c.in-Some.number = search rules in
    let read = product_read c.from.result c.from-in-Some.result c.args.times c.in-Some.number fits_times fits_number c.from.ensures c.from-in-Some.ensures in
    let least : IsLeast facts c.args.bounds.now.register c.args.times (c.args.times *ℤ c.in-Some.number) = elim c.if-times-gt0.branch [
      | then-times-gt0 w ↦
          let says = subst (λ (o : Option ℤ). IfSome o (λ z. Says facts c.args.bounds.now.register (pos 1) (pos 0 -ℤ z))) (sym w.bound-is ∙ c.in-Some.is) bounds.least in
          let up : pos 0 <ℤ c.args.times = search rules in
          least_up facts c.args.bounds.now.register c.in-Some.number c.args.times says up
      | else-times-gt0 w ↦
          let says = subst (λ (o : Option ℤ). IfSome o (λ z. Says facts c.args.bounds.now.register (negsuc 0) z)) (sym w.bound-is ∙ c.in-Some.is) bounds.most in
          let down : c.args.times <ℤ pos 0 = search rules in
          least_down facts c.args.bounds.now.register c.in-Some.number c.args.times says down
    ] in
    rw read least

pub returns-in-Some-clause-small : goal.returns-in-Some-clause-small
returns-in-Some-clause-small c =
    let fits_times : FitsSigned w64 c.args.times = search rules in
    let fits_number : FitsSigned w64 c.in-Some.number = search rules in
    rw (product_read c.from.result c.from-in-Some.result c.args.times c.in-Some.number fits_times fits_number c.from.ensures c.from-in-Some.ensures)
    (product_small c.args.times c.in-Some.number fits_times fits_number)
