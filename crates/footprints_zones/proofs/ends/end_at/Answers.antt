use Rattle.std.proofs.Common.{rules, FitsSigned, pos, ◌-ℤ◌}
use Rattle.std.specs.Int.{w64}
use Rattle.std.proofs.lemmas.Int.{to_z-of_z}
use Rattle.footprints_zones.specs.Ends.{IsLeast}
use Rattle.footprints_zones.proofs.EndsMade.{end_least, end_most, opposite_read}
use Rattle.footprints_zones.proofs.ends.end_at.Goals as goal
use Rattle.footprints_zones.proofs.ends.end_at.Goals.{in-Some, in-None}

pub returns-in-Some-least_multiple-clause-between : goal.returns-in-Some-least_multiple-clause-between
returns-in-Some-least_multiple-clause-between c = λ facts bounds.
    let r = c.args.bounds.register in
    let k = c.args.coefficient in
    let z = c.args.constant in
    let fits_coefficient : FitsSigned w64 k = search rules in
    let fits_constant : FitsSigned w64 z = search rules in
    let m = c.in-Some-least_multiple.least in
    rw (to_z-of_z w64 k fits_coefficient, to_z-of_z w64 z fits_constant) (record {
      bounds = bounds;
      least = elim c.match-least_multiple.branch [
        | in-Some w ↦
            let known : IsLeast facts r k w.in-Some.least = rw (to_z-of_z w64 k fits_coefficient) at (w.in-Some.ensures.least facts bounds) in
            end_least facts r k w.in-Some.least z c.from-offset.result c.match-least_multiple.result w.result-is w.in-Some.ensures.small fits_constant c.from-offset.ensures known
        | in-None w ↦ rw w.result-is tt
      ];
      most =
          let known : IsLeast facts r (pos 0 -ℤ k) m = rw (opposite_read k fits_coefficient c.requires) at (c.in-Some-least_multiple.ensures.least facts bounds) in
          end_most facts r (pos 0 -ℤ k) m z c.from-offset.result c.in-Some-least_multiple.ensures.small fits_constant c.from-offset.ensures known;
    })

pub returns-in-None-least_multiple-clause-between : goal.returns-in-None-least_multiple-clause-between
returns-in-None-least_multiple-clause-between c = λ facts bounds.
    let r = c.args.bounds.register in
    let k = c.args.coefficient in
    let z = c.args.constant in
    let fits_coefficient : FitsSigned w64 k = search rules in
    let fits_constant : FitsSigned w64 z = search rules in
    rw (to_z-of_z w64 k fits_coefficient, to_z-of_z w64 z fits_constant) (record {
      bounds = bounds;
      least = elim c.match-least_multiple.branch [
        | in-Some w ↦
            let known : IsLeast facts r k w.in-Some.least = rw (to_z-of_z w64 k fits_coefficient) at (w.in-Some.ensures.least facts bounds) in
            end_least facts r k w.in-Some.least z c.from-offset.result c.match-least_multiple.result w.result-is w.in-Some.ensures.small fits_constant c.from-offset.ensures known
        | in-None w ↦ rw w.result-is tt
      ];
      most = tt;
    })
