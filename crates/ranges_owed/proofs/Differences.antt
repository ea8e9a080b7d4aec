-- The difference of two sides, whose numbers are small.
use Rattle.std.proofs.Common.{◌≡◌, ◌-ℤ◌, ℤ, pos, negsuc, List, [], ◌++◌, FitsSigned, to_z, of_z}
use Rattle.std.specs.Int.{w128}
use Rattle.std.proofs.lemmas.Int.{to_z-of_z}
use Rattle.linear.specs.declared.form.Term.{Term}
use Rattle.cfg.specs.declared.structure.Move.{Move}
use Rattle.program.specs.declared.annotation.Inequality.{Inequality}
use Rattle.ranges_owed.specs.declared.sum.Part.{Part}
use Rattle.ranges_owed.specs.declared.sum.Sum.{Sum}
use Rattle.ranges_owed.specs.Inequalities.{parts_of, difference_of}

pub difference_joined : (moves : List Move) (q : Inequality) (a b : ℤ) (high low : List Term) (none first second parts : List Part) →
    FitsSigned w128 a → FitsSigned w128 b → FitsSigned w128 (a -ℤ b) → a ≡ q.high.constant → b ≡ q.low.constant → high ≡ q.high.terms → low ≡ q.low.terms → none ≡ [] → first ≡ none ++ parts_of moves (pos 1) high
    → second ≡ first ++ parts_of moves (negsuc 0) low → parts ≡ second
    → record { constant = to_z w128 (of_z w128 (to_z w128 (of_z w128 a) -ℤ to_z w128 (of_z w128 b))); parts = parts } ≡ difference_of moves q
difference_joined moves q a b high low none first second parts fa fb fd ea eb eh el en e1 e2 ep =
    let whole : to_z w128 (of_z w128 (to_z w128 (of_z w128 a) -ℤ to_z w128 (of_z w128 b))) ≡ a -ℤ b = rw (to_z-of_z w128 a fa, to_z-of_z w128 b fb) (to_z-of_z w128 (a -ℤ b) fd) in
    rw (whole, ea, eb, ep, e2, e1, en, eh, el)
