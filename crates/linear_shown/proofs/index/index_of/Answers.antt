use Rattle.std.proofs.Common.{◌≡◌, ℕ, suc, length, subst, arith}
use Rattle.linear_shown.specs.Index.{AreLayers}
use Rattle.linear_shown.proofs.index.index_of.Goals as goal

pub returns-then-index-facts : goal.returns-then-index-facts
returns-then-index-facts c =
    let index = c.enter_from.new.index in
    let begun = c.in_ok-enter_from.ensures in
    let all : index.entered.count ≡ suc (length c.args.facts.now) = omega (arith, begun.within, c.if-index-facts.true) in
    subst (λ (n : ℕ). AreLayers c.args.facts.now n index.settled.items index.recent.items) all begun.layers
