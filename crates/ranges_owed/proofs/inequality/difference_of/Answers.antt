use Rattle.std.proofs.Common.{◌-ℤ◌, rules, FitsSigned}
use Rattle.std.specs.Int.{w128}
use Rattle.ranges_owed.proofs.Differences.{difference_joined}
use Rattle.ranges_owed.proofs.inequality.difference_of.Goals as goal

pub push_parts-requires-clause-small : goal.push_parts-requires-clause-small
push_parts-requires-clause-small c = c.side_of-high.ensures.small

pub push_parts-requires-2-clause-small : goal.push_parts-requires-2-clause-small
push_parts-requires-2-clause-small c = c.side_of-low.ensures.small

pub returns : goal.returns
returns c =
    let a = c.side_of-high.result.constant in
    let b = c.side_of-low.result.constant in
    let high : FitsSigned w128 a = search rules in
    let low : FitsSigned w128 b = search rules in
    let less : FitsSigned w128 (a -ℤ b) = search rules in
    difference_joined c.args.moves.now c.args.inequality.now a b c.side_of-high.result.terms.now c.side_of-low.result.terms.now c.new-parts.result.items c.push_parts.new.parts.items c.push_parts-2.new.parts.items c.from_vec.result
    high low less c.side_of-high.ensures.constant c.side_of-low.ensures.constant c.side_of-high.ensures.terms c.side_of-low.ensures.terms c.new-parts.ensures.items c.in_ok-push_parts.ensures.ok
    c.in_ok-push_parts-2.ensures.ok c.from_vec.ensures
