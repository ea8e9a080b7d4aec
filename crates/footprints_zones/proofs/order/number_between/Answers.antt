use Rattle.std.proofs.Common.{◌∙◌, ℤ, ◌-ℤ◌, to_z, of_z}
use Rattle.std.specs.Int.{w128}
use Rattle.std.proofs.lemmas.Option.{IfSome_then}
use Rattle.footprints_zones.proofs.Orders.{difference_fits, difference_read, small_read, AreEnds, level_shown, runs_shown}
use Rattle.footprints_zones.proofs.order.number_between.Goals as goal

pub overflow_sub-start : goal.overflow_sub-start
overflow_sub-start c = difference_fits c.side_of-high.result.constant c.side_of-low.result.constant c.side_of-high.ensures.small_constant c.side_of-low.ensures.small_constant

pub is_level-requires : goal.is_level-requires
is_level-requires c = c.side_of-high.ensures.small

pub returns-then-is_level-clause-made : goal.returns-then-is_level-clause-made
returns-then-is_level-clause-made c =
    let start : ℤ = to_z w128 (of_z w128 (to_z w128 (of_z w128 c.side_of-high.result.constant) -ℤ to_z w128 (of_z w128 c.side_of-low.result.constant))) in
    let are : AreEnds c.args.high.now c.args.low.now c.side_of-high.result.terms.now c.side_of-low.result.terms.now start = record {
      of_high = c.side_of-high.ensures.terms;
      of_low = c.side_of-low.ensures.terms;
      begins =
          difference_read c.side_of-high.result.constant c.side_of-low.result.constant c.side_of-high.ensures.small_constant c.side_of-low.ensures.small_constant
          ∙ cc (c.side_of-high.ensures.constant, c.side_of-low.ensures.constant);
      small = rw c.unsigned_abs.ensures.value at c.if-unsigned_abs-ge1267650600228229401496703205376.false;
    } in
    level_shown c.args.for_high.now c.args.high.now c.args.for_low.now c.args.low.now c.side_of-high.result.terms.now c.side_of-low.result.terms.now start are (c.is_level.ensures c.if-is_level.true)

pub returns-then-is_level-clause-small : goal.returns-then-is_level-clause-small
returns-then-is_level-clause-small c = rw c.unsigned_abs.ensures.value at c.if-unsigned_abs-ge1267650600228229401496703205376.false

pub plus_terms-requires-clause-number : goal.plus_terms-requires-clause-number
plus_terms-requires-clause-number c = rw c.unsigned_abs.ensures.value at c.if-unsigned_abs-ge1267650600228229401496703205376.false

pub plus_terms-requires-clause-small : goal.plus_terms-requires-clause-small
plus_terms-requires-clause-small c = c.side_of-high.ensures.small

pub plus_terms-requires-2-clause-number : goal.plus_terms-requires-2-clause-number
plus_terms-requires-2-clause-number c = rw (small_read c.in_ok-upper.upper c.in_ok-upper.ensures.small) c.in_ok-upper.ensures.small

pub plus_terms-requires-2-clause-small : goal.plus_terms-requires-2-clause-small
plus_terms-requires-2-clause-small c = c.side_of-low.ensures.small

pub returns-clause-small : goal.returns-clause-small
returns-clause-small c = c.plus_terms-2.ensures.small

pub returns-clause-made : goal.returns-clause-made
returns-clause-made c =
    let start : ℤ = to_z w128 (of_z w128 (to_z w128 (of_z w128 c.side_of-high.result.constant) -ℤ to_z w128 (of_z w128 c.side_of-low.result.constant))) in
    let are : AreEnds c.args.high.now c.args.low.now c.side_of-high.result.terms.now c.side_of-low.result.terms.now start = record {
      of_high = c.side_of-high.ensures.terms;
      of_low = c.side_of-low.ensures.terms;
      begins =
          difference_read c.side_of-high.result.constant c.side_of-low.result.constant c.side_of-high.ensures.small_constant c.side_of-low.ensures.small_constant
          ∙ cc (c.side_of-high.ensures.constant, c.side_of-low.ensures.constant);
      small = rw c.unsigned_abs.ensures.value at c.if-unsigned_abs-ge1267650600228229401496703205376.false;
    } in
    IfSome_then c.plus_terms-2.result c.plus_terms-2.ensures.made
    (λ number of_low.
    runs_shown c.args.for_high.now c.args.high.now c.args.for_low.now c.args.low.now c.side_of-high.result.terms.now c.side_of-low.result.terms.now start c.in_ok-upper.upper number are c.in_ok-upper.ensures.made c.in_ok-upper.ensures.small of_low)
