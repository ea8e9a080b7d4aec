use Rattle.std.proofs.Common.{◌≡◌, ◌^◌, pos, arith}
use Rattle.std.specs.Int.{w128, int_div_euclid, int_rem_euclid}
use Rattle.std.proofs.lemmas.Int.{ints, to_z-of_z}
use Rattle.store.proofs.Words.{words_are, word_small}
use Rattle.store.proofs.sums.carried.Goals as goal

pub overflow_add-result : goal.overflow_add-result
overflow_add-result c =
    let is : c.div_euclid.result ≡ int_div_euclid c.args.rest (pos (2 ^ 64)) = rw (to_z-of_z w128 c.args.rest c.ranges.rest) at c.div_euclid.ensures in
    omega (arith, ints, is, word_small c.args.rest c.ranges.rest)

pub returns : goal.returns
returns c =
    let is : c.div_euclid.result ≡ int_div_euclid c.args.rest (pos (2 ^ 64)) = rw (to_z-of_z w128 c.args.rest c.ranges.rest) at c.div_euclid.ensures in
    let left : c.rem_euclid.result ≡ int_rem_euclid c.args.rest (pos (2 ^ 64)) = rw (to_z-of_z w128 c.args.rest c.ranges.rest) at c.rem_euclid.ensures.value in
    omega (arith, ints, is, left, word_small c.args.rest c.ranges.rest, words_are c.args.rest)
