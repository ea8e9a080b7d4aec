use Rattle.std.proofs.Common.{suc, length, arith}
use Rattle.linear_shown.proofs.Merging.{places_next, places_fewer, places_permuted}
use Rattle.linear_shown.proofs.merge.entries_from.Goals as goal

pub loop-place-preserved : goal.loop-place-preserved
loop-place-preserved c =
    rw c.in_ok-push-in-Some.ensures.items
    (places_next c.args.facts.now c.args.from c.loop-place.place c.loop-place.entries.items c.in-Some.entry c.loop-place.invariant c.in-Some.ensures.entry c.in-Some.ensures.place)

pub returns : goal.returns
returns c =
    places_permuted c.args.facts.now c.args.from (suc (length c.args.facts.now)) _ _ c.sort_unstable_by_key.ensures.permutation
    (places_fewer c.args.facts.now c.args.from c.loop-place.place (suc (length c.args.facts.now)) c.loop-place.entries.items (omega (arith, c.loop-place-test.false)) c.loop-place.invariant)
