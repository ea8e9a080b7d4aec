use Rattle.std.proofs.Common.{w64}
use Rattle.std.proofs.lemmas.Int.{to_z-of_z}
use Rattle.cli_words.proofs.io.Progress.{one_more, no_number}
use Rattle.cli_words.proofs.io.numbers.read_numbers.Goals as goal

pub returns-in_default-number_of-clause-fault : goal.returns-in_default-number_of-clause-fault
returns-in_default-number_of-clause-fault c =
    rw c.fault_at.ensures (no_number c.args.text.now c.loop-word.rest.now c.loop-word.numbers.items c.in-Some.word.now c.in-Some.after.now c.loop-word.invariant
    c.in-Some.ensures.word c.in_default-number_of.ensures.none)

pub loop-word-preserved : goal.loop-word-preserved
loop-word-preserved c =
    rw (c.in_ok-push.ensures.items, to_z-of_z w64 c.in-Some-number_of.number c.in-Some-number_of.ensures.number.fits) (one_more c.args.text.now c.loop-word.rest.now c.loop-word.numbers.items c.in-Some.word.now c.in-Some.after.now c.in-Some-number_of.number c.loop-word.invariant
    c.in-Some.ensures.word c.in-Some-number_of.ensures.number)
