use Rattle.std.proofs.Common.{◌<◌, length, arith}
use Rattle.region_match.proofs.Mixing.{mixed_one, unmixed_one, mixed_next, mixed_all}
use Rattle.region_match.proofs.label.mixed_fault.Goals.{then-marks-b, else-marks-b}
use Rattle.region_match.proofs.label.mixed_fault.Goals as goal

pub loop-b-preserved : goal.loop-b-preserved
loop-b-preserved c =
    let blocks = c.args.blocks.now in
    let within : c.loop-b.b < length blocks = omega (arith, c.loop-b-test.true, c.requires.blocks) in
    mixed_next _ _ _ _ c.index-bodies-b.result _ _ _ c.loop-b-test.true c.index-bodies-b.is c.loop-b.invariant
    (elim c.if-marks-b.branch [
      | then-marks-b w ↦ rw w.broken-is (mixed_one blocks c.loop-b.b _ _ (c.requires.exact c.loop-b.b within) w.if-marks-b.true)
      | else-marks-b w ↦ rw w.broken-is (unmixed_one blocks c.loop-b.b c.index-bodies-b.result.line _ (c.requires.exact c.loop-b.b within) w.if-marks-b.false)
    ])
    c.lower-named.ensures

pub returns : goal.returns
returns c = mixed_all _ _ _ _ _ c.requires.blocks c.loop-b-test.false c.loop-b.invariant
