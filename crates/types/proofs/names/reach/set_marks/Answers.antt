use Rattle.std.proofs.Common.{◌<◌, ◌≤◌, length, get_or}
use Rattle.types.proofs.names.Marks.{next_past, next_marked}
use Rattle.types.proofs.names.reach.set_marks.Goals.{then-place-len, else-place-len}
use Rattle.types.proofs.names.reach.set_marks.Goals as goal

pub loop-place-preserved : goal.loop-place-preserved
loop-place-preserved c =
    elim c.if-place-len.branch [
      | then-place-len w ↦
          let within : get_or c.args.places.now c.loop-place.place-index 0 < length c.loop-place.marks.items = rw (← c.loop-place.marks.ok.0, ← c.len.ensures) w.if-place-len.true in
          rw w.marks-is (next_marked _ _ _ _ c.loop-place-test.true c.loop-place.invariant within)
      | else-place-len w ↦
          let far : length c.loop-place.marks.items ≤ get_or c.args.places.now c.loop-place.place-index 0 = rw (← c.loop-place.marks.ok.0, ← c.len.ensures) w.if-place-len.false in
          rw w.marks-is (next_past _ _ _ _ c.loop-place-test.true c.loop-place.invariant far)
    ]
