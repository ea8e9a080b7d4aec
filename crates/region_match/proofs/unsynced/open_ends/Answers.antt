use Rattle.std.proofs.Common.{◌≡◌, ◌↔◌, ◌<◌, false, length, get_or, IsTrue, sym, ◌∙◌, arith}
use Rattle.std.proofs.lemmas.List.{get_or_read}
use Rattle.region_match.specs.Rules.{IsOpen}
use Rattle.region_match.proofs.OpenEnds.{OpenAt, open_iff, end_open, open_within, no_detach}
use Rattle.refusal.proofs.Places.{below_next, below_all}
use Rattle.region_match.proofs.unsynced.open_ends.Goals as goal

pub loop-to-preserved : goal.loop-to-preserved
loop-to-preserved c =
    let bodies = c.args.bodies.now in
    let blocks = c.args.blocks.now in
    let to = c.loop-to.to in
    let detach_in : c.args.detach < length blocks = omega (arith, c.requires.within, c.requires.size) in
    let to_in : to < length blocks = omega (arith, c.loop-to-test.true, c.requires.size) in
    let marked_in : to < length c.in_ok-marks.marks.items = omega (arith, to_in, c.in_ok-marks.ensures.size) in
    let read : c.index.result.now ≡ get_or c.in_ok-marks.marks.items to false = get_or_read c.in_ok-marks.marks.items to c.index.result.now marked_in c.index.ensures false in
    let exact = c.in_ok-marks.ensures.exact to to_in in
    let at : IsTrue c.is_both-is_open.result ↔ IsOpen bodies blocks c.args.detach to = open_iff bodies blocks c.args.tasks.now c.requires.tasks c.requires.size c.args.detach to c.in-Some.region c.in-Some.continuation c.is_reached.result c.is_same.result c.is_both-is_same_task.result c.index.result.now c.is_both-is_open.result detach_in to_in c.in-Some.ensures c.is_reached.ensures c.is_same.ensures c.is_both-is_same_task.ensures (λ h. exact.0 (sym read ∙ h), λ p. read ∙ exact.1 p) c.is_both-is_open.ensures in
    below_next (OpenAt bodies blocks c.args.detach) bodies to c.index-bodies-to.result _ _ _ c.loop-to-test.true c.index-bodies-to.is c.loop-to.invariant
    (end_open bodies blocks c.args.detach to c.index-bodies-to.result _ _ at c.end_fault-broken.ensures)
    c.lower-named.ensures

pub returns : goal.returns
returns c = open_within c.args.bodies.now c.args.blocks.now c.args.detach _ (below_all (OpenAt c.args.bodies.now c.args.blocks.now c.args.detach) c.args.bodies.now _ _ c.loop-to-test.false c.loop-to.invariant)

pub returns-in_default : goal.returns-in_default
returns-in_default c = no_detach c.args.bodies.now c.args.blocks.now c.args.detach c.in_default.ensures
