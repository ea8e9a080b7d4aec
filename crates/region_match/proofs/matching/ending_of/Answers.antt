use Rattle.region_match.proofs.Ended.{ending_seen, ending_lacked, ending_past}
use Rattle.region_match.proofs.matching.ending_of.Goals as goal

pub returns-in-Some-ending : goal.returns-in-Some-ending
returns-in-Some-ending c = ending_seen c.args.bodies.now c.args.block c.in-Some.body.now c.in-Some-ending.ending c.in-Some.ensures.lookup.3.0 c.in-Some.ensures.lookup.1 c.in-Some-ending.is

pub returns-in-None-ending : goal.returns-in-None-ending
returns-in-None-ending c = ending_lacked c.args.bodies.now c.args.block c.in-Some.body.now c.in-Some.ensures.lookup.3.0 c.in-Some.ensures.lookup.1 c.in-None-ending.is

pub returns-in-None : goal.returns-in-None
returns-in-None c = ending_past c.args.bodies.now c.args.block c.in-None.ensures.lookup.0
