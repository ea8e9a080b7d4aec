use Rattle.std.proofs.Common.{Some, None}
use Rattle.std.specs.Int.{w64}
use Rattle.std.proofs.lemmas.Int.{to_z-of_z}
use Rattle.frame_engine.proofs.Cases.{chosen_is}
use Rattle.frame_engine.proofs.ending.chosen.Goals as goal

pub returns-in-Some : goal.returns-in-Some
returns-in-Some c = chosen_is c.args.number _ c.args.default.0 c.args.cases.now (Some c.in-Some.case.now) (to_z-of_z w64 c.args.number c.ranges.number) c.in-Some.ensures

pub returns-in-None : goal.returns-in-None
returns-in-None c = chosen_is c.args.number _ c.args.default.0 c.args.cases.now None (to_z-of_z w64 c.args.number c.ranges.number) c.in-None.ensures
