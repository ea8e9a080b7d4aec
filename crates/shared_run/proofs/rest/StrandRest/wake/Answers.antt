use Rattle.schedule_core.proofs.Coding.{places_are}
use Rattle.shared_run.proofs.rest.StrandRest.wake.Goals as goal

pub invariant_of-result : goal.invariant_of-result
invariant_of-result g c = (
  c.requires.code,
  c.requires.decoded,
  c.requires.rests c.args.code.now.places (places_are c.args.verified.now c.args.code.now c.requires.decoded),
  tt,
)
