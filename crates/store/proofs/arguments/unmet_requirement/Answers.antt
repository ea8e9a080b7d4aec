use Rattle.std.proofs.Common.{◌≡◌, length, arith, refl}
use Rattle.store.proofs.Unmet.{unmet_some, unmet_none, unmet_within}
use Rattle.store.proofs.arguments.unmet_requirement.Goals as goal

pub returns-then-unmet-requirements : goal.returns-then-unmet-requirements
returns-then-unmet-requirements c =
    let long : length c.in-Some.main.now.parameters ≡ length c.args.arguments.now = omega arith in
    unmet_some c.args.arguments.now _ c.in-Some.main.now c.as_slice-requirements.result.now c.in-Some-first_unmet.unmet _ c.in-Some.ensures long c.as_slice-requirements.ensures c.in-Some-first_unmet.ensures refl

pub returns-else-unmet-requirements : goal.returns-else-unmet-requirements
returns-else-unmet-requirements c =
    let there = unmet_within c.args.arguments.now c.as_slice-requirements.result.now c.in-Some-first_unmet.unmet c.in-Some-first_unmet.ensures in
    absurd (omega (arith, there))

pub returns-in-None : goal.returns-in-None
returns-in-None c =
    let long : length c.in-Some.main.now.parameters ≡ length c.args.arguments.now = omega arith in
    unmet_none c.args.arguments.now _ c.in-Some.main.now c.as_slice-requirements.result.now c.in-Some.ensures long c.as_slice-requirements.ensures c.in-None.ensures
