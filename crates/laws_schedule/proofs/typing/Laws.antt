-- The laws.
use Rattle.laws_schedule.specs.typing.Typed.{NamesAreRight, TypesAreRight, ParametersAreNamed, MeasuresNameParameters, ObjectsAreNamed}
use Rattle.laws_phases.proofs.defined.Stable.{stable_by_rules}
use Rattle.laws_schedule.proofs.typing.Named.{named}
use Rattle.laws_schedule.proofs.typing.Typed.{measures, typed, names_parameters}
use Rattle.laws_schedule.proofs.typing.Elements.{names_objects}

pub names_are_right : NamesAreRight
names_are_right whole program kept m right = named whole kept program m right

pub types_are_right : TypesAreRight
types_are_right whole program m right regions = typed whole program m right regions

pub parameters_are_named : ParametersAreNamed
parameters_are_named whole program m = names_parameters whole program m

pub measures_name_parameters : MeasuresNameParameters
measures_name_parameters whole program m = measures whole program m

pub objects_are_named : ObjectsAreNamed
objects_are_named whole program kept m right regions uses = names_objects whole program m kept (stable_by_rules program (named whole kept program m right) right regions uses)
