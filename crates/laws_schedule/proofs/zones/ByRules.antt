-- What the rules of the phases give.
use Rattle.laws_phases.proofs.facts.Stable.{facts_are_stable}
use Rattle.laws_phases.proofs.defined.Stable.{stable_by_rules}
use Rattle.laws_schedule.specs.zones.Conditions.{JudgedByRules}

pub judged_by_rules : JudgedByRules
judged_by_rules prog regions by = record {
  tasks = by.tasks;
  zones = by.zones;
  ranges = by.ranges;
  typed = by.typed;
  stable = facts_are_stable prog by.named by.phis by.typed by.graph by.matched by.uses;
  named = by.named;
  registers = stable_by_rules prog by.named by.graph by.matched by.uses;
  apart = by.apart;
  parameters = by.parameters;
  names = by.names;
}
