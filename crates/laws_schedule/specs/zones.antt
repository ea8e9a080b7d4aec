-- The schedule theorem's conditions on zones, from the rules.
pub mod Keeping
pub mod ByPhases
pub mod Conditions
pub mod Named
