-- Local conditions, each about one frame at one place, and the schedule theorem over them.
pub mod Conditions
pub mod SerialConditions
pub mod Budgets
pub mod Schedules
pub mod InProofs
