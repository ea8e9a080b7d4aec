-- Local conditions give every schedule.
pub mod Parting
pub mod Feet
pub mod FeetKept
pub mod Sound
pub mod Undisturbed
pub mod Closed
pub mod Leaves
pub mod Theorem
pub mod EverySchedule
pub mod RankInduction
pub mod SerialExists
pub mod Budgets
