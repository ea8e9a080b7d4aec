-- A sample program.
pub mod Pair
pub mod PairCosts
