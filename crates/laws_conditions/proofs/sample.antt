-- A sample program meets the conditions, so they are not void.
pub mod PairSample
pub mod PairSerial
pub mod PairRuns
pub mod PairCosts
