pub mod Points
pub mod Owners
pub mod Going
pub mod Texts
pub mod Results
pub mod Runs
