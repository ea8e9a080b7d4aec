pub mod Fitting
pub mod Linking
pub mod Committing
pub mod Absorbing
