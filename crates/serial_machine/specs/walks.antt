-- What holds along the steps of a serial run.
pub mod Along
