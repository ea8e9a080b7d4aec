pub mod OnWay
pub mod Stopping
pub mod Answering
