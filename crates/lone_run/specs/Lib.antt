pub mod Counted
pub mod UnderWay
-- for the crates above
pub use Rattle.serial_machine.specs as serial_machine
