pub mod Forms
pub mod Made
pub mod Terms
pub mod Bounded
pub mod Lookup
