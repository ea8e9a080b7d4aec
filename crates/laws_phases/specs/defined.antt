-- Regions and definedness: roles, registers and cells that have values, registers that stay.
pub mod Leads
pub mod Names
pub mod Defined
pub mod Placed
pub mod Values
pub mod Stable
pub mod Known
pub mod Regions
pub mod Starting
