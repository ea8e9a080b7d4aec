pub mod Standing
pub mod Views
pub mod Written
pub mod Changed
pub mod Handing
pub mod Onward
pub mod Zeroing
pub mod Syncing
pub mod Topmost
pub mod Detaching
pub mod Reattaching
pub mod Stealing
pub mod Rows
pub mod Pointing
pub mod Roomy
pub mod Lying
pub mod Lending
mod Ends
pub mod Begun
pub mod Calling
pub mod Callee
pub mod Called
pub mod Lengths
pub mod Uses
pub mod Noted
pub mod Growing
pub mod Stepping
pub mod Following
pub mod Leaving
pub mod Living
pub mod Making
pub mod Covering
pub mod Losing
pub mod Cleared
pub mod Returned
mod Starting
mod Rooted
mod Copied
