pub mod Safe
pub mod RunsPromise
pub mod strands
