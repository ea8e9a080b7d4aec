pub mod CallLaws
pub mod Covering
pub mod Defining
mod FunctionGiven
pub mod Heads
pub mod Judging
mod Mains
pub mod Scopes
pub mod TextCalls
pub mod Programs
