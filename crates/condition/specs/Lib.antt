pub mod Condition
pub mod Weigh
