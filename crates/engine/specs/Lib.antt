pub mod Job
pub mod Prepare
pub mod Computed
