pub mod Value
pub mod Walk
