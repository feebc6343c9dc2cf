pub mod Write
pub mod Tables
pub mod Pack
pub mod Again
