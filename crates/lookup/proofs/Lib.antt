pub mod LookupLaws
pub mod LookupRight
