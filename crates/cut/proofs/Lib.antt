pub mod ValueLaws
pub mod ValueRight
mod WalkLaws
