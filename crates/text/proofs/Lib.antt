pub mod DecimalLaws
pub mod TextLaws
pub mod LineLaws
pub mod TextRight
