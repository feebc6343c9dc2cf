pub mod BitsLaws
pub mod ReaderLaws
