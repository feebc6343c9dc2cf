pub mod Recording
pub mod Form
pub mod Check
pub mod Decode
pub mod Fault
pub mod ExampleBytes
pub mod Decoded
pub mod Packed
