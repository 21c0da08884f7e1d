pub mod Short
pub mod Drain
pub mod Twin
pub mod Ring
pub mod Latch
