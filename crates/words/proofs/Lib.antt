pub mod Bit
pub mod Masks
pub mod Smallest
pub mod Upwards
pub mod Jumps
