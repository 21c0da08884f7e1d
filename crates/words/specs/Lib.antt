pub mod Words
pub mod Smallest
pub mod Ascending
