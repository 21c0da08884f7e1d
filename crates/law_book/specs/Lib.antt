pub mod Laws
pub mod Tables
pub mod Books
pub mod Opening
pub mod Leastness
pub mod Faults
pub mod Turns
