pub mod Bans
pub mod Fences
