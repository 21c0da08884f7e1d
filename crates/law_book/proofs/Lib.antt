pub mod Tables
pub mod Closure
pub mod Books
pub mod Steps
pub mod Turns
pub mod Permissions
