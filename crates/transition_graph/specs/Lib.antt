pub mod Tables
pub mod Graphs
pub mod Opening
pub mod Listed
