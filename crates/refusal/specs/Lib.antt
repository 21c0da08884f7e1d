pub mod Numbers
pub mod Refusals
pub mod Order
pub mod Sentences
pub mod Entries
