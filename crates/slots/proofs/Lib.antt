pub mod Line
pub mod Unique
