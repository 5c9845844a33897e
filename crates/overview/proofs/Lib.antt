mod Groups
pub mod Unique
