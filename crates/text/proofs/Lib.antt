pub mod Groups
pub mod Turns
pub mod Reports
pub mod Unique
