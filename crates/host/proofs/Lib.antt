pub mod Answers
pub mod Demand3
pub mod Intact
pub mod Unique
