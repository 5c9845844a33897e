pub mod Log
pub mod Answers
pub mod Places
pub mod Room
pub mod Cells
pub mod Runs
pub mod Cards
