pub mod Commands
pub mod Places
pub mod Runs
pub mod Cards
