pub mod Step
pub mod Read
pub mod Calls
pub mod Decide
