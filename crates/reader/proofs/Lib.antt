pub mod Part
pub mod State
pub mod Stream
pub mod Functions
pub mod Unique
