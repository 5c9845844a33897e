pub mod Hear
pub mod Hearings
