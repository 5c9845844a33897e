pub mod Skips
pub mod Lanes
pub mod Plainly
pub mod Eights
pub mod Judges
pub mod Unique
