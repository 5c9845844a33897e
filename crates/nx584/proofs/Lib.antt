pub mod InC
pub mod Back
pub mod Cuts
pub mod Parts
pub mod Header
pub mod Station
pub mod Maps
pub mod Unique
pub mod FreshReader
pub mod Scans
mod Views
