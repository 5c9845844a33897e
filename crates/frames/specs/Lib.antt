pub mod Plain
pub mod Judging
pub mod Parts
