pub mod Grid
pub mod Cells
pub mod Cards
