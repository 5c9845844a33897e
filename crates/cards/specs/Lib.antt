pub mod Cards
pub mod Printed
