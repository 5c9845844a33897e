-- A reader's state and its array: when it is sound, what a byte or a read keeps in it, and what is handed out of it.
pub mod Soundness
pub mod Kept
pub mod Arrays
pub mod Handing
pub mod Short
