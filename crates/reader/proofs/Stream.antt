-- Streams hand out what their parts do; every sound reader is what a stream leads to; demand 3; the used bytes.
pub mod Parts
pub mod Scans
pub mod Leads
pub mod Demand3
pub mod Used
