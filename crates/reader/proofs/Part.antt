-- How one byte bears on the judgement of the part that it stands in.
pub mod Frames
pub mod Judging
pub mod BinaryPart
pub mod AsciiPart
pub mod OneByte
