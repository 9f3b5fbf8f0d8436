pub mod Filled
pub mod Matched
pub mod Parts
pub mod Segments
