pub mod CallExact
pub mod Sent
pub mod Kept
