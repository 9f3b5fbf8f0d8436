pub mod Addresses
pub mod ItemReading
pub mod Lends
pub mod Methods
pub mod Pairs
