pub mod Words
pub mod Calls
pub mod Gateway
pub mod Laws
pub mod Answers
pub mod views
