pub mod Calls
pub mod Inputs
pub mod ReadyInputs
pub mod Sent
