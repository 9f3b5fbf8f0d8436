pub mod Handing
pub mod Recording
pub mod Steps
pub mod ValueBuilding
