pub mod BodyCalls
pub mod BoundPositions
pub mod Frames
pub mod Stages
pub mod Transporting
