pub mod Adding
pub mod JsonView
pub mod Moving
