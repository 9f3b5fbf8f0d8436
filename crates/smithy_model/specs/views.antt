pub mod ModelView
pub mod NameView
pub mod NodeView
pub mod PlacedView
pub mod ReachedView
pub mod SpotView
pub mod WrongView
