pub mod Kinds
pub mod ShapeIds
pub mod Traits
pub mod views
pub use Rattle.smithy_ids.specs.views.ShapeIdParts
