pub mod ErrorCodes
pub mod Registries
pub mod Layers
pub mod Shapes
pub mod Reading
pub mod Discriminators
pub mod views
-- what shows the code, under the paths of the other modules too
pub use Rattle.smithy_registry.specs.views.Kept
