pub mod Words
pub mod ExactNumbers
pub mod Follows
pub mod Forms
pub mod Laws
pub mod Misfits
pub mod Said
pub mod Standing
pub mod Styles
pub mod Unwire
pub mod Wire
pub mod WireNames
pub mod WireText
pub mod WireTimes
pub mod views
-- what shows the code, under the path of the other modules too
pub use Rattle.smithy_wire.specs.views.WireOf
pub use Rattle.smithy_wire.specs.views.KnownForms
