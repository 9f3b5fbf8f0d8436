pub mod Added
pub mod BodyValues
pub mod ErrorCodes
pub mod ErrorShapes
pub mod Laws
pub mod Payloads
pub mod Ready
pub mod Requests
pub mod ResponseShapes
pub mod ResponseValues
pub mod views
-- what shows the code, under the path of the other modules too
pub use Rattle.smithy_aws.specs.views.Calls
pub use Rattle.smithy_aws.specs.views.Inputs
