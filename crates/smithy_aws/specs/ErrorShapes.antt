-- Which error a response has (Smithy, AWS restJson1 and AWS JSON protocols, operation error serialization).
use Rattle.std.specs.Prelude.{ℕ, nat_le, Bool, ◌&&◌, codes, List, Option, Some, None, option_map, ok_or, Result, Ok, Err, if◌then◌else◌}
use Rattle.smithy_types.specs.Results.{then_give}
use Rattle.smithy_http.specs.Responses.{Response}
use Rattle.smithy_serde.specs.declared.error.SerdeError.{SerdeError}
use Rattle.smithy_serde.specs.declared.error.SerdeError.TheVariants.{InvalidInput, UnknownMember}
use Rattle.smithy_registry.specs.ErrorCodes.{sanitized}
use Rattle.smithy_registry.specs.Layers.{in_either}
use Rattle.smithy_registry.specs.Registries.{by_code}
use Rattle.smithy_registry.specs.declared.composed.ComposedRegistry.{ComposedRegistry}
use Rattle.smithy_aws.specs.ErrorCodes.{error_code}

-- a success (RFC 9110, section 15.3)
abbrev pub is_success : ℕ → Bool
is_success status = nat_le 200 status && nat_le status 299

-- the place of the error of a code, of the first registry that has one
abbrev pub error_named : {R : Type 0} {g : _} → ComposedRegistry R g → List ℕ → Result ℕ SerdeError
error_named errors code = ok_or (option_map (λ e. e.schema) (in_either (by_code code) errors)) (UnknownMember (sanitized code))

abbrev pub error_if_named : {R : Type 0} {g : _} → ComposedRegistry R g → Option (List ℕ) → Result ℕ SerdeError
error_if_named errors None = Err (InvalidInput (codes "the response names no error"))
error_if_named errors (Some code) = error_named errors code

-- the place of the error that a response has, none where it is a success
abbrev pub error_in : {R : Type 0} {g : _} → ComposedRegistry R g → Response → Result (Option ℕ) SerdeError
error_in errors r = if is_success r.status then Ok None else then_give (error_if_named errors (error_code r)) Some
