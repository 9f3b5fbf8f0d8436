-- The address of an endpoint, as the code has its parts.
use Rattle.smithy_http.specs.declared.endpoint.Address.{Address}
use Rattle.smithy_http.specs.Endpoints as endpoints

abbrev pub address_view : Address → endpoints.Address
address_view a = record { scheme = a.scheme.now; authority = a.authority.now; path = a.path.now }
