-- A request that was placed is matched by the route of its schema's template (Smithy, HTTP protocol bindings, http trait).
use Rattle.std.specs.Prelude.{◌≡◌, ℕ, List, Some, IsTrue}
use Rattle.smithy_http.specs.Requests.{Request}
use Rattle.smithy_schema.specs.Nodes.{Http, Schema}
use Rattle.smithy_serde.specs.Values.{Write}
use Rattle.smithy_binding.specs.Answer.{place}
use Rattle.smithy_binding.specs.Placing.{Protocol, OmitFlags}
use Rattle.smithy_router.specs.Routes.{Route, matches}
use Rattle.smithy_router.specs.Templates.{route_of}

-- the schema has `@http`, and its template this route
pub record HasRoute (schema : Schema) (route : Route) : Type 0 where
  pub http : Http
  pub stands : schema.node.traits.http ≡ Some http
  pub gives : route_of http.method http.uri ≡ Some route

-- whatever is placed by a schema with a route is matched by the route
abbrev pub PlacedIsMatched : Type 0
PlacedIsMatched =
    (protocol : Protocol) (schema : Schema) (ws : List Write) (endpoint : List ℕ) (omit : OmitFlags) (q : Request) (route : Route)
    → HasRoute schema route → place protocol schema ws endpoint omit ≡ Some q → IsTrue (matches route q.method q.target)
