-- What a message of each direction has of a schema (Smithy, HTTP protocol bindings: some traits bind members of inputs alone, one those of outputs).
use Rattle.std.specs.Prelude.{ℕ, Bool, false, List, map, Option, None, option_map}
use Rattle.smithy_binding.specs.Words.{Node, Schema, Table, Traits}
use Rattle.smithy_binding.specs.declared.direction.Direction.{Direction}
use Rattle.smithy_binding.specs.declared.direction.Direction.TheVariants as direction

-- a query member is one of a request (httpQuery)
abbrev pub directed_query : Direction → Traits → Option (List ℕ)
directed_query direction.Request t = t.http_query
directed_query direction.Response t = None

-- and so is a query map (httpQueryParams)
abbrev pub directed_query_map : Direction → Traits → Bool
directed_query_map direction.Request t = t.http_query_params
directed_query_map direction.Response t = false

-- the text of the member stands in the first line: in a request's target, or as a response's status (httpLabel, httpResponseCode)
abbrev pub directed_label : Direction → Traits → Bool
directed_label direction.Request t = t.http_label
directed_label direction.Response t = t.http_response_code

-- The traits that a message of the direction goes by. A response has no query, and its code is its only label; headers, prefixes
-- and payloads are the same in both directions.
abbrev pub directed_traits : Direction → Traits → Traits
directed_traits way t = record t { http_query = directed_query way t; http_query_params = directed_query_map way t; http_label = directed_label way t }

abbrev pub directed_node : Direction → Node → Node
directed_node way n = record n { traits = directed_traits way n.traits }

abbrev pub directed_table : Direction → Table → Table
directed_table direction.Request t = t
directed_table direction.Response t = map (option_map (directed_node direction.Response)) t

-- the schema that a message of the direction goes by: for a request the schema itself
abbrev pub directed_schema : Direction → Schema → Schema
directed_schema way schema = record { table = directed_table way schema.table; node = directed_node way schema.node }
