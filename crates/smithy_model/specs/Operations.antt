-- The operation of a model that a job names (Smithy, JSON AST).
use Rattle.std.specs.Prelude.{ℕ, List, [], codes, Bool, false, ◌&&◌, Option, Some, None, option_map, option_and_then}
use Rattle.std.specs.Option.{option_map_or}
use Rattle.serde_json.specs.Data.{Data}
use Rattle.serde_json.specs.Find.{get}
use Rattle.smithy_types.specs.Results.{each}
use Rattle.smithy_ids.specs.Traits.{Http}
use Rattle.smithy_model.specs.Json.{items_in, text_at, provided}
use Rattle.smithy_model.specs.Names.{is}
use Rattle.smithy_model.specs.Shapes.{found_at, has_no_mixins}
use Rattle.smithy_model.specs.Traits.{are_fit_traits, http_in}

-- what an operation says: its `@http`, if it has it, and the full names of the shapes of its input, its output and its errors
pub record Operation : Type 0 where
  pub http : Option Http
  pub input : List ℕ
  pub output : List ℕ
  pub errors : List (List ℕ)

abbrev pub target_in : Data → Option (List ℕ)
target_in d = text_at (codes "target") d

-- the target of an input or an output, and `Unit` where there is none (Smithy, unit type)
abbrev pub target_given : Option Data → Option (List ℕ)
target_given None = Some (codes "smithy.api#Unit")
target_given (Some d) = target_in d

-- the targets of errors, which may be absent
abbrev pub targets_given : Option Data → Option (List (List ℕ))
targets_given None = Some []
targets_given (Some d) = option_and_then (each target_in) (items_in d)

-- `@http` among the traits, which may be absent
abbrev pub http_among : Option Data → Option (Option Http)
http_among None = Some None
http_among (Some d) = option_map Some (http_in d)

abbrev pub http_given : Option Data → Option (Option Http)
http_given None = Some None
http_given (Some traits) = provided (are_fit_traits traits) (http_among (get (codes "smithy.api#http") traits))

-- an operation without mixins
abbrev pub is_operation : Data → Bool
is_operation shape = option_map_or (is (codes "operation")) (text_at (codes "type") shape) false && has_no_mixins shape

abbrev pub operation_with : Option Http → Data → Option Operation
operation_with http shape =
    option_and_then (λ i. option_and_then (λ o. option_map (λ es. record { http = http; input = i; output = o; errors = es }) (targets_given (get (codes "errors") shape))) (target_given (get (codes "output") shape))) (target_given (get (codes "input") shape))

-- each part has its form
abbrev pub operation_in : Data → Option Operation
operation_in shape = provided (is_operation shape) (option_and_then (λ http. operation_with http shape) (http_given (get (codes "traits") shape)))

-- The operation of this name.
unfoldable pub operation_at : Data → List ℕ → Option Operation
operation_at shapes name = option_and_then operation_in (found_at shapes name)
