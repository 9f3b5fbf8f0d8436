-- All traits that a shape or a member is given.
use Rattle.std.specs.Prelude.{codes, Option, Some, None}
use Rattle.serde_json.specs.Data.{Data}
use Rattle.serde_json.specs.Find.{get}
use Rattle.smithy_schema.specs.Nodes.{Traits, no_traits}
use Rattle.smithy_model.specs.Json.{provided}
use Rattle.smithy_model.specs.Traits.{are_fit_traits, plain_traits}
use Rattle.smithy_model.specs.Further.{further_traits}

abbrev pub traits_in : Data → Traits
traits_in d = record (plain_traits d) { others = further_traits d }

abbrev pub fit_traits : Data → Option Traits
fit_traits d = provided (are_fit_traits d) (Some (traits_in d))

abbrev pub traits_given : Option Data → Option Traits
traits_given None = Some no_traits
traits_given (Some d) = fit_traits d

-- The traits of a shape or a member. None where one has no full name, or not its form.
abbrev pub traits_of : Data → Option Traits
traits_of shape = traits_given (get (codes "traits") shape)
