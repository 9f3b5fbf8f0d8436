use Rattle.std.proofs.Common.{ap, sym}
use Rattle.smithy_schema.specs.Routing.{routing}
use Rattle.smithy_schema.specs.views.References.{schema_in}
use Rattle.smithy_schema.specs.declared.schema_ref.Spot.{Spot}
use Rattle.smithy_schema.proofs.schema_ref.SchemaRef.response_routing.Goals as goal

pub returns-in-Prelude-clause-word : goal.returns-in-Prelude-clause-word
unfolding routing
returns-in-Prelude-clause-word c = ap (λ (s : Spot). routing (schema_in s)) (sym c.in-Prelude.is)
