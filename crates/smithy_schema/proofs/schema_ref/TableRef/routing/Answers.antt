use Rattle.std.proofs.Common.{ap, ◌∙◌}
use Rattle.smithy_schema.specs.declared.stored.FullDetails.{FullDetails}
use Rattle.smithy_schema.specs.views.Stored.{details_stored}
use Rattle.smithy_schema.specs.views.References.{node_in}
use Rattle.smithy_schema.proofs.KeptLemmas.{routing_kept, routing_outlined}
use Rattle.smithy_schema.proofs.schema_ref.TableRef.routing.Goals as goal

pub returns-in-Outline-clause-word : goal.returns-in-Outline-clause-word
returns-in-Outline-clause-word c =
    routing_outlined c.args.self.table.now c.stored.result.now c.in-Outline.field-0 (node_in c.args.self.table.now c.args.self.index.0) (ap details_stored c.in-Outline.is) c.stored.ensures.node

pub returns-in-Full-clause-word : goal.returns-in-Full-clause-word
returns-in-Full-clause-word c =
    ap (λ (d : FullDetails). d.routing) c.deref.ensures
    ∙ routing_kept c.args.self.table.now c.stored.result.now c.in-Full.details.value (node_in c.args.self.table.now c.args.self.index.0) (ap details_stored c.in-Full.is) (rw c.in-Full.is at c.stored.ensures.members).routing c.stored.ensures.node
