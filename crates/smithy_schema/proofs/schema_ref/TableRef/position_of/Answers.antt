use Rattle.std.proofs.Common.{ap}
use Rattle.smithy_schema.specs.views.Stored.{details_stored}
use Rattle.smithy_schema.specs.views.References.{node_in}
use Rattle.smithy_schema.proofs.KeptLemmas.{position_kept}
use Rattle.smithy_schema.proofs.schema_ref.TableRef.position_of.Goals as goal

pub position_of-requires : goal.position_of-requires
position_of-requires c = rw (c.as_slice.ensures.value, c.table.view_is, c.deref.ensures) (rw c.in-Full.is at c.stored.ensures.members)

pub returns-in-Full : goal.returns-in-Full
returns-in-Full c =
    let found = rw (c.as_slice.ensures.value, c.table.view_is, c.deref.ensures) at c.position_of.ensures in
    position_kept c.args.self.table.now c.stored.result.now c.in-Full.details.value (node_in c.args.self.table.now c.args.self.index.0) c.args.name.now _ (ap details_stored c.in-Full.is) found c.stored.ensures.node
