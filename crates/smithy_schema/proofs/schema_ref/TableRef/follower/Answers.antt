use Rattle.std.proofs.Common.{ap}
use Rattle.smithy_schema.specs.views.Stored.{details_stored}
use Rattle.smithy_schema.specs.views.References.{node_in}
use Rattle.smithy_schema.proofs.FollowerLemmas.{first_given}
use Rattle.smithy_schema.proofs.schema_ref.TableRef.follower.Goals as goal

pub returns-in_ok-place-in-Full : goal.returns-in_ok-place-in-Full
returns-in_ok-place-in-Full c =
    first_given c.args.self.table.now c.stored.result.now c.in-Full.details.value (node_in c.args.self.table.now c.args.self.index.0) c.in_ok-place-in-Full.place c.at.result (ap details_stored c.in-Full.is) (rw c.in-Full.is at c.stored.ensures.members) c.stored.ensures.node (rw c.deref.ensures at c.in_ok-place-in-Full.ensures) c.at.ensures.node
