use Rattle.smithy_schema.proofs.TableLemmas.{whole_at}
use Rattle.smithy_schema.proofs.KeptLemmas.{members_at}
use Rattle.smithy_schema.proofs.schema_ref.TableRef.stored.Goals as goal

pub returns-clause-whole : goal.returns-clause-whole
returns-clause-whole c = whole_at _ _ _ _ c.table.invariant.sound c.as_slice.ensures.value c.in-Some.ensures.node

pub returns-clause-members : goal.returns-clause-members
returns-clause-members c =
    rw (← c.table.view_is) (members_at c.table.inside.nodes.items c.as_slice.result.now c.args.self.index.0 _ c.table.invariant c.as_slice.ensures.value c.in-Some.ensures.kept)
