use Rattle.std.proofs.Common.{ap, ◌∙◌}
use Rattle.smithy_schema.specs.declared.stored.Head.{Head}
use Rattle.smithy_schema.proofs.TableLemmas.{whole-parts}
use Rattle.smithy_schema.specs.views.Stored.{node_stored}
use Rattle.smithy_schema.proofs.schema_ref.TableRef.shape_id.Goals as goal

pub unreachable-requires : goal.unreachable-requires
unreachable-requires c = whole-parts (node_stored c.stored.result.now) c.as_str.result.now (c.as_str.ensures ∙ ap (λ (h : Head). h.full_name) c.head.ensures) c.stored.ensures.whole c.in-None.ensures
