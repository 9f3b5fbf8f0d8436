use Rattle.std.proofs.Common.{None}
use Rattle.smithy_ids.proofs.PartsLemmas.{parts_in-joined}
use Rattle.smithy_schema.proofs.shape_id_buf.ShapeIdBuf.of.Goals as goal

pub returns-clause-parts : goal.returns-clause-parts
returns-clause-parts c =
    parts_in-joined (record { full_name = c.in_ok-name.name; namespace = c.args.namespace.now; shape_name = c.args.shape_name.now; member_name = None })
    (record { spelled = c.in_ok-name.ensures; no_hash = c.requires.no_hash; no_dollar = c.requires.no_dollar })
