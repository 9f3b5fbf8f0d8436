use Rattle.smithy_ids.specs.views.ShapeIdParts.{parts_of}
use Rattle.smithy_ids.proofs.PartsLemmas.{parts_in-joined}
use Rattle.smithy_ids.proofs.shape_id.ShapeId.as_str.Goals as goal

pub returns-clause-parts : goal.returns-clause-parts
returns-clause-parts c =
    let id = c.args.self.now in
    parts_in-joined (parts_of id) (record { spelled = id.spelled; no_hash = id.no_hash; no_dollar = id.no_dollar })
