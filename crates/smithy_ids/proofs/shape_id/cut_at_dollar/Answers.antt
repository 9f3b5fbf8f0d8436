use Rattle.std.proofs.Common.{sym}
use Rattle.smithy_ids.specs.ShapeIds.{is_dollar}
use Rattle.smithy_ids.proofs.NameLemmas.{before_first-none}
use Rattle.smithy_ids.proofs.shape_id.cut_at_dollar.Goals as goal

pub returns-in-None-clause-shape : goal.returns-in-None-clause-shape
returns-in-None-clause-shape c = sym (before_first-none is_dollar c.args.name.now c.in-None.ensures)
