use Rattle.std.proofs.Common.{◌∙◌}
use Rattle.smithy_bind.proofs.sending.placed_among.Goals as goal

pub returns-clause-beside : goal.returns-clause-beside
returns-clause-beside g c = c.serialize_request_cached.ensures.kept.table ∙ c.requires.beside
