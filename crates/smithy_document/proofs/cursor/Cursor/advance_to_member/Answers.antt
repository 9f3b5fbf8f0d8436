use Rattle.smithy_document.proofs.Common.{view, schema_of, spot_list}
use Rattle.smithy_document.proofs.SkimLemmas.{skims_none}
use Rattle.smithy_document.proofs.cursor.Cursor.advance_to_member.Goals as goal

pub parts-init : goal.parts-init
parts-init c = (c.requires, skims_none (schema_of c.args.schema) (view c.args.root.now) (spot_list c.args.self.now) c.requires)
