use Rattle.smithy_document.proofs.Common.{view, schema_of, opened_in, IsOpen}
use Rattle.smithy_document.proofs.SkimLemmas.{Skims, left_in}
use Rattle.smithy_document.proofs.cursor.Cursor.advance_to_member.Given as goal

abbrev pub invariant-parts : goal.invariant-parts
invariant-parts l = IsOpen l.self × Skims (schema_of l.schema) (opened_in (view l.root) l.fn.self) (opened_in (view l.root) l.self)

abbrev pub decreases-parts : goal.decreases-parts
decreases-parts l = left_in (opened_in (view l.root) l.self)
