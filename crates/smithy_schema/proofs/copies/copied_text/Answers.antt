use Rattle.std.proofs.lemmas.Str.{is_utf8-from_IsUtf8}
use Rattle.smithy_schema.proofs.copies.copied_text.Goals as goal

pub returns-clause-utf8 : goal.returns-clause-utf8
returns-clause-utf8 c = rw c.in_ok-from_str.ensures (is_utf8-from_IsUtf8 _ c.utf8.text)
