use Rattle.std.proofs.Common.{sym}
use Rattle.std.proofs.lemmas.Str.{is_utf8-from_IsUtf8}
use Rattle.smithy_wire.proofs.standing.is_utf8.Goals as goal

pub returns : goal.returns
returns c = sym (is_utf8-from_IsUtf8 _ c.utf8._text)
