use Rattle.smithy_document.proofs.CursorLemmas.{member_next, members_closed}
use Rattle.smithy_document.proofs.cursor.Cursor.next_member.Goals as goal

pub returns-in-Some : goal.returns-in-Some
returns-in-Some c = λ tells. member_next tells _ _ _ _ _ _ c.requires c.in-Some.ensures

pub returns-in-None : goal.returns-in-None
returns-in-None c = λ tells. members_closed tells _ _ _ _ _ c.requires c.in-None.ensures
