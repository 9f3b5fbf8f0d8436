use Rattle.smithy_document.proofs.laws.schemas_stand.Goals as goal

pub returns : goal.returns
returns c = record { table = c.members.ensures.sound; members = c.members.ensures.in_place }
