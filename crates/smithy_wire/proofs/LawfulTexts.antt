-- The laws that the functions of `laws` are proved by.
use Rattle.smithy_wire.proofs.Common.{ap, ◌∙◌, sym}
use Rattle.smithy_document.proofs.SoundDocuments.{sound_means}
use Rattle.smithy_wire.specs.Styles.{refusing}
use Rattle.smithy_wire.specs.WireText.{wire_held}
use Rattle.smithy_wire.specs.Laws.{UndoesItself, IsReadBack, IsTextLawful, TextsDiffer}
use Rattle.smithy_wire.proofs.NameLaws.{stand_by, swapped_back}
use Rattle.smithy_wire.proofs.WireLaws.{unwire-wire}
use Rattle.smithy_wire.proofs.TextLaws.{wire_is_lawful}

pub undoes_itself : UndoesItself
undoes_itself side s name stand = swapped_back side s name (stand_by side s stand)

pub is_read_back : IsReadBack
is_read_back style f d stand sound = unwire-wire style f d stand (sound_means d sound)

pub is_text_lawful : IsTextLawful
is_text_lawful style f stand = wire_is_lawful style f stand

pub texts_differ : TextsDiffer
texts_differ names f stand d e sound other low flat same =
    let law = wire_is_lawful (refusing names) f stand in
    let both = sym (law.reads_back d sound low) ∙ ap (wire_held (refusing names) f) same ∙ law.reads_back e other flat in
    cc both
