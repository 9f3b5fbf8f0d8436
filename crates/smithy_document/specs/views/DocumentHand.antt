-- What is seen of a reader of documents.
use Rattle.std.specs.Prelude.{true, Option, is_none, Result}
use Rattle.smithy_document.specs.Words.{option_copied, Document, view, Ghosts, AtHand, SerdeError, ReadScalar, ScalarKind}
use Rattle.smithy_document.specs.SettingsReads.{coercions, ReadsBy}
use Rattle.smithy_document.specs.declared.deserializer.DocumentShapeDeserializer.{DocumentShapeDeserializer}
use Rattle.smithy_document.specs.views.CursorView.{document_in, seen}

-- it tells what it holds exactly where it has no settings
abbrev pub hand : {S : Type 0} {g : _} → DocumentShapeDeserializer S g → AtHand
hand r = seen (is_none r.settings) (view r.root.now) r.cursor

-- what would be seen of it without settings
abbrev pub plain_hand : {S : Type 0} {g : _} → DocumentShapeDeserializer S g → AtHand
plain_hand r = seen true (view r.root.now) r.cursor

abbrev pub settings_of : {S : Type 0} {g : _} → DocumentShapeDeserializer S g → Option S
settings_of r = option_copied r.settings

-- the document at hand
abbrev pub document_at_hand : {S : Type 0} {g : _} → DocumentShapeDeserializer S g → Document
document_at_hand r = document_in (view r.root.now) r.cursor

-- what is at hand is read as a scalar, as the settings answer where there are some
abbrev pub ReadsHere : {S : Type 0} {g : _} → Ghosts S → ScalarKind → DocumentShapeDeserializer S g → Result ReadScalar SerdeError → Type 0
ReadsHere by k r result = ReadsBy (coercions by) (settings_of r) k (document_at_hand r) result
