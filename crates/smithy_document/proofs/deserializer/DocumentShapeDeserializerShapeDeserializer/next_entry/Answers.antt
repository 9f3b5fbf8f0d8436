use Rattle.std.specs.Prelude.{true}
use Rattle.smithy_document.proofs.Common.{is_none, view, document_in, opened_in}
use Rattle.smithy_serde.specs.declared.scalar.Group.TheVariants as group
use Rattle.smithy_document.proofs.CursorLemmas.{in_told}
use Rattle.smithy_document.proofs.deserializer.DocumentShapeDeserializerShapeDeserializer.next_entry.Goals as goal

pub next_entry-requires : goal.next_entry-requires
next_entry-requires g c =
    let r = c.args.self.now in
    in_told (is_none r.settings) group.Map (document_in (view r.root.now) r.cursor) (opened_in (view r.root.now) r.cursor) c.requires

pub returns-clause-next : goal.returns-clause-next
returns-clause-next g c = c.next_entry.ensures (is_none c.args.self.now.settings)

pub returns-clause-plainly : goal.returns-clause-plainly
returns-clause-plainly g c = c.next_entry.ensures true
