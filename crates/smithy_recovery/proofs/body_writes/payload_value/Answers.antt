use Rattle.std.proofs.Common.{sym, ◌∙◌}
use Rattle.smithy_schema.specs.References.{schema_of}
use Rattle.smithy_recovery.proofs.BodyTold.{blob_kept, text_kept, codec_kept}
use Rattle.smithy_recovery.proofs.body_writes.payload_value.Goals as goal

pub returns-in_ok-blob_payload-in-Blob : goal.returns-in_ok-blob_payload-in-Blob
returns-in_ok-blob_payload-in-Blob g c =
    let m = schema_of c.args.member in
    let t = c.args.table.now in
    blob_kept _ t (g.C.Codec.holds c.args.codec.now) m.node.kind m c.args.body.now c.in_ok-blob_payload-in-Blob.field-0 (sym c.shape_type.ensures ∙ c.in-Blob.is) (c.in_ok-blob_payload-in-Blob.ensures.value t) (c.in_ok-blob_payload-in-Blob.ensures.defined t)

pub returns-in-String : goal.returns-in-String
returns-in-String g c =
    let m = schema_of c.args.member in
    let t = c.args.table.now in
    text_kept _ t (g.C.Codec.holds c.args.codec.now) m.node.kind m c.args.body.now c.text_payload.result (sym c.shape_type.ensures ∙ c.in-String.is) (c.text_payload.ensures t)

pub returns-in_default : goal.returns-in_default
returns-in_default g c =
    let m = schema_of c.args.member in
    let t = c.args.table.now in
    codec_kept t (g.C.Codec.holds c.args.codec.now) m.node.kind m c.args.body.now c.codec_payload.result (λ is. c.in_default.not-Blob (c.shape_type.ensures ∙ is)) (λ is. c.in_default.not-String (c.shape_type.ensures ∙ is))
    c.codec_payload.ensures
