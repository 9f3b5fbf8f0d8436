use Rattle.smithy_document.proofs.Common.{◌≡◌, ◌<◌, ◌≤◌, length, ◌∙◌, arith}
use Rattle.smithy_document.proofs.JsonOrder.{spans_turn, spans_all}
use Rattle.smithy_document.proofs.json_fields.JsonFields.spans.Goals as goal

pub fields-preserved : goal.fields-preserved
fields-preserved c =
    let fs = c.args.self.now.list.items in
    let before : c.fields.position < c.len-position-end.result = c.fields-test.true in
    let size : c.len-position-end.result ≡ length fs = c.len-position-end.ensures ∙ c.args.self.now.list.ok.0 in
    let within : c.fields.position < length fs = omega (arith, before, size) in
    spans_turn c.args.whole fs c.fields.position c.index-field.result.now c.fields.spans.entries c.insert.new.self.entries c.as_str.result c.end.result within
    c.index-field.ensures c.as_str.ensures c.end.ensures c.in_ok-_before.ensures.entries c.fields.invariant

pub returns : goal.returns
returns c =
    let fs = c.args.self.now.list.items in
    let past : c.len-position-end.result ≤ c.fields.position = c.fields-test.false in
    let size : c.len-position-end.result ≡ length fs = c.len-position-end.ensures ∙ c.args.self.now.list.ok.0 in
    let behind : length fs ≤ c.fields.position = omega (arith, past, size) in
    spans_all c.args.whole fs c.fields.position c.fields.spans.entries behind c.fields.invariant
