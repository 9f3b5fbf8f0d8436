use Rattle.smithy_document.proofs.Common.{◌≡◌, length, string_bytes, ◌∙◌}
use Rattle.smithy_document.proofs.TextCuts.{pieces_more, cuts_more}
use Rattle.smithy_document.proofs.text_list.TextList.push.Goals as goal

pub invariant_of-self-2 : goal.invariant_of-self-2
invariant_of-self-2 c =
    let start : c.len-start.result ≡ length (string_bytes c.self.inside.bytes) = c.len-start.ensures ∙ c.self.inside.bytes.bytes.ok.0 in
    let end : c.len.result ≡ length (string_bytes c.push_str.new.self) = c.len.ensures ∙ c.push_str.new.self.bytes.ok.0 in
    rw (c.push_reserved.ensures.items, c.in_ok-try_reserve.ensures.items, start, end, c.in_ok-push_str.ensures.bytes) (cuts_more (string_bytes c.self.inside.bytes) c.args.text.now c.self.inside.cuts.items c.utf8.text c.self.invariant)

pub returns-clause-ok : goal.returns-clause-ok
returns-clause-ok c =
    let start : c.len-start.result ≡ length (string_bytes c.self.inside.bytes) = c.len-start.ensures ∙ c.self.inside.bytes.bytes.ok.0 in
    let end : c.len.result ≡ length (string_bytes c.push_str.new.self) = c.len.ensures ∙ c.push_str.new.self.bytes.ok.0 in
    rw (c.push_reserved.ensures.items, c.in_ok-try_reserve.ensures.items, start, end, c.in_ok-push_str.ensures.bytes, ← c.self.view_is) (pieces_more (string_bytes c.self.inside.bytes) c.args.text.now c.self.inside.cuts.items c.self.invariant)
