use Rattle.smithy_response.proofs.Common.{sym, subst, IsAnswer, in_header, in_prefix, settled_at, member_settled}
use Rattle.smithy_response.proofs.transport.Transport.settle.Goals as goal

pub returns-in-Header : goal.returns-in-Header
returns-in-Header c =
    let t = c.args.self.now in
    let named = subst (λ n. IsAnswer (settled_at (in_header n) t.policy t.response c.as_str.result.now c.args.refused) c.settle_header.result) c.as_str-in-Header.ensures c.settle_header.ensures in
    let whole = subst (λ m. IsAnswer (settled_at (in_header c.in-Header.header.name) t.policy t.response m c.args.refused) c.settle_header.result) c.as_str.ensures named in
    subst (λ m. IsAnswer (member_settled t.policy t.response m c.args.refused) c.settle_header.result) (sym c.in-Header.is) whole

pub returns-in-Prefix : goal.returns-in-Prefix
returns-in-Prefix c =
    let t = c.args.self.now in
    let named = subst (λ n. IsAnswer (settled_at (in_prefix n) t.policy t.response c.as_str-in-Prefix.result.now c.args.refused) c.settle_prefix.result) c.as_str-in-Prefix-2.ensures c.settle_prefix.ensures in
    let whole = subst (λ m. IsAnswer (settled_at (in_prefix c.in-Prefix.prefix) t.policy t.response m c.args.refused) c.settle_prefix.result) c.as_str-in-Prefix.ensures named in
    subst (λ m. IsAnswer (member_settled t.policy t.response m c.args.refused) c.settle_prefix.result) (sym c.in-Prefix.is) whole
