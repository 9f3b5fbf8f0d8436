use Rattle.std.proofs.Common.{◌≡◌, ◌∙◌, ap, ℕ, List, length, Bor}
use Rattle.std.specs.List.{sum}
use Rattle.std.proofs.lemmas.Iterator.Consumers.{YieldsList-from_first, count_from_yields_List}
use Rattle.smithy_bind.proofs.SummaryLemmas.{lines_are}
use Rattle.smithy_bind.proofs.generate.summary.Goals as goal

pub returns : goal.returns
returns c =
    let r = c.args.request.now in
    let body = c.as_slice-body.ensures ∙ c.body.ensures in
    let headers : c.count-headers.result ≡ length r.headers =
    count_from_yields_List _ _ c.count-headers.ensures.ran (YieldsList-from_first (λ (p : Bor (List ℕ) × Bor (List ℕ)). (p.0.now, p.1.now)) (λ rest. rest) r.headers (c.iter_bytes.ensures ∙ c.headers.ensures)) in
    lines_are r _ c.uri-target.result.now c.as_slice-body.result.now c.count-headers.result c.sum_of-sum.result
    c.uri-target.ensures.value headers body (c.sum_of-sum.ensures ∙ ap sum body)
    (ap (λ v. v.items) c.into_bytes.ensures.value ∙ c.in_ok-lines.ensures.ok)
