use Rattle.smithy_binding.proofs.Common.{rules, ◌≡◌, refl, ap, sym, ◌∙◌, ◌+◌, ◌∷◌, [], Some, IfErr, directed_of, writes_in, put_all, pairs_fault, TellsFault}
use Rattle.smithy_binding.proofs.MapEntries.{header_of, headers_from, headers-at, headers-end, pairs_fault-more, pairs_fault-stop}
use Rattle.smithy_binding.proofs.Refusals.{IfErr-then}
use Rattle.smithy_binding.proofs.maps.put_entries.Goals as goal

pub loop-place-init : goal.loop-place-init
loop-place-init c = record { legal = refl; put = refl }

pub loop-place-preserved : goal.loop-place-preserved
loop-place-preserved c =
    let t = c.args.table.now in
    let m = directed_of c.args.member in
    let ws = writes_in t c.args.entries.now in
    let prefix = c.args.prefix.now in
    let i = c.loop-place.place in
    let e = header_of prefix c.text_at-key.result.now c.text_at-value.result.now in
    let rest = headers_from prefix ws (i + 1) in
    let here = headers-at prefix ws i c.text_at-key.result.now c.text_at-value.result.now (c.len-place-end.ensures t) c.loop-place-test.true (c.text_at-key.ensures t) (c.text_at-value.ensures t) in
    record {
      legal = sym (pairs_fault-more m e rest c.in_ok-put_entry.ensures.ok) ∙ sym (ap (pairs_fault m) here) ∙ c.loop-place.invariant.legal;
      put = ap (λ hs. put_all hs rest) c.in_ok-put_entry.ensures.put ∙ sym (ap (put_all c.loop-place.headers) here) ∙ c.loop-place.invariant.put;
    }

pub returns-in_err-put_entry : goal.returns-in_err-put_entry
returns-in_err-put_entry c =
    let t = c.args.table.now in
    let m = directed_of c.args.member in
    let ws = writes_in t c.args.entries.now in
    let prefix = c.args.prefix.now in
    let i = c.loop-place.place in
    let e = header_of prefix c.text_at-key.result.now c.text_at-value.result.now in
    let rest = headers_from prefix ws (i + 1) in
    let here = headers-at prefix ws i c.text_at-key.result.now c.text_at-value.result.now (c.len-place-end.ensures t) c.loop-place-test.true (c.text_at-key.ensures t) (c.text_at-value.ensures t) in
    let told : IfErr c.from_residual.result (λ r. TellsFault r (λ f. pairs_fault m (e ∷ []) ≡ Some f)) = search rules in
    record {
      ok = search rules;
      put = search rules;
      err = IfErr-then c.from_residual.result _ _ (λ f one. sym c.loop-place.invariant.legal ∙ ap (pairs_fault m) here ∙ pairs_fault-stop m e rest f one) told;
    }

pub returns : goal.returns
returns c =
    let ws = writes_in c.args.table.now c.args.entries.now in
    let none = headers-end c.args.prefix.now ws c.loop-place.place (c.len-place-end.ensures c.args.table.now) c.loop-place-test.false in
    record {
      ok = sym c.loop-place.invariant.legal ∙ ap (pairs_fault (directed_of c.args.member)) none;
      put = sym (ap (put_all c.loop-place.headers) none) ∙ c.loop-place.invariant.put;
      err = search rules;
    }
