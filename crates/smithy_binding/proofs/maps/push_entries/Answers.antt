use Rattle.smithy_binding.proofs.Common.{ap, sym, ◌∙◌, ◌+◌, ◌*◌, ◌++◌, string_bytes, append-nil, directed_of, writes_in, query_names, has_key, unnamed, pairs_at_place, queries}
use Rattle.smithy_binding.proofs.MapEntries.{kept_from, kept-all, kept-at, kept-end, pairs-push}
use Rattle.smithy_binding.proofs.maps.push_entries.Goals as goal

pub loop-place-init : goal.loop-place-init
loop-place-init c = λ t m.
    ap (λ ps. string_bytes c.args.query.now ++ queries ps)
    (kept-all (has_key c.in_ok-names.names) (query_names (directed_of c.args.schema)) m (writes_in t c.args.entries.now) c.in_ok-names.ensures)

pub loop-place-preserved : goal.loop-place-preserved
loop-place-preserved c = λ t m.
    let ws = writes_in t c.args.entries.now in
    let i = c.loop-place.place in
    let names = has_key c.in_ok-names.names in
    let key = c.text_at-key.result.now in
    pairs-push (string_bytes c.loop-place.query) (string_bytes c.push_entry.new.query) (unnamed c.in_ok-names.names key (pairs_at_place ws (2 * i + 1) key)) (kept_from names ws (i + 1))
    (c.in_ok-push_entry.ensures t)
    ∙ sym (ap (λ ps. string_bytes c.loop-place.query ++ queries ps) (kept-at names ws i key (c.len-place-end.ensures t) c.loop-place-test.true (c.text_at-key.ensures t)))
    ∙ c.loop-place.invariant t m

pub returns : goal.returns
returns c = λ t m.
    let ws = writes_in t c.args.entries.now in
    sym (ap (λ ps. string_bytes c.loop-place.query ++ queries ps) (kept-end (has_key c.in_ok-names.names) ws c.loop-place.place (c.len-place-end.ensures t) c.loop-place-test.false)
    ∙ append-nil (string_bytes c.loop-place.query))
    ∙ c.loop-place.invariant t m
