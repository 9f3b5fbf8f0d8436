use Rattle.std.proofs.Common.{arith}
use Rattle.std.specs.BTreeMap.Entry.{map_with_value}
use Rattle.smithy_http.proofs.PlaceLemmas.{claimed-old, claimed-new}
use Rattle.smithy_http.proofs.pairs.claim_mapped.Goals as goal

pub returns-then-place-pairs : goal.returns-then-place-pairs
returns-then-place-pairs c =
    let put = c.or_insert-place.result.now in
    let told = claimed-old c.args.places.now (map_with_value c.in_ok-places.field-0 put) c.in_ok-name.name c.args.pairs.now put c.requires c.args.name.now c.in_ok-name.ensures.ok (grind arith) (c.in_ok-places.ensures.update.0 put) c.if-place-pairs.true in
    (told.0, record { at = λ q. grind (arith, told.1.at q); apart = told.1.apart })

pub returns-else-place-pairs : goal.returns-else-place-pairs
returns-else-place-pairs c =
    let put = c.or_insert-place.result.now in
    let told = claimed-new c.args.places.now (map_with_value c.in_ok-places.field-0 put) c.in_ok-name.name c.args.pairs.now put c.requires c.args.name.now c.in_ok-name.ensures.ok (grind arith) (c.in_ok-places.ensures.update.0 put) c.if-place-pairs.false in
    (told.0, record { at = λ q. grind (arith, told.1.at q); apart = told.1.apart })
