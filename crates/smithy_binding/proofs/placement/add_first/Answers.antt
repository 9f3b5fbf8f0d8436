use Rattle.smithy_binding.proofs.Common.{rules, ◌≡◌, ap, sym, ◌∙◌, true, on_ok_weaker, directed_of, fits_member, value_in, writes_in, list, IsSingle}
use Rattle.smithy_serde.specs.Values.{map}
use Rattle.smithy_serde.specs.declared.value.ShapeValue.{ShapeValue}
use Rattle.smithy_binding.proofs.NameSteps.{own-map}
use Rattle.smithy_binding.proofs.FirstKinds.{list-fits, map-fits, single-fits}
use Rattle.smithy_binding.proofs.placement.add_first.Goals as goal

pub add_list-requires-clause-placed : goal.add_list-requires-clause-placed
unfolding value_in
add_list-requires-clause-placed g c =
    let m = directed_of c.args.member in
    let ws = writes_in c.args.table.now c.in-List.elements in
    let fit : fits_member m (list ws) ≡ true = sym (ap (λ (v : ShapeValue). fits_member m (value_in c.args.table.now v)) c.in-List.is) ∙ c.requires.fits in
    list-fits m ws c.requires.placed c.requires.kinds fit

pub returns-in-Map-clause-kept : goal.returns-in-Map-clause-kept
returns-in-Map-clause-kept g c = g.met.N.HeaderNames.keeps_same c.args.names.now

pub returns-in-Map-clause-named : goal.returns-in-Map-clause-named
unfolding value_in
returns-in-Map-clause-named g c =
    let m = directed_of c.args.member in
    let ws = writes_in c.args.table.now c.in-Map.entries in
    let fit : fits_member m (map ws) ≡ true = sym (ap (λ (v : ShapeValue). fits_member m (value_in c.args.table.now v)) c.in-Map.is) ∙ c.requires.fits in
    on_ok_weaker c.add_map.result (λ _. own-map _ c.args.member (map-fits m ws c.requires.placed c.requires.kinds fit)) c.add_map.ensures.ok

pub add_map-requires : goal.add_map-requires
unfolding value_in
add_map-requires g c =
    let m = directed_of c.args.member in
    let ws = writes_in c.args.table.now c.in-Map.entries in
    let fit : fits_member m (map ws) ≡ true = sym (ap (λ (v : ShapeValue). fits_member m (value_in c.args.table.now v)) c.in-Map.is) ∙ c.requires.fits in
    record { bound = c.requires.bound; placed = map-fits m ws c.requires.placed c.requires.kinds fit }

pub add_single-requires-clause-placed : goal.add_single-requires-clause-placed
unfolding value_in
add_single-requires-clause-placed g c =
    let v = value_in c.args.table.now c.args.value.now in
    let single : IsSingle v = search rules in
    single-fits (directed_of c.args.member) v single c.requires.placed c.requires.kinds c.requires.fits

pub returns-in_default-clause-put : goal.returns-in_default-clause-put
returns-in_default-clause-put g c = c.add_single.ensures.put c.args.table.now
