use Rattle.std.proofs.Common.{◌≡◌, Ok, Err, sym, ap, ◌∙◌, arith}
use Rattle.smithy_json.specs.views.JsonView.{view, members_view, entries}
use Rattle.smithy_json.specs.PutMembers.{place_of}
use Rattle.smithy_json.proofs.OrderLemmas.{place_within, place_by_end, put_over, put_between, put_ordered}
use Rattle.smithy_json.proofs.in_order.put_member.Goals as goal

pub index_mut-requires : goal.index_mut-requires
index_mut-requires c =
    let name = c.args.name.now in
    let at : place_of name (entries c.args.members.now.items) ≡ Ok c.in-Ok.place = ap (λ ms. place_of name (entries ms)) (sym c.as_slice.ensures.value) ∙ sym c.in-Ok.ensures in
    let within = place_within name c.args.members.now.items c.in-Ok.place at in
    omega (arith, within)

pub insert-requires : goal.insert-requires
insert-requires c =
    let name = c.args.name.now in
    let at : place_of name (entries c.args.members.now.items) ≡ Err c.in-Err.place = ap (λ ms. place_of name (entries ms)) (sym c.as_slice.ensures.value) ∙ sym c.in-Err.ensures in
    let by_end = place_by_end name c.args.members.now.items c.in-Err.place at in
    omega (arith, by_end)

pub returns-in-Ok : goal.returns-in-Ok
returns-in-Ok c =
    let name = c.args.name.now in
    let is = put_over (c.args.name, c.args.value) c.args.members.now.items c.in-Ok.place (ap (λ ms. place_of name (entries ms)) (sym c.as_slice.ensures.value) ∙ sym c.in-Ok.ensures) in
    record { put = is; ordered = put_ordered c.args.members.now.items _ name (view c.args.value) is c.requires }

pub returns-in_ok-insert-in-Err : goal.returns-in_ok-insert-in-Err
returns-in_ok-insert-in-Err c =
    let name = c.args.name.now in
    let is = ap members_view c.in_ok-insert-in-Err.ensures.items
    ∙ put_between (c.args.name, c.args.value) c.args.members.now.items c.in-Err.place (ap (λ ms. place_of name (entries ms)) (sym c.as_slice.ensures.value) ∙ sym c.in-Err.ensures) in
    record { put = is; ordered = put_ordered c.args.members.now.items _ name (view c.args.value) is c.requires }
