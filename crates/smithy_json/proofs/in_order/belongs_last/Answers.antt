use Rattle.std.proofs.Common.{◌≡◌, sym, ◌∙◌, Less}
use Rattle.std.specs.Ordering.{nat_cmp}
use Rattle.std.specs.Cmp.Lexicographic.{slice_cmp}
use Rattle.smithy_json.proofs.OrderedPairs.{above}
use Rattle.smithy_json.proofs.LastPlace.{is_greater, place_behind_last}
use Rattle.smithy_json.proofs.in_order.belongs_last.Goals as goal

pub returns-in-Some : goal.returns-in-Some
returns-in-Some c truth ordered =
    let name = c.args.name.now in
    let m = c.in-Some.last.now in
    let less : slice_cmp nat_cmp m.0.now name ≡ Less = above name m.0.now (is_greater _ (sym c.gt.ensures ∙ truth)) in
    place_behind_last name c.args.members.now m ordered c.in-Some.ensures.item.1 less
