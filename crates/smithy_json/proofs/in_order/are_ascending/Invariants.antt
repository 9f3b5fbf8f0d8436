use Rattle.std.proofs.Common.{drop, MatchOption, ◌↔◌}
use Rattle.smithy_json.specs.views.JsonView.{entries}
use Rattle.smithy_json.proofs.OrderedPairs.{Behind, Ascends}
use Rattle.smithy_json.proofs.in_order.are_ascending.Given as goal

-- the names ascend where those that are left do, behind the one before
abbrev pub invariant-names : goal.invariant-names
invariant-names l =
    let rest = entries (drop l.member-index l.members) in
    MatchOption l.before (Ascends rest) (λ b. Behind b.now rest) ↔ Ascends (entries l.members)
